-- Looking for a slot that is there gives it. Assumes nothing.
use mathlib.Core.Path.{◌≡◌, refl}
use mathlib.Core.List.{List}
use Prim.Native.Nat.{ℕ, ◌<◌}
use native.Mathlib.Omega.{arith}
use Rattle.std.specs.Prelude.{Option, Some, None, IsSome}
use Rattle.std.proofs.lemmas.Option.{MatchOption-at_some}
use Rattle.slots.specs.List.{Finds}
use Rattle.slots.specs.Model.{find}

module _ (r : Option ℕ) (S : List ℕ) (n s : ℕ) (f : Finds r S n s) where
  pub found_some : find S n s < n → IsSome r
  found_some = go r f
    where
      go : (o : Option ℕ) → Finds o S n s → find S n s < n → IsSome o
      go None e h = absurd (omega (arith, e))
      go (Some i) e h = refl

  pub found_at : (i : ℕ) → r ≡ Some i → i ≡ find S n s
  found_at i e = (MatchOption-at_some (find S n s ≡ n) (λ j. (j ≡ find S n s) × (j < n)) i e f).0
