-- Laws of lines: the number of a line. Assumes nothing.
use mathlib.Core.Path.{◌≡◌, refl, sym, ap, ◌∙◌}
use mathlib.Core.Bool.{true, false, cond}
use mathlib.Core.List.{List, [], ◌∷◌}
use mathlib.Core.Logic.{◌⊎◌, inl, inr}
use Prim.Native.Nat.{ℕ, ◌+◌, ◌<◌, ◌≤◌, min}
use lib.Dec.{eqb}
use lib.ListN.{length, take}
use lib.Seq.{take_all}
use Rattle.std.specs.List.{filter}
use native.Mathlib.Omega.{arith}
use Rattle.sets.proofs.Tests.{split, lt_or_le}
use Rattle.words.specs.Lines.{line_ends, line_of}

-- as an iterator counts them
ends_counted : (xs : List ℕ) → length (filter (λ b. eqb b 10) xs) ≡ line_ends xs
unfolding line_ends
ends_counted [] = refl
ends_counted (b ∷ bs) = go (split (eqb b 10)) (ends_counted bs)
  where
    go : (eqb b 10 ≡ true) ⊎ (eqb b 10 ≡ false) → length (filter (λ c. eqb c 10) bs) ≡ line_ends bs
        → length (cond (eqb b 10) (b ∷ filter (λ c. eqb c 10) bs) (filter (λ c. eqb c 10) bs)) ≡ cond (eqb b 10) (line_ends bs + 1) (line_ends bs)
    go (inl e) r = rw e (omega arith)
    go (inr e) r = rw e r

-- up to a place, or to the end where the text has none
pub line_counted : (t : List ℕ) (p k n : ℕ) → k ≡ min p (length t) → n ≡ length (filter (λ b. eqb b 10) (take k t)) → n + 1 ≡ line_of t p
unfolding line_of
line_counted t p k n e f = ap (λ (x : ℕ). x + 1) (f ∙ ends_counted (take k t) ∙ go (lt_or_le (length t) p))
  where
    go : (length t < p) ⊎ (p ≤ length t) → line_ends (take k t) ≡ line_ends (take p t)
    go (inl h) = ap line_ends (take_all k t (omega arith) ∙ sym (take_all p t (omega arith)))
    go (inr h) = ap (λ (x : ℕ). line_ends (take x t)) (omega arith)
