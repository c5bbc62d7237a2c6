-- The lines that start get their numbers, and the lines that they join go into them: one line, or one slot, at a time. Assumes nothing.
use mathlib.Core.Path.{◌≡◌, ap, ap₂, ◌∙◌}
use mathlib.Core.Bool.{true, false, cond}
use mathlib.Core.List.{List}
use Prim.Native.Nat.{ℕ, suc, ◌+◌, ◌%◌, ◌^◌}
use native.Mathlib.Numerals.{add-one}
use lib.Dec.{ltb}
use Rattle.sets.specs.Value.{store, number_at}
use Rattle.percolation.specs.Tree.{Start}
use Rattle.slots.specs.Tables.{root_of}
use Rattle.tree_lines.specs.LineModel.{changed, holding}
use Rattle.tree_levels.specs.LevelModel.{absorbed, numbering, end_of, numbered_at, went_into}

-- ---- one line

-- with the slot that was read
pub numbered_one : (out ms us : List ℕ) (f u : ℕ → ℕ) (X : List Start) (rest : List ℕ) (b r m : ℕ) → r ≡ f m % 2 ^ 32
    → out ≡ holding (changed (cond (ltb r b) (changed f (number_at ms (suc r)) m) f) m 0) u X rest
    → out ≡ holding (numbered_at b (end_of f m) m (numbering f ms us)).into u X rest
unfolding numbered_at end_of
numbered_one out ms us f u X rest b r m z e = e ∙ ap (λ (q : ℕ). holding (changed (cond (ltb q b) (changed f (number_at ms (suc q)) m) f) m 0) u X rest) z

pub stored_one : (xs ys : List ℕ) (f : ℕ → ℕ) (r m x y : ℕ) → r ≡ f m % 2 ^ 32 → x ≡ y → ys ≡ store xs (r + 1) x → ys ≡ store xs (suc (end_of f m)) y
unfolding end_of
stored_one xs ys f r m x y z h e = e ∙ ap₂ (store xs) (add-one r ∙ ap suc z) h

-- ---- the lines that go into others

module _ (es ms us : List ℕ) where
  module _ (f : ℕ → ℕ) (i : ℕ) where
    pub into_yes : absorbed es us i ≡ true
        → went_into es ms us f (suc i) ≡ changed (went_into es ms us f i) (number_at ms (suc i)) (number_at ms (suc (root_of es i)))
    unfolding went_into
    into_yes e = rw (went_into, e)

    pub into_no : absorbed es us i ≡ false → went_into es ms us f (suc i) ≡ went_into es ms us f i
    unfolding went_into
    into_no e = rw (went_into, e)
