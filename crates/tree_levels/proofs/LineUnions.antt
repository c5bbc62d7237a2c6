-- The classes show their unions in their lines, one end at a time: what a line shows then. Assumes nothing.
use mathlib.Core.Path.{◌≡◌, refl, sym, ap, ◌∙◌}
use mathlib.Core.Logic.{◌⊎◌, inl, inr}
use mathlib.Core.Bool.{true, false}
use mathlib.Core.List.{List}
use Prim.Native.Nat.{ℕ, zero, suc, ◌<◌}
use native.Mathlib.Omega.{arith}
use lib.Dec.{eqb}
use borrow.Author.Tests.{eq-eqb, eqb-true}
use Rattle.sets.specs.Value.{row, number_at}
use Rattle.sets.proofs.Tests.{split, never, same_or_not}
use Rattle.slots.specs.Tables.{root_of}
use Rattle.tree_lines.specs.LineModel.{changed}
use Rattle.tree_lines.proofs.LineFields.{changed_at, changed_other}
use Rattle.tree_levels.specs.LevelModel.{grew_to}

module _ (es ms us : List ℕ) where
  module _ (u : ℕ → ℕ) (i : ℕ) where
    grew_yes : eqb (root_of es i) i ≡ true → grew_to es ms us u (suc i) ≡ changed (grew_to es ms us u i) (number_at ms (suc i)) (row us i)
    unfolding grew_to
    grew_yes e = rw (grew_to, e)

    grew_no : eqb (root_of es i) i ≡ false → grew_to es ms us u (suc i) ≡ grew_to es ms us u i
    unfolding grew_to
    grew_no e = rw (grew_to, e)

  -- ---- what line m shows then

  module _ (u : ℕ → ℕ) (m : ℕ) where
    -- no class has it
    pub grew_other : (i : ℕ) → ((r : ℕ) → r < i → root_of es r ≡ r → number_at ms (suc r) ≡ m → ⊥) → grew_to es ms us u i m ≡ u m
    unfolding grew_to
    grew_other zero h = refl
    grew_other (suc i) h = go (split (eqb (root_of es i) i)) (grew_other i (λ r l. h r (omega arith)))
      where
        go : (eqb (root_of es i) i ≡ true) ⊎ (eqb (root_of es i) i ≡ false) → grew_to es ms us u i m ≡ u m → grew_to es ms us u (suc i) m ≡ u m
        go (inl e) rest =
            ap (λ (f : ℕ → ℕ). f m) (grew_yes u i e)
            ∙ changed_other (grew_to es ms us u i) (number_at ms (suc i)) (row us i) m (λ z. h i (omega arith) (eqb-true (root_of es i) i e) (sym z)) ∙ rest
        go (inr e) rest = ap (λ (f : ℕ → ℕ). f m) (grew_no u i e) ∙ rest

    -- a class has it, and each that does has the union v
    pub grew_one : (i v : ℕ) → ((r : ℕ) → r < i → root_of es r ≡ r → number_at ms (suc r) ≡ m → row us r ≡ v)
        → (r : ℕ) → r < i → root_of es r ≡ r → number_at ms (suc r) ≡ m → grew_to es ms us u i m ≡ v
    grew_one zero v h r l e z = absurd (omega arith)
    grew_one (suc i) v h r l e z =
        go (same_or_not (number_at ms (suc i)) m) (split (eqb (root_of es i) i)) (same_or_not r i) (λ k. grew_one i v (λ q a. h q (omega arith)) r k e z)
      where
        go : (number_at ms (suc i) ≡ m) ⊎ (number_at ms (suc i) ≡ m → ⊥) → (eqb (root_of es i) i ≡ true) ⊎ (eqb (root_of es i) i ≡ false)
            → (r ≡ i) ⊎ (r ≡ i → ⊥) → (r < i → grew_to es ms us u i m ≡ v) → grew_to es ms us u (suc i) m ≡ v
        go (inl n) (inl t) s rest =
            ap (λ (f : ℕ → ℕ). f m) (grew_yes u i t)
            ∙ ap (λ (x : ℕ). changed (grew_to es ms us u i) x (row us i) m) n ∙ changed_at (grew_to es ms us u i) m (row us i)
            ∙ h i (omega arith) (eqb-true (root_of es i) i t) n
        go (inr n) (inl t) (inl s) rest = absurd (n (ap (λ (x : ℕ). number_at ms (suc x)) (sym s) ∙ z))
        go (inr n) (inl t) (inr s) rest =
            ap (λ (f : ℕ → ℕ). f m) (grew_yes u i t)
            ∙ changed_other (grew_to es ms us u i) (number_at ms (suc i)) (row us i) m (λ y. n (sym y)) ∙ rest (omega (arith, s))
        go n (inr t) (inl s) rest = never (eqb (root_of es i) i) (eq-eqb (root_of es i) i (ap (root_of es) (sym s) ∙ e ∙ s)) t
        go n (inr t) (inr s) rest = ap (λ (f : ℕ → ℕ). f m) (grew_no u i t) ∙ rest (omega (arith, s))
