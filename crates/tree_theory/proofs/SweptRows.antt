-- Rows written slot by slot: how many there are, that they fit, and those that no slot writes. Assumes nothing.
use mathlib.Core.Path.{◌≡◌, refl, ap, ◌∙◌, subst⁻¹}
use mathlib.Core.Logic.{◌⊎◌, inl, inr}
use mathlib.Core.Bool.{Bool, true, false}
use mathlib.Core.List.{List}
use Prim.Native.Nat.{ℕ, zero, suc, ◌<◌, ◌^◌}
use native.Mathlib.Omega.{arith}
use lib.ListN.{length}
use Rattle.sets.specs.Value.{rows, row, number_at}
use Rattle.sets.proofs.Tests.{split}
use Rattle.sets.proofs.Tables.{length_store, rows_length, row_other}
use Rattle.sets.proofs.RowNumbers.{small_fits, number_lt}
use Rattle.tree_levels.specs.LevelModel.{swept}
use Rattle.tree_levels.proofs.LevelSteps.{swept_none, swept_yes, swept_no}
use Rattle.tree_theory.proofs.UnionsKept.{Bounded, bounded_store}

module _ (test : List ℕ → ℕ → Bool) (place new : ℕ → ℕ) (us : List ℕ) where
  abbrev S : ℕ → List ℕ
  S i = swept test place new us i

  -- what holds of the rows, and stays so at each write, holds in the end
  swept_keeps : (P : List ℕ → Type 0) (n : ℕ) → P us
      → ((i : ℕ) → i < n → test (swept test place new us i) i ≡ true → P (swept test place new us i) → P (swept test place new us (suc i)))
      → P (swept test place new us n)
  swept_keeps P zero start more = subst⁻¹ P (swept_none test place new us) start
  swept_keeps P (suc n) start more = go (split (test (S n) n)) (swept_keeps P n start (λ i l. more i (omega arith)))
    where
      go : (test (S n) n ≡ true) ⊎ (test (S n) n ≡ false) → P (S n) → P (S (suc n))
      go (inl t) p = more n (omega arith) t p
      go (inr t) p = subst⁻¹ P (swept_no test place new us n t) p

  pub swept_length : (n : ℕ) → length (swept test place new us n) ≡ length us
  swept_length n =
      swept_keeps (λ xs. length xs ≡ length us) n refl
      (λ i l t e. ap length (swept_yes test place new us i t) ∙ length_store (S i) (place i) (new (number_at (S i) (place i))) ∙ e)

  pub swept_rows : (n : ℕ) → rows (swept test place new us n) ≡ rows us
  swept_rows n = rows_length (swept test place new us n) us (swept_length n)

  pub swept_bounded : ((x : ℕ) → x < 2 ^ 64 → new x < 2 ^ 64) → (n : ℕ) → Bounded us → Bounded (swept test place new us n)
  swept_bounded fits n b =
      swept_keeps Bounded n b
      (λ i l t r. subst⁻¹ Bounded (swept_yes test place new us i t)
      (bounded_store (S i) (place i) (new (number_at (S i) (place i))) r (small_fits _ (fits _ (number_lt (S i) (place i))))))

  -- a row that no slot writes
  pub swept_other : (n x : ℕ) → ((i : ℕ) → i < n → test (swept test place new us i) i ≡ true → x ≡ place i → ⊥) → row (swept test place new us n) x ≡ row us x
  swept_other n x apart =
      swept_keeps (λ xs. row xs x ≡ row us x) n refl
      (λ i l t e. ap (λ (xs : List ℕ). row xs x) (swept_yes test place new us i t)
      ∙ row_other (S i) (place i) x (new (number_at (S i) (place i))) (apart i l t) ∙ e)
