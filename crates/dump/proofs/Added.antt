-- What is added up over a list, one entry after the other: for any list and any number of an entry. Assumes nothing.
use mathlib.Core.Path.{◌≡◌, sym, ap, ◌∙◌}
use mathlib.Core.List.{[], List, ◌∷◌, map}
use Prim.Native.Nat.{ℕ, suc, zero, ◌+◌, ◌*◌, ◌<◌, ◌≤◌, ◌^◌}
use native.Mathlib.Omega.{arith}
use native.Mathlib.Numerals.{add-one}
use Rattle.std.specs.List.{sum_by, range_with_len}
use Rattle.std.proofs.lemmas.List.Sums.{sum_by-cons}
use Rattle.std.proofs.lemmas.List.FromFn.{length-range_with_len}
use lib.ListN.{length}
use Rattle.sets.specs.Lists.{below}
use Rattle.sets.proofs.ListLaws.{map_append, range_below}
use Rattle.sheet.specs.Sheet.{list_of}
use Rattle.sheet.proofs.Lists.{list_of_none, list_of_more}
use Rattle.percolation.specs.Weights.{sum}
use Rattle.percolation.proofs.Sums.{sum_none, sum_first, sum_append}

module _ {A : Type 0} (g : A → ℕ) (f : ℕ → A) where
  -- the sum over the first n entries
  abbrev pub added_to : ℕ → ℕ
  added_to n = sum (map g (list_of f n))

  pub added_none : added_to 0 ≡ 0
  added_none = ap (λ l. sum (map g l)) (list_of_none f) ∙ sum_none

  pub added_more : (n : ℕ) → added_to (n + 1) ≡ added_to n + g (f n)
  added_more n =
      omega (
        arith,
        ap added_to (add-one n) ∙ ap (λ l. sum (map g l)) (list_of_more f n) ∙ ap sum (map_append g (list_of f n) (f n ∷ [])) ∙ sum_append (map g (list_of f n)) (g (f n) ∷ []),
        sum_first (g (f n)) [],
        sum_none,
      )

  added : (l : List ℕ) → sum_by (λ i. g (f i)) l ≡ sum (map g (map f l))
  added [] = sym sum_none
  added (x ∷ l) = sum_by-cons (λ i. g (f i)) x l ∙ ap (λ (n : ℕ). g (f x) + n) (added l) ∙ sym (sum_first (g (f x)) (map g (map f l)))

  -- as an iterator adds it up
  pub added_by : (n : ℕ) → sum_by (λ i. g (f i)) (range_with_len 0 n) ≡ added_to n
  unfolding list_of
  added_by n = ap (sum_by (λ i. g (f i))) (range_below n) ∙ added (below n)

  -- at most 65,535 for each
  added_few : ((i : ℕ) → g (f i) ≤ 65535) → (l : List ℕ) (n : ℕ) → length l ≡ n → sum_by (λ i. g (f i)) l ≤ 65535 * n
  added_few h [] n e = omega arith
  added_few h (x ∷ l) zero e = absurd (omega arith)
  added_few h (x ∷ l) (suc n) e = omega (arith, h x, sum_by-cons (λ i. g (f i)) x l, added_few h l n (omega arith))

  pub added_fits : ((i : ℕ) → g (f i) ≤ 65535) → (n : ℕ) → n < 65536 → sum_by (λ i. g (f i)) (range_with_len 0 n) < 2 ^ 64
  added_fits h n l = omega (arith, added_few h (range_with_len 0 n) n (length-range_with_len 0 n), l)
