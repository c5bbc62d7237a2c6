-- Sums over lists, and counting twice: by the elements of one list and by those of another. Assumes nothing.
use mathlib.Core.Bool.{Bool, true, false, cond}
use mathlib.Core.List.{List, [], ◌∷◌, ◌++◌, map, flatten}
use mathlib.Core.Path.{◌≡◌, refl, sym, ap, ◌∙◌}
use mathlib.Core.Logic.{◌⊎◌, inl, inr}
use Prim.Native.Nat.{ℕ, suc, ◌+◌, ◌≤◌}
use native.Mathlib.Omega.{arith}
use lib.ListN.{length, length-append}
use Rattle.sets.specs.Lists.{keep, below}
use Rattle.sets.proofs.Tests.{split}
use Rattle.sets.proofs.ListLaws.{keep_yes, keep_no, keep_append, map_same, below_more}
use Rattle.percolation.specs.Weights.{sum}

-- ---- how many a test keeps

module _ {A : Type 0} (f : A → Bool) where
  pub count_first : (x : A) (l : List A) → length (keep f (x ∷ l)) ≡ cond (f x) 1 0 + length (keep f l)
  count_first x l = go (split (f x))
    where
      go : (f x ≡ true) ⊎ (f x ≡ false) → length (keep f (x ∷ l)) ≡ cond (f x) 1 0 + length (keep f l)
      go (inl e) = rw e (omega (arith, ap length (keep_yes f x l e)))
      go (inr e) = rw e (omega (arith, ap length (keep_no f x l e)))

  pub count_append : (l m : List A) → length (keep f (l ++ m)) ≡ length (keep f l) + length (keep f m)
  count_append l m = ap length (keep_append f l m) ∙ length-append (keep f l) (keep f m)

  pub count_last : (l : List A) (x : A) → length (keep f (l ++ (x ∷ []))) ≡ length (keep f l) + cond (f x) 1 0
  unfolding keep
  count_last l x = omega (arith, count_append l (x ∷ []), count_first x [])

  pub count_most : (l : List A) → length (keep f l) ≤ length l
  unfolding keep
  count_most [] = omega arith
  count_most (x ∷ l) = go (split (f x)) (count_most l)
    where
      go : (f x ≡ true) ⊎ (f x ≡ false) → length (keep f l) ≤ length l → length (keep f (x ∷ l)) ≤ suc (length l)
      go (inl e) ih = omega (arith, ap length (keep_yes f x l e))
      go (inr e) ih = omega (arith, ap length (keep_no f x l e))

-- the numbers below one more
pub count_below : (f : ℕ → Bool) (n : ℕ) → length (keep f (below (suc n))) ≡ length (keep f (below n)) + cond (f n) 1 0
count_below f n = ap (λ (l : List ℕ). length (keep f l)) (below_more n) ∙ count_last f (below n) n

-- ---- sums

module _ {A : Type 0} where
  pub sum_zero : (l : List A) → sum (map (λ x. 0) l) ≡ 0
  unfolding sum
  sum_zero [] = refl
  sum_zero (x ∷ l) = omega (arith, sum_zero l)

  pub sum_add : (f g : A → ℕ) (l : List A) → sum (map (λ x. f x + g x) l) ≡ sum (map f l) + sum (map g l)
  unfolding sum
  sum_add f g [] = refl
  sum_add f g (x ∷ l) = omega (arith, sum_add f g l)

  -- what a test keeps, one for each
  pub sum_ones : (f : A → Bool) (l : List A) → sum (map (λ x. cond (f x) 1 0) l) ≡ length (keep f l)
  unfolding sum keep
  sum_ones f [] = refl
  sum_ones f (x ∷ l) = omega (arith, sum_ones f l, count_first f x l)

  pub count_flat : (f : A → Bool) (C : List (List A)) → length (keep f (flatten C)) ≡ sum (map (λ c. length (keep f c)) C)
  unfolding sum keep flatten
  count_flat f [] = refl
  count_flat f (c ∷ C) = omega (arith, count_flat f C, count_append f c (flatten C))

-- the number of b that pass with a, over all a, is the number of a that pass with b, over all b
pub sum_swap : {A B : Type 0} (f : A → B → Bool) (P : List A) (R : List B)
    → sum (map (λ a. length (keep (f a) R)) P) ≡ sum (map (λ b. length (keep (λ a. f a b) P)) R)
unfolding sum keep
sum_swap f [] R = sym (sum_zero R)
sum_swap f (a ∷ P) R =
    omega (
      arith,
      sum_swap f P R,
      sum_ones (f a) R,
      sum_add (λ b. cond (f a b) 1 0) (λ b. length (keep (λ x. f x b) P)) R,
      ap sum (map_same (λ b. length (keep (λ x. f x b) (a ∷ P))) (λ b. cond (f a b) 1 0 + length (keep (λ x. f x b) P)) R (λ b. count_first (λ x. f x b) a P)),
    )
