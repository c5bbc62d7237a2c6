-- One loop over the numbers i below 4,096, with i / 64 and i % 64 for the lower and the higher part, takes the pairs of at most 64 parts in their order: the
-- pairs before i and those from i on, a step at a time. Assumes nothing.
use mathlib.Core.Path.{◌≡◌, refl, sym, ap, ap₂, ◌∙◌}
use mathlib.Core.Logic.{◌⊎◌, inl, inr}
use mathlib.Core.Bool.{Bool, true, false, ◌&&◌}
use mathlib.Core.List.{List, [], ◌∷◌, ◌++◌, map, flatten, append-nil, append_assoc}
use Prim.Native.Nat.{ℕ, zero, suc, ◌+◌, ◌-◌, ◌*◌, ◌/◌, ◌%◌, ◌≤◌, ◌<◌}
use native.Mathlib.Omega.{arith}
use native.Mathlib.Numerals.{add-one}
use lib.Dec.{ltb}
use lib.ListN.{length, length-append}
use borrow.Author.Tests.{lt-ltb, le-ltb}
use Rattle.sets.specs.Lists.{keep, from, below}
use Rattle.sets.proofs.Tests.{split, no_and}
use Rattle.sets.proofs.ListLaws.{keep_yes, keep_no, keep_same, keep_append, keep_map, no_member, map_append, from_of, below_of, below_more, below_split}
use Rattle.made.specs.Made.{pairs_of, pairs}
use Rattle.made.specs.Model.{pair_at, is_pair, pairs_before, pairs_from}
use Rattle.made.proofs.Pairs.{keep_empty, row_is, rows, rows_of, pairs_is}

-- ---- the test

-- the higher part is not below p
pub pair_past : (p l h : ℕ) → p ≤ h → is_pair p (l, h) ≡ false
unfolding is_pair
pair_past p l h a = ap (λ (b : Bool). ltb l h && b) (le-ltb h p a) ∙ no_and (ltb l h)

-- ---- the pairs before number i

before_is : (p i : ℕ) → pairs_before p i ≡ keep (is_pair p) (map pair_at (below i))
unfolding pairs_before
before_is p i = refl

from_is : (p i : ℕ) → pairs_from p i ≡ keep (is_pair p) (map pair_at (from i (4096 - i)))
unfolding pairs_from
from_is p i = refl

pub before_none : (p : ℕ) → pairs_before p 0 ≡ []
unfolding pairs_before keep below from
before_none p = refl

before_more : (p i : ℕ) → pairs_before p (i + 1) ≡ pairs_before p i ++ keep (is_pair p) (pair_at i ∷ [])
unfolding pairs_before
before_more p i =
    ap (λ (n : ℕ). keep (is_pair p) (map pair_at (below n))) (add-one i) ∙ ap (λ (l : List ℕ). keep (is_pair p) (map pair_at l)) (below_more i)
    ∙ ap (keep (is_pair p)) (map_append pair_at (below i) (i ∷ [])) ∙ keep_append (is_pair p) (map pair_at (below i)) (pair_at i ∷ [])

pub before_yes : (p i : ℕ) → is_pair p (pair_at i) ≡ true → pairs_before p (i + 1) ≡ pairs_before p i ++ (pair_at i ∷ [])
unfolding keep
before_yes p i e = before_more p i ∙ ap (λ (l : List (ℕ × ℕ)). pairs_before p i ++ l) (keep_yes (is_pair p) (pair_at i) [] e)

pub before_no : (p i : ℕ) → is_pair p (pair_at i) ≡ false → pairs_before p (i + 1) ≡ pairs_before p i
unfolding keep
before_no p i e = before_more p i ∙ ap (λ (l : List (ℕ × ℕ)). pairs_before p i ++ l) (keep_no (is_pair p) (pair_at i) [] e) ∙ append-nil (pairs_before p i)

-- no more than numbers
pub before_few : (p i : ℕ) → length (pairs_before p i) ≤ i
before_few p zero = omega (arith, ap length (before_none p))
before_few p (suc i) = go (split (is_pair p (pair_at i))) (before_few p i)
  where
    same : suc i ≡ i + 1
    same = omega arith

    go : (is_pair p (pair_at i) ≡ true) ⊎ (is_pair p (pair_at i) ≡ false) → length (pairs_before p i) ≤ i → length (pairs_before p (suc i)) ≤ suc i
    go (inl e) r = omega (arith, ap (λ (n : ℕ). length (pairs_before p n)) same, ap length (before_yes p i e), length-append (pairs_before p i) (pair_at i ∷ []))
    go (inr e) r = omega (arith, ap (λ (n : ℕ). length (pairs_before p n)) same, ap length (before_no p i e))

-- ---- those from number i on

from_first : (i n m : ℕ) → n ≡ suc m → from i n ≡ i ∷ from (i + 1) m
unfolding from
from_first i n m e = ap (from i) e ∙ ap (λ (k : ℕ). i ∷ from k m) (sym (add-one i))

from_next : (p i : ℕ) → i < 4096 → pairs_from p i ≡ keep (is_pair p) (pair_at i ∷ map pair_at (from (i + 1) (4096 - (i + 1))))
unfolding pairs_from
from_next p i h = ap (λ (l : List ℕ). keep (is_pair p) (map pair_at l)) (from_first i (4096 - i) (4096 - (i + 1)) (omega arith))

pub from_yes : (p i : ℕ) → i < 4096 → is_pair p (pair_at i) ≡ true → pairs_from p i ≡ pair_at i ∷ pairs_from p (i + 1)
unfolding pairs_from
from_yes p i h e = from_next p i h ∙ keep_yes (is_pair p) (pair_at i) (map pair_at (from (i + 1) (4096 - (i + 1)))) e

pub from_no : (p i : ℕ) → i < 4096 → is_pair p (pair_at i) ≡ false → pairs_from p i ≡ pairs_from p (i + 1)
unfolding pairs_from
from_no p i h e = from_next p i h ∙ keep_no (is_pair p) (pair_at i) (map pair_at (from (i + 1) (4096 - (i + 1)))) e

pub from_none : (p : ℕ) → pairs_from p 4096 ≡ []
unfolding pairs_from keep from
from_none p = refl

-- ---- all of them are the pairs, in their order

-- the numbers of one lower part
one_row : (l j n : ℕ) → j + n ≤ 64 → map pair_at (from (64 * l + j) n) ≡ map (λ (h : ℕ). (l, h)) (from j n)
unfolding from
one_row l j zero h = refl
one_row l j (suc n) h =
    let a : (64 * l + j) / 64 ≡ l = omega arith in
    let b : (64 * l + j) % 64 ≡ j = omega arith in
    let s : suc (64 * l + j) ≡ 64 * l + suc j = omega arith in
    ap₂ (λ (x y : ℕ). (x, y) ∷ map pair_at (from (suc (64 * l + j)) n)) a b
    ∙ ap (λ (t : List (ℕ × ℕ)). (l, j) ∷ t) (ap (λ (k : ℕ). map pair_at (from k n)) s ∙ one_row l (suc j) n (omega arith))

first_row : (l n : ℕ) → n ≤ 64 → map pair_at (from (64 * l) n) ≡ map (λ (h : ℕ). (l, h)) (below n)
unfolding below
first_row l n h =
    ap (λ (k : ℕ). map pair_at (from k n)) (let e : 64 * l ≡ 64 * l + 0 = omega arith in e) ∙ one_row l 0 n (omega arith)

module _ (p : ℕ) (few : p ≤ 64) where
  row_kept : (l : ℕ) → keep (λ (h : ℕ). is_pair p (l, h)) (below 64) ≡ keep (ltb l) (below p)
  unfolding is_pair
  row_kept l =
      let f : ℕ → Bool = λ (h : ℕ). is_pair p (l, h) in
      ap (keep f) (below_split p 64 few) ∙ keep_append f (below p) (from p (64 - p))
      ∙ ap₂ (λ (a b : List ℕ). a ++ b) (keep_same f (ltb l) (below p) (λ h m. inside h (below_of p m)))
      (keep_empty f (from p (64 - p)) (λ h m. pair_past p l h (from_of p (64 - p) m).0))
      ∙ append-nil (keep (ltb l) (below p))
    where
      inside : (h : ℕ) → h < p → ltb l h && ltb h p ≡ ltb l h
      inside h k = ap (λ (b : Bool). ltb l h && b) (lt-ltb h p k) ∙ and_true (ltb l h)
        where
          and_true : (b : Bool) → b && true ≡ b
          and_true true = refl
          and_true false = refl

  row_pairs : (l : ℕ) → keep (is_pair p) (map pair_at (from (64 * l) 64)) ≡ pairs_of p l
  row_pairs l =
      ap (keep (is_pair p)) (first_row l 64 (omega arith)) ∙ keep_map (is_pair p) (λ (h : ℕ). (l, h)) (below 64)
      ∙ ap (map (λ (h : ℕ). (l, h))) (row_kept l) ∙ sym (row_is p l)

flat_append : {A : Type 0} (C D : List (List A)) → flatten (C ++ D) ≡ flatten C ++ flatten D
unfolding flatten
flat_append [] D = refl
flat_append (c ∷ C) D = ap (λ (l : List _). c ++ l) (flat_append C D) ∙ sym (append_assoc c (flatten C) (flatten D))

flat_one : {A : Type 0} (c : List A) → flatten (c ∷ []) ≡ c
unfolding flatten
flat_one c = append-nil c

no_rows_lem : (p : ℕ) → flatten (map (pairs_of p) (below 0)) ≡ []
unfolding flatten below from
no_rows_lem p = refl

module _ (p : ℕ) (few : p ≤ 64) where
  -- the numbers of the lower parts below n
  before_rows : (n : ℕ) → pairs_before p (64 * n) ≡ flatten (map (pairs_of p) (below n))
  before_rows zero = before_none p ∙ sym (no_rows_lem p)
  before_rows (suc n) =
      let g : 64 * suc n - 64 * n ≡ 64 = omega arith in
      let f : below (64 * suc n) ≡ below (64 * n) ++ from (64 * n) 64 =
      below_split (64 * n) (64 * suc n) (omega arith) ∙ ap (λ (k : ℕ). below (64 * n) ++ from (64 * n) k) g in
      before_is p (64 * suc n) ∙ ap (λ (l : List ℕ). keep (is_pair p) (map pair_at l)) f
      ∙ ap (keep (is_pair p)) (map_append pair_at (below (64 * n)) (from (64 * n) 64))
      ∙ keep_append (is_pair p) (map pair_at (below (64 * n))) (map pair_at (from (64 * n) 64))
      ∙ ap₂ (λ (a b : List (ℕ × ℕ)). a ++ b) (sym (before_is p (64 * n)) ∙ before_rows n) (row_pairs p few n ∙ sym (flat_one (pairs_of p n)))
      ∙ sym (flat_append (map (pairs_of p) (below n)) (pairs_of p n ∷ []))
      ∙ ap flatten (sym (map_append (pairs_of p) (below n) (n ∷ [])))
      ∙ ap (λ (l : List ℕ). flatten (map (pairs_of p) l)) (sym (below_more n))

  -- parts from p on have none
  past_none : rows p p (64 - p) ≡ []
  past_none = no_member (rows p p (64 - p)) (λ e m. let h = rows_of p p (64 - p) e m in let z : ⊥ = omega (arith, h.0, h.1, h.2) in z)

  pub before_all : pairs_before p 4096 ≡ pairs p
  before_all =
      before_rows 64 ∙ ap (λ (l : List ℕ). flatten (map (pairs_of p) l)) (below_split p 64 few)
      ∙ ap flatten (map_append (pairs_of p) (below p) (from p (64 - p)))
      ∙ flat_append (map (pairs_of p) (below p)) (map (pairs_of p) (from p (64 - p)))
      ∙ ap (λ (l : List (ℕ × ℕ)). flatten (map (pairs_of p) (below p)) ++ l) past_none
      ∙ append-nil (flatten (map (pairs_of p) (below p))) ∙ sym (pairs_is p)

  -- those before i, then those from i on
  pub pairs_split : (i : ℕ) → i ≤ 4096 → pairs p ≡ pairs_before p i ++ pairs_from p i
  pairs_split i h =
      sym before_all ∙ before_is p 4096 ∙ ap (λ (l : List ℕ). keep (is_pair p) (map pair_at l)) (below_split i 4096 h)
      ∙ ap (keep (is_pair p)) (map_append pair_at (below i) (from i (4096 - i)))
      ∙ keep_append (is_pair p) (map pair_at (below i)) (map pair_at (from i (4096 - i)))
      ∙ ap₂ (λ (a b : List (ℕ × ℕ)). a ++ b) (sym (before_is p i)) (sym (from_is p i))

  pub from_all : pairs_from p 0 ≡ pairs p
  from_all = sym (pairs_split 0 (omega arith) ∙ ap (λ (l : List (ℕ × ℕ)). l ++ pairs_from p 0) (before_none p))
