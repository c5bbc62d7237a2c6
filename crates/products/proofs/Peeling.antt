-- The weights of a set's pairs while its parts are taken from it, the lowest first. Assumes nothing.
use mathlib.Core.Path.{◌≡◌, refl, sym, ap, ◌∙◌, subst}
use mathlib.Core.Bool.{Bool, true, false, cond}
use mathlib.Core.List.{List, [], ◌∷◌, ◌++◌, map, map-map, foldl, foldr}
use Prim.Native.Nat.{ℕ, min, ◌+◌, ◌*◌, ◌^◌, ◌≤◌, ◌<◌}
use native.Mathlib.Omega.{arith}
use lib.Dec.{eqb}
use lib.ListN.{get_or}
use borrow.Author.Tests.{eqb-true, eqb-false}
use Rattle.sets.specs.Sets.{out, lowest, members}
use Rattle.sets.specs.Value.{width}
use Rattle.sets.proofs.ListLaws.{map_append}
use Rattle.sets.proofs.Laws.{has_lt, out_lt, out_less}
use Rattle.sets.proofs.Members.{answer_has, members_none, members_next}
use Rattle.percolation.specs.Strength.{each_pair, pairs_of, weakest_of}
use Rattle.percolation.proofs.Strength.{pair}
use Rattle.products.specs.Model.{pair_weight, table_weights, part_weights}

fold_append : {A : Type 0} (f : A → ℕ → A) (v : A) (l m : List ℕ) → foldl f v (l ++ m) ≡ foldl f (foldl f v l) m
fold_append f v [] m = refl
fold_append f v (x ∷ l) m = fold_append f (f v x) l m

-- ---- r is the code's `lowest` of a set s that has parts, and u is s without it

module _ (s r : ℕ) (z : eqb s 0 ≡ false) (e : r ≡ cond (eqb s 0) width (lowest s)) (fits : s < 2 ^ width) where
  pub part_below : r < 64
  part_below = has_lt 64 r s fits (answer_has width s r z e)

  module _ (u : ℕ) (g : u ≡ out r s) where
    pub fewer : u < s
    fewer = subst (λ (x : ℕ). x < s) (sym g) (out_less r s (answer_has width s r z e))

    pub still_fits : u < 2 ^ width
    still_fits = subst (λ (x : ℕ). x < 2 ^ width) (sym g) (out_lt width r s fits)

    next : members width s ≡ r ∷ members width u
    next =
        let a : r ≡ lowest s = e ∙ ap (λ (b : Bool). cond b width (lowest s)) z in
        let b : u ≡ out (lowest s) s = g ∙ ap (λ (x : ℕ). out x s) a in
        members_next width s (eqb-false s 0 z) fits
        ∙ ap (λ (x : ℕ). x ∷ members width (out (lowest s) s)) (sym a)
        ∙ ap (λ (x : ℕ). r ∷ members width x) (sym b)

    -- what is folded over the parts left, from what is there with r
    pub with_more : {A : Type 0} (f : A → ℕ → A) (h : ℕ → ℕ) (v w : A) → w ≡ f v (h r)
        → foldl f w (map h (members width u)) ≡ foldl f v (map h (members width s))
    with_more f h v w d = ap (λ x. foldl f x (map h (members width u))) d ∙ sym (ap (λ (l : List ℕ). foldl f v (map h l)) next)

    weights_next : (T : List ℕ) → table_weights T s ≡ part_weights T r u ++ table_weights T u
    unfolding table_weights pairs_of each_pair
    weights_next T =
        let G : ℕ × ℕ → ℕ = λ e. pair_weight T e.0 e.1 in
        ap (λ (l : List ℕ). map G (each_pair l)) next
        ∙ map_append G (map (pair r) (members width u)) (each_pair (members width u))
        ∙ ap (λ (l : List ℕ). l ++ map G (each_pair (members width u))) (map-map G (pair r) (members width u))

    -- the same over the pairs left, from what is there with the pairs of r
    pub pairs_more : {A : Type 0} (f : A → ℕ → A) (T : List ℕ) (v w : A) → w ≡ foldl f v (part_weights T r u)
        → foldl f w (table_weights T u) ≡ foldl f v (table_weights T s)
    pairs_more f T v w d =
        ap (λ x. foldl f x (table_weights T u)) d
        ∙ sym (ap (λ (l : List ℕ). foldl f v l) (weights_next T) ∙ fold_append f v (part_weights T r u) (table_weights T u))

-- ---- no part is left

pub with_done : {A : Type 0} (f : A → ℕ → A) (h : ℕ → ℕ) (s : ℕ) (v : A) → eqb s 0 ≡ true → foldl f v (map h (members width s)) ≡ v
with_done f h s v z = ap (λ (l : List ℕ). foldl f v (map h l)) (ap (members width) (eqb-true s 0 z) ∙ members_none width)

pub pairs_done : {A : Type 0} (f : A → ℕ → A) (T : List ℕ) (s : ℕ) (v : A) → eqb s 0 ≡ true → foldl f v (table_weights T s) ≡ v
unfolding table_weights pairs_of each_pair
pairs_done f T s v z =
    ap (λ (l : List ℕ). foldl f v (map (λ e. pair_weight T e.0 e.1) (each_pair l)))
    (ap (members width) (eqb-true s 0 z) ∙ members_none width)

-- ---- what the folds give

-- the least from the left is the least from the right
pub weakest_left : (W : List ℕ) → foldl min 65535 W ≡ weakest_of W
unfolding weakest_of
weakest_left W = least W 65535
  where
    start : (W : List ℕ) (a b : ℕ) → foldr min (min a b) W ≡ min a (foldr min b W)
    start [] a b = refl
    start (x ∷ W) a b = let ih : foldr min (min a b) W ≡ min a (foldr min b W) = start W a b in omega (arith, ih)

    least : (W : List ℕ) (a : ℕ) → foldl min a W ≡ foldr min a W
    least [] a = refl
    least (x ∷ W) a =
        let ih : foldl min (min a x) W ≡ foldr min (min a x) W = least W (min a x) in
        let c : min a x ≡ min x a = omega arith in
        ih ∙ ap (λ (n : ℕ). foldr min n W) c ∙ start W x a

-- weights of 16 bits in the table are the set's weights
pub first_narrow : (T : List ℕ) (s : ℕ) → ((i : ℕ) → get_or T i 0 < 65536) → get_or (table_weights T s) 0 0 ≤ 65535
unfolding table_weights pair_weight
first_narrow T s h = go (pairs_of width s)
  where
    go : (P : List (ℕ × ℕ)) → get_or (map (λ e. pair_weight T e.0 e.1) P) 0 0 ≤ 65535
    go [] = omega arith
    go (e ∷ P) = omega (arith, h (e.0 * width + e.1))
