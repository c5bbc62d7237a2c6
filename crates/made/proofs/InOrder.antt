-- The pairs stand by lower then higher part, so that picked links of one weight are sorted as they stand. Assumes nothing.
use mathlib.Core.Path.{◌≡◌, refl, sym, ◌∙◌, subst}
use mathlib.Core.Logic.{◌⊎◌, inl, inr}
use mathlib.Core.Bool.{Bool, true, ◌&&◌}
use mathlib.Core.List.Memᴰ
use mathlib.Core.List.{List, [], ◌∷◌, ◌++◌, map, flatten}
use Prim.Native.Nat.{ℕ, zero, suc, ◌≤◌, ◌<◌}
use native.Mathlib.Omega.{arith}
use lib.Dec.{eqb, ltb}
use borrow.Author.Tests.{ltb-true, lt-ltb, eqb-true, eq-eqb}
use Rattle.sets.specs.Lists.{◌∈◌, keep, from, below}
use Rattle.sets.proofs.Tests.{and_intro, and_left, and_right, or_left, or_right, or_cases}
use Rattle.sets.proofs.ListLaws.{Rising, keep_rising, below_rising, map_rising, rising_map, rising_distinct}
use Rattle.sets.proofs.Insertion.{insert_all_same}
use Rattle.percolation.specs.Links.{Link}
use Rattle.link_order.specs.Order.{precedes, sort_links}
use Rattle.link_order.proofs.Laws.{link_order, by_lows, by_highs}
use Rattle.made.specs.Made.{pairs_of, pairs, pair_first, ends, weighed, Picked, picks_none, leaves_out, picks}
use Rattle.made.proofs.Pairs.{row_is, row_of, rows, rows_of, pairs_is}
use Rattle.made.proofs.Weighed.{weighed_of_lem, weighed_picked, picked_in}

-- ---- the order

first_lower : (e d : ℕ × ℕ) → e.0 < d.0 → pair_first e d ≡ true
unfolding pair_first
first_lower e d h = or_left (ltb e.0 d.0) _ (lt-ltb e.0 d.0 h)

first_higher : (e d : ℕ × ℕ) → e.0 ≡ d.0 → e.1 < d.1 → pair_first e d ≡ true
unfolding pair_first
first_higher e d s h =
    or_right (ltb e.0 d.0) (eqb e.0 d.0 && ltb e.1 d.1)
    (and_intro (eqb e.0 d.0) (ltb e.1 d.1) (eq-eqb e.0 d.0 s) (lt-ltb e.1 d.1 h))

first_cases : (e d : ℕ × ℕ) → pair_first e d ≡ true → (e.0 < d.0) ⊎ ((e.0 ≡ d.0) × (e.1 < d.1))
unfolding pair_first
first_cases e d t = go (or_cases (ltb e.0 d.0) (eqb e.0 d.0 && ltb e.1 d.1) t)
  where
    go : (ltb e.0 d.0 ≡ true) ⊎ (eqb e.0 d.0 && ltb e.1 d.1 ≡ true) → (e.0 < d.0) ⊎ ((e.0 ≡ d.0) × (e.1 < d.1))
    go (inl h) = inl (ltb-true e.0 d.0 h)
    go (inr h) = inr (
      eqb-true e.0 d.0 (and_left (eqb e.0 d.0) (ltb e.1 d.1) h),
      ltb-true e.1 d.1 (and_right (eqb e.0 d.0) (ltb e.1 d.1) h),
    )

-- ---- lists that rise

module _ {A : Type 0} where
  rising_as : (first second : A → A → Bool) (l : List A) → ((x y : A) → x ∈ l → y ∈ l → first x y ≡ true → second x y ≡ true)
      → Rising first l → Rising second l
  unfolding Rising
  rising_as first second [] h r = tt
  rising_as first second (x ∷ l) h r = (
    (λ y m. h x y (Memᴰ.head refl) (Memᴰ.tail m) (r.0 y m)),
    rising_as first second l (λ y z i j. h y z (Memᴰ.tail i) (Memᴰ.tail j)) r.1,
  )

  append_rising : (first : A → A → Bool) (l m : List A) → Rising first l → Rising first m → ((x y : A) → x ∈ l → y ∈ m → first x y ≡ true)
      → Rising first (l ++ m)
  unfolding Rising
  append_rising first [] m r s h = s
  append_rising first (x ∷ l) m r s h = ((λ y i. go y (Memᴰ.append_cases l i)), append_rising first l m r.1 s (λ z y i j. h z y (Memᴰ.tail i) j))
    where
      go : (y : A) → y ∈ l ⊎ y ∈ m → first x y ≡ true
      go y (inl i) = r.0 y i
      go y (inr i) = h x y (Memᴰ.head refl) i

-- ---- the pairs

row_rising : (p l : ℕ) → Rising pair_first (pairs_of p l)
row_rising p l =
    subst (Rising pair_first) (sym (row_is p l))
    (map_rising pair_first (λ (h : ℕ). (l, h)) (keep (ltb l) (below p))
    (rising_as ltb (λ x y. pair_first (l, x) (l, y)) (keep (ltb l) (below p)) (λ x y i j t. first_higher (l, x) (l, y) refl (ltb-true x y t))
    (keep_rising ltb (ltb l) (below p) (below_rising p))))

rows_rising : (p i n : ℕ) → Rising pair_first (rows p i n)
unfolding from flatten Rising
rows_rising p i zero = tt
rows_rising p i (suc n) =
    append_rising pair_first (pairs_of p i) (rows p (suc i) n) (row_rising p i) (rows_rising p (suc i) n)
    (λ e d a b. first_lower e d (omega (arith, (row_of p i e a).0, (rows_of p (suc i) n d b).0)))

-- by lower, then higher part
pub pairs_rising : (p : ℕ) → Rising pair_first (pairs p)
unfolding below
pairs_rising p = subst (Rising pair_first) (sym (pairs_is p)) (rows_rising p 0 p)

-- ---- picked links of one weight

picked_rising : {P : List (ℕ × ℕ)} {K : List Link} → Picked P K → Rising pair_first P → Rising pair_first (map ends K)
unfolding Rising
picked_rising picks_none r = tt
picked_rising (leaves_out k) r = picked_rising k r.1
picked_rising (picks {e = e} {P = P} {K = K} w a b k) r = (later, picked_rising k r.1)
  where
    later : (d : ℕ × ℕ) → d ∈ map ends K → pair_first (e.0, e.1) d ≡ true
    later d m =
        let q = Memᴰ.of_map ends K m in
        r.0 d (subst (λ (x : ℕ × ℕ). x ∈ P) q.2 (picked_in k q.0 q.1).0)

before : (l m : Link) → l.weight ≡ m.weight → pair_first (ends l) (ends m) ≡ true → precedes l m ≡ true
before l m e t = go (first_cases (ends l) (ends m) t)
  where
    go : (l.low < m.low) ⊎ ((l.low ≡ m.low) × (l.high < m.high)) → precedes l m ≡ true
    go (inl h) = sym (by_lows l m e (λ s. let z : ⊥ = omega arith in z)) ∙ lt-ltb l.low m.low h
    go (inr h) = sym (by_highs l m e h.0) ∙ lt-ltb l.high m.high h.1

-- a rising list is sorted
rising_sorted : (K : List Link) → Rising precedes K → sort_links K ≡ K
unfolding sort_links
rising_sorted K r = insert_all_same precedes link_order (λ l. l) K K (rising_distinct precedes link_order K r) (λ x y i j e. e) r (λ x i. i) (λ x i. i)

pub level_sorted : (p w : ℕ) (K : List Link) → Picked (pairs p) K → ((l : Link) → l ∈ K → l.weight ≡ w) → sort_links K ≡ K
level_sorted p w K k same =
    rising_sorted K
    (rising_as (λ x y. pair_first (ends x) (ends y)) precedes K (λ x y i j t. before x y (same x i ∙ sym (same y j)) t)
    (rising_map pair_first ends K (picked_rising k (pairs_rising p))))

-- one weight for all pairs: the links stand by lower then higher part
pub constant_sorted : (p w : ℕ) → w ≤ 65535 → sort_links (weighed (λ q r. w) p) ≡ weighed (λ q r. w) p
unfolding weighed
constant_sorted p w h =
    level_sorted p w (weighed (λ q r. w) p) (weighed_picked (λ q r. w) (λ q r. h) (pairs p)) (λ l m. (weighed_of_lem (λ q r. w) p l m).3)
