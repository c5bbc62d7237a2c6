-- What stands at the ends of slots, put in order one after the other: the communities of the family that the tables show. Assumes nothing.
use mathlib.Core.Path.{◌≡◌, refl, sym, ap, ◌∙◌}
use mathlib.Core.Logic.{inr}
use mathlib.Core.Bool.{Bool, true, false, cond}
use mathlib.Core.List.Memᴰ
use mathlib.Core.List.{List, [], ◌∷◌, ◌++◌, map}
use Prim.Native.Nat.{ℕ, zero, suc, ◌≤◌, ◌<◌}
use native.Mathlib.Omega.{arith}
use native.Mathlib.Numerals.{add-one}
use Rattle.std.specs.List.{filter, range_with_len}
use lib.Dec.{eqb}
use lib.ListN.{length, length-map}
use borrow.Author.Tests.{eq-eqb, eqb-true}
use Rattle.sets.specs.Lists.{◌∈◌, keep, from, below}
use Rattle.sets.specs.Sets.{before}
use Rattle.sets.specs.Value.{row}
use Rattle.sets.proofs.ListLaws.{Holds, Distinct, keep_at, keep_of, keep_distinct, rising_distinct, number_order, below_of, below_at, below_rising, rising_map, keep_below_yes, keep_below_no}
use Rattle.sets.proofs.Insertion.{insert_all_length, insert_all_at, insert_all_from, insert_all_image}
use Rattle.sets.proofs.Order.{set_order}
use Rattle.percolation.specs.Percolate.{Community, shown, communities}
use Rattle.percolation.proofs.Communities.{communities_rising}
use Rattle.slots.specs.Tables.{Tables, root_of}
use Rattle.slots_theory.specs.Shows.{shown_at, Shows}
use Rattle.slots_theory.proofs.Shown.{Family}
use Rattle.slots_theory.proofs.Communal.{end_shown, root_once, community_shown}
use Rattle.listings.specs.Model.{by_small, root_slots, stands_at, listed}

-- ---- the slots that are their own ends

module _ (es : List ℕ) where
  pub roots_of : (n : ℕ) {i : ℕ} → i ∈ root_slots es n → (i < n) × (root_of es i ≡ i)
  unfolding root_slots
  roots_of n {i} m = let h = keep_of (λ j. eqb (root_of es j) j) (below n) m in (below_of n h.0, eqb-true (root_of es i) i h.1)

  pub roots_at : (n i : ℕ) → i < n → root_of es i ≡ i → i ∈ root_slots es n
  unfolding root_slots
  roots_at n i l e = keep_at (λ j. eqb (root_of es j) j) (below n) (below_at i n l) (eq-eqb (root_of es i) i e)

  pub roots_distinct : (n : ℕ) → Distinct (root_slots es n)
  unfolding root_slots
  roots_distinct n = keep_distinct (λ j. eqb (root_of es j) j) (below n) (rising_distinct _ number_order (below n) (below_rising n))

  pub roots_yes : (i : ℕ) → eqb (root_of es i) i ≡ true → root_slots es (suc i) ≡ root_slots es i ++ (i ∷ [])
  unfolding root_slots
  roots_yes i e = keep_below_yes (λ j. eqb (root_of es j) j) i e

  pub roots_no : (i : ℕ) → eqb (root_of es i) i ≡ false → root_slots es (suc i) ≡ root_slots es i
  unfolding root_slots
  roots_no i e = keep_below_no (λ j. eqb (root_of es j) j) i e

-- the numbers that a test keeps, as std filters them
pub range_kept : (p : ℕ → Bool) (a n : ℕ) → filter p (range_with_len a n) ≡ keep p (from a n)
unfolding keep from
range_kept p a zero = refl
range_kept p a (suc n) = rw (add-one a) (go (p a) (range_kept p (suc a) n))
  where
    go : (b : Bool) → filter p (range_with_len (suc a) n) ≡ keep p (from (suc a) n)
        → cond b (a ∷ filter p (range_with_len (suc a) n)) (filter p (range_with_len (suc a) n)) ≡ elim b [ true ↦ a ∷ keep p (from (suc a) n) | false ↦ keep p (from (suc a) n) ]
    go true e = ap (λ (l : List ℕ). a ∷ l) e
    go false e = e

pub roots_filtered : (es : List ℕ) (n : ℕ) → filter (λ i. eqb (root_of es i) i) (range_with_len 0 n) ≡ root_slots es n
unfolding root_slots below
roots_filtered es n = range_kept (λ i. eqb (root_of es i) i) 0 n

-- ---- what stands at them

module _ (es ms us : List ℕ) where
  pub listed_length : (n : ℕ) → length (listed es ms us n) ≡ length (root_slots es n)
  unfolding listed
  listed_length n =
      insert_all_length by_small [] (map (stands_at ms us) (root_slots es n)) ∙ (let e = length-map (root_slots es n) (stands_at ms us) in omega arith)

  pub listed_of : (n : ℕ) (c : Community) → c ∈ listed es ms us n → (i : ℕ) × (i < n) × (root_of es i ≡ i) × (stands_at ms us i ≡ c)
  unfolding listed
  listed_of n c m =
      let r = Memᴰ.of_map (stands_at ms us) (root_slots es n) (insert_all_from by_small (map (stands_at ms us) (root_slots es n)) m) in
      let g = roots_of es n r.1 in
      (r.0, g.0, g.1, r.2)

  pub listed_at : (n i : ℕ) → i < n → root_of es i ≡ i → stands_at ms us i ∈ listed es ms us n
  unfolding listed
  listed_at n i l e = insert_all_at by_small [] (map (stands_at ms us) (root_slots es n)) (inr (Memᴰ.map (stands_at ms us) (roots_at es n i l e)))

-- ---- the communities

-- where no smallest clique stands at two ends, and the communities stand at the ends, what is listed are the communities
pub listed_same : (es ms us : List ℕ) (n k : ℕ) (F : List ℕ)
    → ((i j : ℕ) → i < n → j < n → root_of es i ≡ i → root_of es j ≡ j → row ms i ≡ row ms j → i ≡ j)
    → Holds (communities k F) (listed es ms us n) → Holds (listed es ms us n) (communities k F) → listed es ms us n ≡ communities k F
unfolding listed stands_at
listed_same es ms us n k F one to fro =
    let S = map (stands_at ms us) (root_slots es n) in
    insert_all_image before set_order (λ (c : Community). c.small) (stands_at ms us) (root_slots es n) (communities k F) (roots_distinct es n)
    (λ i j mi mj e. let a = roots_of es n mi in let b = roots_of es n mj in one i j a.0 b.0 a.1 b.1 e)
    (rising_map before (λ (c : Community). c.small) (communities k F) (communities_rising k F)) (λ c m. to c (insert_all_at by_small [] S (inr m)))
    (λ c m. insert_all_from by_small S (fro c m))

module _ (p k : ℕ) (F : List ℕ) (T : Tables) (family : Family p k F) (some : 1 ≤ k) (h : Shows p k F T) where
  -- an end shows what stands at it
  pub stands_end : (i : ℕ) → root_of T.entries i ≡ i → shown_at T i ≡ stands_at T.smallest T.unions i
  unfolding shown_at stands_at
  stands_end i e = ap (λ (r : ℕ). shown (row T.smallest r) (row T.unions r)) e

  once : (i j : ℕ) → i < T.used → j < T.used → root_of T.entries i ≡ i → root_of T.entries j ≡ j → row T.smallest i ≡ row T.smallest j → i ≡ j
  unfolding stands_at
  once i j li lj ri rj e =
      root_once p k F T h i j li lj ri rj
      (ap (λ (c : Community). c.small) (stands_end i ri) ∙ e ∙ sym (ap (λ (c : Community). c.small) (stands_end j rj)))

  shown_listed : Holds (communities k F) (listed T.entries T.smallest T.unions T.used)
  shown_listed c m =
      let r = listed_of T.entries T.smallest T.unions T.used c m in
      Memᴰ.cast (sym (stands_end r.0 r.2 ∙ r.3)) (end_shown p k F T h r.0 r.1)

  all_listed : Holds (listed T.entries T.smallest T.unions T.used) (communities k F)
  all_listed c m =
      let r = community_shown p k F T h some family c m in
      Memᴰ.cast (sym (sym (stands_end r.0 r.2) ∙ r.3)) (listed_at T.entries T.smallest T.unions T.used r.0 r.1 r.2)

  listed_is : listed T.entries T.smallest T.unions T.used ≡ communities k F
  listed_is = listed_same T.entries T.smallest T.unions T.used k F once shown_listed all_listed

pub listed_communities : (p k : ℕ) (F : List ℕ) (T : Tables) → Family p k F → 1 ≤ k → Shows p k F T
    → listed T.entries T.smallest T.unions T.used ≡ communities k F
listed_communities = listed_is
