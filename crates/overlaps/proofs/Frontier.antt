-- The classes that the frontier method finds are the classes of the sets in the table, each once. Assumes nothing.
use mathlib.Core.Path.{◌≡◌, refl, sym, ap, ap₂, ◌∙◌, subst}
use mathlib.Core.Logic.{◌⊎◌, inl, inr}
use mathlib.Core.List.Memᴰ
use mathlib.Core.List.{List, map}
use Prim.Native.Nat.{ℕ, zero, suc, ◌+◌, ◌≤◌, ◌<◌, ◌^◌}
use native.Mathlib.Omega.{arith}
use lib.Dec.{ltb}
use lib.ListN.{length}
use Rattle.sets.specs.Lists.{◌∈◌, below}
use Rattle.sets.specs.Sets.{size}
use Rattle.sets.specs.Value.{width, rows, row}
use Rattle.sets.proofs.Tests.{never, lt_or_le}
use Rattle.sets.proofs.Tables.{row_store, row_other, rows_length, length_store}
use Rattle.sets.proofs.ListLaws.{Distinct, map_distinct, rising_distinct, number_order, below_rising, below_of, below_at}
use Rattle.percolation.specs.Percolate.{overlap, Chain, alone, Community, shown}
use Rattle.percolation.proofs.Chains.{first_in}
use Rattle.percolation.proofs.Maximal.{ShowsMaximal}
use Rattle.overlaps.specs.Model.{Classed, classed, class_at, classed_from, classed_all, first_rows, shown_classes}
use Rattle.overlaps.proofs.Moves.{Moved, Fits, moved_none, moved_both, moved_from, moved_rows, Holding, holding_rows, holding_moved}
use Rattle.overlaps.proofs.Growing.{Grows, grows_class, Closed, closed_walk, class_closed, class_shows, small_fits, whole_fits}
use Rattle.overlaps.proofs.Showing.{Showing, share_self, showing_joined, showing_same}
use Rattle.overlaps.proofs.Steps.{written, classed_next, classed_end}

-- class number c as it is shown
abbrev shown_at : Classed → ℕ → Community
shown_at w c = shown (row w.smallest c) (row w.unions c)

-- the rows before i are in classes that are written: no row from i on is near them, each written class has one of them and each of them has a class
record Found (k n : ℕ) (M A m u : List ℕ) (w : Classed) (i : ℕ) : Type 0 where
  moved : Moved 0 n A w.sets
  smalls : length w.smallest ≡ length m
  wholes : length w.unions ≡ length u
  within : i ≤ n
  few : w.count ≤ i
  closed : Closed k n w.sets i
  shows : (c : ℕ) → c < w.count → (x : ℕ) × (x < i) × Showing k M (row w.sets x) (shown_at w c)
  each : (x : ℕ) → x < i → (c : ℕ) × (c < w.count) × Showing k M (row w.sets x) (shown_at w c)
  once : (c d : ℕ) → c < w.count → d < w.count → row w.smallest c ≡ row w.smallest d → c ≡ d

module _ (k n : ℕ) (A m u : List ℕ) (longA : n ≤ rows A) (long_m : n ≤ rows m) (long_u : n ≤ rows u)
    (fits : (x : ℕ) → x ∈ first_rows n A → x < 2 ^ width) (big : (x : ℕ) → x ∈ first_rows n A → k ≤ size x) where
  abbrev M : List ℕ
  M = first_rows n A

  abbrev W : Classed
  W = classed_all k n A m u

  abbrev D : List Community
  D = shown_classes W

  found_none : Found k n M A m u (classed A m u 0) 0
  found_none = record {
    moved = moved_none 0 n A;
    smalls = refl;
    wholes = refl;
    within = omega arith;
    few = omega arith;
    closed = λ x y h. absurd (omega arith);
    shows = λ c h. absurd (omega arith);
    each = λ x h. absurd (omega arith);
    once = λ c d h. absurd (omega arith);
  }

  module _ (w : Classed) (i : ℕ) (inside : i < n) (h : Found k n M A m u w i) where
    rows_long : n ≤ rows w.sets
    rows_long = omega (arith, moved_rows 0 n A w.sets h.moved)

    members : Holding n M w.sets
    members = holding_moved 0 n M A w.sets h.moved (holding_rows n A)

    rows_fit : Fits n w.sets
    rows_fit x l = fits (row w.sets x) (members.row_in x l)

    abbrev e : ℕ
    e = (class_at k n w.sets i).end

    abbrev v : Classed
    v = written k n w i

    g : Grows k n M w.sets i (class_at k n w.sets i) (class_at k n w.sets i).end
    g = grows_class k n M w.sets rows_long rows_fit members i inside

    at_small : row v.smallest w.count ≡ (class_at k n w.sets i).small
    at_small =
        row_store w.smallest w.count (class_at k n w.sets i).small (omega (arith, h.few, rows_length w.smallest m h.smalls))
        (small_fits k n M w.sets rows_long rows_fit members i inside h.closed)

    at_whole : row v.unions w.count ≡ (class_at k n w.sets i).whole
    at_whole =
        row_store w.unions w.count (class_at k n w.sets i).whole (omega (arith, h.few, rows_length w.unions u h.wholes))
        (whole_fits k n M w.sets rows_long rows_fit members i inside h.closed)

    -- the classes before are as they were
    stay : (c : ℕ) → c < w.count → shown_at v c ≡ shown_at w c
    stay c l =
        ap₂ shown (row_other w.smallest w.count c (class_at k n w.sets i).small (λ q. omega arith))
        (row_other w.unions w.count c (class_at k n w.sets i).whole (λ q. omega arith))

    kept : (x : ℕ) → x < suc i → row v.sets x ≡ row w.sets x
    kept = g.moved.kept

    old : (x c : ℕ) → x < i → c < w.count → Showing k M (row w.sets x) (shown_at w c) → Showing k M (row v.sets x) (shown_at v c)
    old x c l b s = subst (Showing k M (row v.sets x)) (sym (stay c b)) (subst (λ (z : ℕ). Showing k M z (shown_at w c)) (sym (kept x (omega arith))) s)

    -- the new class shows each of its rows
    new : (x : ℕ) → i ≤ x → x < e → Showing k M (row v.sets x) (shown_at v w.count)
    new x l b =
        subst (Showing k M (row v.sets x)) (sym (ap₂ shown at_small at_whole))
        (class_shows k n M w.sets rows_long rows_fit members i inside h.closed x l b)

    shows_next : (c : ℕ) → c < suc w.count → (c < w.count) ⊎ (w.count ≤ c) → (x : ℕ) × (x < e) × Showing k M (row v.sets x) (shown_at v c)
    shows_next c l (inl b) = let r = h.shows c b in (r.0, omega (arith, r.1, g.start), old r.0 c r.1 b r.2)
    shows_next c l (inr b) =
        let q : w.count ≡ c = omega arith in
        (i, g.start, subst (λ (z : ℕ). Showing k M (row v.sets i) (shown_at v z)) q (new i (omega arith) g.start))

    each_next : (x : ℕ) → x < e → (x < i) ⊎ (i ≤ x) → (c : ℕ) × (c < suc w.count) × Showing k M (row v.sets x) (shown_at v c)
    each_next x l (inl b) = let r = h.each x b in (r.0, omega (arith, r.1), old x r.0 b r.1 r.2)
    each_next x l (inr b) = (w.count, omega arith, new x b l)

    -- no class before shows the smallest clique of the new one: else a chain would join row i to a row before it
    other : (c : ℕ) → c < w.count → row v.smallest c ≡ row v.smallest w.count → ⊥
    other c l q =
        let r = h.shows c l in
        let t : ℕ = row w.sets i in
        let a = subst (Showing k M (row w.sets r.0)) (sym (stay c l)) r.2 in
        let b = subst (λ (z : ℕ). Showing k M z (shown_at v w.count)) (kept i (omega arith)) (new i (omega arith) g.start) in
        let j = showing_joined k M (row w.sets r.0) t (shown_at v c) (shown_at v w.count) a b big q in
        let y = closed_walk k n M w.sets i members h.closed j (r.0, omega arith, r.1, refl) in
        never (overlap k t t) (share_self k t (big t (members.row_in i inside)))
        (ap (λ (z : ℕ). overlap k z t) y.3 ∙ h.closed y.0 i y.2 (omega arith) inside)

    once_next : (c d : ℕ) → c < suc w.count → d < suc w.count → row v.smallest c ≡ row v.smallest d
        → (c < w.count) ⊎ (w.count ≤ c) → (d < w.count) ⊎ (w.count ≤ d) → c ≡ d
    once_next c d lc ld q (inl a) (inl b) =
        h.once c d a b (ap (λ (z : Community). z.small) (sym (stay c a)) ∙ q ∙ ap (λ (z : Community). z.small) (stay d b))
    once_next c d lc ld q (inl a) (inr b) = let z : d ≡ w.count = omega arith in absurd (other c a (q ∙ ap (row v.smallest) z))
    once_next c d lc ld q (inr a) (inl b) = let z : c ≡ w.count = omega arith in absurd (other d b (sym q ∙ ap (row v.smallest) z))
    once_next c d lc ld q (inr a) (inr b) = omega arith

    found_next : Found k n M A m u v e
    found_next = record {
      moved = moved_both 0 n A w.sets v.sets h.moved (moved_from 0 (suc i) n w.sets v.sets (omega arith) g.moved);
      smalls = length_store w.smallest w.count (class_at k n w.sets i).small ∙ h.smalls;
      wholes = length_store w.unions w.count (class_at k n w.sets i).whole ∙ h.wholes;
      within = g.within;
      few = omega (arith, h.few, g.start);
      closed = class_closed k n M w.sets rows_long rows_fit members i inside h.closed;
      shows = λ c l. shows_next c l (lt_or_le c w.count);
      each = λ x l. each_next x l (lt_or_le x i);
      once = λ c d lc ld q. once_next c d lc ld q (lt_or_le c w.count) (lt_or_le d w.count);
    }

  found_all_lem : (d : ℕ) (w : Classed) (i : ℕ) → n ≤ i + d → Found k n M A m u w i → Found k n M A m u (classed_from d k n w i) n
  found_all_lem zero w i l h = let q : i ≡ n = omega (arith, h.within) in rw (classed_end zero k n w i (omega arith)) (subst (Found k n M A m u w) q h)
  found_all_lem (suc d) w i l h = go (lt_or_le i n) (found_all_lem d)
    where
      go : (i < n) ⊎ (n ≤ i)
          → ((v : Classed) (j : ℕ) → n ≤ j + d → Found k n M A m u v j → Found k n M A m u (classed_from d k n v j) n)
          → Found k n M A m u (classed_from (suc d) k n w i) n
      go (inl x) ih =
          let f = found_next w i x h in
          rw (classed_next d k n w i x) (ih (written k n w i) (class_at k n w.sets i).end (omega (arith, (g w i x h).start)) f)
      go (inr x) ih = let q : i ≡ n = omega (arith, h.within) in rw (classed_end (suc d) k n w i x) (subst (Found k n M A m u w) q h)

  found : Found k n M A m u W n
  unfolding classed_all
  found = found_all_lem n (classed A m u 0) 0 (omega arith) found_none

  -- ---- the classes that are shown

  pub classes_show : (c : Community) → c ∈ D → ShowsMaximal k M c
  classes_show c i =
      let r = Memᴰ.of_map (shown_at W) (below W.count) i in
      let s = found.shows r.0 (below_of W.count r.1) in
      subst (ShowsMaximal k M) r.2 s.2.0

  pub classes_all : (c : Community) → ShowsMaximal k M c → c ∈ D
  classes_all c h =
      let own : Chain (overlap k) M h.base h.base = alone (first_in h.bears) in
      let b = (holding_moved 0 n M A W.sets found.moved (holding_rows n A)).in_row h.base (first_in own) in
      let s = found.each b.0 b.2 in
      let q = showing_same k M h.base (row W.sets b.0) c (shown_at W s.0) (h, own) s.2 (subst (Chain (overlap k) M h.base) b.3 own) in
      Memᴰ.cast q (Memᴰ.map (shown_at W) (below_at s.0 W.count s.1))

  -- no smallest clique stands in two rows
  pub classes_apart : (c d : ℕ) → c < W.count → d < W.count → row W.smallest c ≡ row W.smallest d → c ≡ d
  classes_apart = found.once

  pub classes_once : Distinct (map (λ (c : Community). c.small) D)
  classes_once = map_distinct (λ (c : Community). c.small) D apart same
    where
      apart : Distinct D
      apart =
          map_distinct (shown_at W) (below W.count) (rising_distinct ltb number_order (below W.count) (below_rising W.count))
          (λ c d x y q. found.once c d (below_of W.count x) (below_of W.count y) (ap (λ (z : Community). z.small) q))

      same : (x y : Community) → x ∈ D → y ∈ D → x.small ≡ y.small → x ≡ y
      same x y i j q =
          let a = Memᴰ.of_map (shown_at W) (below W.count) i in
          let b = Memᴰ.of_map (shown_at W) (below W.count) j in
          let e : a.0 ≡ b.0 = found.once a.0 b.0 (below_of W.count a.1) (below_of W.count b.1)
          (ap (λ (z : Community). z.small) a.2 ∙ q ∙ sym (ap (λ (z : Community). z.small) b.2)) in
          sym a.2 ∙ ap (shown_at W) e ∙ b.2

  pub classes_few : W.count ≤ n
  classes_few = found.few

  -- ---- the tables keep their lengths, and the first n rows are the same sets in another order

  pub sets_length : length W.sets ≡ length A
  sets_length = found.moved.same

  pub smallest_length : length W.smallest ≡ length m
  smallest_length = found.smalls

  pub unions_length : length W.unions ≡ length u
  unions_length = found.wholes

  pub sets_moved : Moved 0 n A W.sets
  sets_moved = found.moved
