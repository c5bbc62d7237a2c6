-- What tables show, in two halves: nothing wrong stands in them (Sound), and nothing is missing (Complete). Assumes nothing.
use mathlib.Core.Path.{◌≡◌, sym, ap, ◌∙◌, subst}
use mathlib.Core.Logic.{◌⊎◌, inl, inr}
use mathlib.Core.Bool.{true, false}
use mathlib.Core.List.Memᴰ
use mathlib.Core.List.{[], List, ◌∷◌, map}
use Prim.Native.Nat.{ℕ, ◌≤◌, ◌<◌, ◌^◌}
use native.Mathlib.Omega.{arith}
use lib.Dec.{ltb}
use lib.ListN.{length, get_or, length-map}
use Rattle.sets.specs.Lists.{◌∈◌, below}
use Rattle.sets.specs.Sets.{has, out, size, sub, before, sets_of}
use Rattle.sets.specs.Value.{width, row, sized}
use Rattle.sets.proofs.Tests.{lt_or_le}
use Rattle.sets.proofs.ListLaws.{Holds, Distinct, map_distinct, rising_distinct, number_order, distinct_le, distinct_same, below_of, below_at, below_rising, below_length}
use Rattle.sets.proofs.Laws.{out_sub, parts_lt}
use Rattle.sets.proofs.Parts.{same_parts, out_part, size_less}
use Rattle.percolation.specs.Percolate.{adjacent, Chain, Community, union_at}
use Rattle.percolation.specs.Links.{slot_sets, slots}
use Rattle.percolation.proofs.Chains.{adjacent_sym, first_in, last_in, chain_trans, chain_sym, joined_chain, chain_joined, joined_same}
use Rattle.percolation.proofs.Communities.{communities_of, communities_at, communities_same, at_part, at_has}
use Rattle.percolation.proofs.Families.{in_sets, sets_part}
use Rattle.percolation.proofs.Joining.{SlotsJoined}
use Rattle.percolation.proofs.SlotCount.{Slot, slot_of, slot_at, slots_distinct}
use Rattle.joining.specs.Entries.{root_of}
use Rattle.slots.specs.Tables.{Tables, tables, Level, room}
use Rattle.slots_theory.specs.Shows.{in_one_community, shown_at, Unused, Shows}
use Rattle.joining.proofs.Follow.{Steady}
use Rattle.slots_theory.proofs.Bearing.{InClass, PartsIn, class_own, class_on, class_mono, slots_joined_mono, one_community, class_chain}

-- k-sets of parts below p
abbrev pub Family : ℕ → ℕ → List ℕ → Type 0
Family p k F = (x : ℕ) → x ∈ F → (size x ≡ k) × x ∈ sets_of p

-- what stands in the tables is right
pub record Sound (p k : ℕ) (F : List ℕ) (T : Tables) : Type 0 where
  pub level : Level T
  pub fits : T.used ≤ room T.entries
  pub steady : Steady T.entries
  pub others : (i : ℕ) → T.used ≤ i → Unused T i
  pub held : (i : ℕ) → i < T.used → Slot p k F (row T.sets i)
  pub once : (i j : ℕ) → i < T.used → j < T.used → row T.sets i ≡ row T.sets j → i ≡ j
  pub ends : (i j : ℕ) → i < T.used → j < T.used → root_of T.entries i ≡ root_of T.entries j → SlotsJoined k F (row T.sets i) (row T.sets j)
  pub small : (i : ℕ) → i < T.used → InClass k F (row T.sets i) (row T.smallest (root_of T.entries i))
  pub union : (i : ℕ) → i < T.used → PartsIn k F (row T.sets i) (row T.unions (root_of T.entries i))

-- what should stand in the tables does
pub record Complete (p k : ℕ) (F : List ℕ) (T : Tables) : Type 0 where
  pub each : (s : ℕ) → Slot p k F s → (i : ℕ) × (i < T.used) × (row T.sets i ≡ s)
  pub ends : (i j : ℕ) → i < T.used → j < T.used → SlotsJoined k F (row T.sets i) (row T.sets j) → root_of T.entries i ≡ root_of T.entries j
  pub small : (i a : ℕ) → i < T.used → InClass k F (row T.sets i) a → before a (row T.smallest (root_of T.entries i)) ≡ false
  pub union : (i a q : ℕ) → i < T.used → InClass k F (row T.sets i) a → has q a ≡ true → has q (row T.unions (root_of T.entries i)) ≡ true

-- ---- the two halves are what the tables show

module _ (p k : ℕ) (F : List ℕ) (T : Tables) where
  module _ (h : Shows p k F T) where
    pub shows_steady : Steady T.entries
    shows_steady i = go (lt_or_le i T.used)
      where
        go : (i < T.used) ⊎ (T.used ≤ i) → get_or T.entries i 0 ≤ i
        go (inl l) = h.down i l
        go (inr l) = omega (arith, (h.others i l).entry)

    pub shows_slot : (i : ℕ) → i < T.used → Slot p k F (row T.sets i)
    shows_slot i l = slot_of p k F (row T.sets i) (h.held i l)

    -- what stands at a slot's end is joined to each bearer
    pub stands_chain : (i a : ℕ) → i < T.used → a ∈ F → sub (row T.sets i) a ≡ true → Chain (adjacent k) F (shown_at T i).small a
    stands_chain i a l m n = joined_chain k F (shown_at T i).small a (h.stands i a l m n).1

    pub shows_sound : Sound p k F T
    unfolding shown_at
    shows_sound = record {
      level = h.level;
      fits = h.fits;
      steady = shows_steady;
      others = h.others;
      held = shows_slot;
      once = h.once;
      ends = λ i j a b e. (one_community k F (row T.sets i) (row T.sets j)).0 ((h.ends i j a b).0 e);
      small = small;
      union = union;
    }
      where
        small : (i : ℕ) → i < T.used → InClass k F (row T.sets i) (shown_at T i).small
        small i l =
            let s = shows_slot i l in
            record { bearer = s.bearer; within = s.within; chain = chain_sym (adjacent_sym k) (stands_chain i s.bearer l s.member s.within) }

        union : (i : ℕ) → i < T.used → PartsIn k F (row T.sets i) (shown_at T i).whole
        union i l q t =
            let s = shows_slot i l in
            let c = communities_of k F (shown_at T i) (h.stands i s.bearer l s.member s.within).0 in
            let b = at_part k F (shown_at T i).small q (ap (has q) (sym c.union) ∙ t) in
            (b.0, class_on k F (row T.sets i) (shown_at T i).small b.0 (small i l) b.1, b.2)

    pub shows_complete : Complete p k F T
    unfolding shown_at
    shows_complete = record {
      each = λ s m. h.each s (slot_at p k F s m);
      ends = λ i j a b e. (h.ends i j a b).1 ((one_community k F (row T.sets i) (row T.sets j)).1 e);
      small = λ i a l c.
          (communities_of k F (shown_at T i) (h.stands i c.bearer l (first_in c.chain) c.within).0).least a
          (chain_trans (stands_chain i c.bearer l (first_in c.chain) c.within) c.chain);
      union = λ i a q l c t.
          let d = communities_of k F (shown_at T i) (h.stands i c.bearer l (first_in c.chain) c.within).0 in
          ap (has q) d.union ∙ at_has k F (shown_at T i).small q a (chain_trans (stands_chain i c.bearer l (first_in c.chain) c.within) c.chain) t;
    }

  pub both_shows : ((x : ℕ) → x ∈ F → size x ≡ k) → Sound p k F T → Complete p k F T → Shows p k F T
  unfolding shown_at
  both_shows sizes h c = record {
    level = h.level;
    fits = h.fits;
    held = λ i l. slot_at p k F (row T.sets i) (h.held i l);
    each = λ s m. c.each s (slot_of p k F s m);
    once = h.once;
    down = λ i l. h.steady i;
    others = h.others;
    ends = λ i j a b. (
      (λ e. (one_community k F (row T.sets i) (row T.sets j)).1 (h.ends i j a b e)),
      (λ e. c.ends i j a b ((one_community k F (row T.sets i) (row T.sets j)).0 e)),
    );
    stands = λ i a l m n. (
      communities_at k F (shown_at T i) (record {
        member = last_in (h.small i l).chain;
        least = λ b d. c.small i b l (class_on k F (row T.sets i) (shown_at T i).small b (h.small i l) d);
        union = whole i l;
      }),
      chain_joined k F (shown_at T i).small a
          (class_chain k F sizes (row T.sets i) (shown_at T i).small a (h.held i l).sized (h.small i l) (class_own k F (row T.sets i) a m n)),
    );
  }
    where
      whole : (i : ℕ) → i < T.used → (shown_at T i).whole ≡ union_at k F (shown_at T i).small
      whole i l =
          same_parts (shown_at T i).whole (union_at k F (shown_at T i).small)
          (λ q t.
          let b = h.union i l q t in
          at_has k F (shown_at T i).small q b.0 (class_chain k F sizes (row T.sets i) (shown_at T i).small b.0 (h.held i l).sized (h.small i l) b.1) b.2)
          (λ q t.
          let b = at_part k F (shown_at T i).small q t in
          c.union i b.0 q l (class_on k F (row T.sets i) (shown_at T i).small b.0 (h.small i l) b.1) b.2)

-- ---- the start, and families with the same members

-- tables all zero show no clique
pub none_shown : (p k : ℕ) (s e m u : List ℕ) → sized s (length e) ≡ true → sized m (length e) ≡ true → sized u (length e) ≡ true → ((i : ℕ) → row s i ≡ 0) → ((i : ℕ) → get_or e i 0 ≡ 0)
    → ((i : ℕ) → row m i ≡ 0) → ((i : ℕ) → row u i ≡ 0) → Shows p k [] (tables s e m u 0)
none_shown p k s e m u ls lm lu zs ze zm zu = record {
  level = record { sets = ls; smallest = lm; unions = lu };
  fits = omega arith;
  held = λ i l. absurd (omega arith);
  each = λ t n. absurd (Memᴰ.not-nil (slot_of p k [] t n).member);
  once = λ i j l. absurd (omega arith);
  down = λ i l. absurd (omega arith);
  others = λ i l. record { set = zs i; entry = ze i; smallest = zm i; union = zu i };
  ends = λ i j l. absurd (omega arith);
  stands = λ i a l. absurd (omega arith);
}

pub slot_mono : (p k : ℕ) (F G : List ℕ) → Holds G F → (s : ℕ) → Slot p k F s → Slot p k G s
slot_mono p k F G h s m = record { fits = m.fits; sized = m.sized; bearer = m.bearer; member = h m.bearer m.member; within = m.within }

-- a member of the family without one of its parts
pub part_slot : (p k : ℕ) (F : List ℕ) → Family p k F → (a q : ℕ) → a ∈ F → has q a ≡ true → Slot p k F (out q a)
part_slot p k F family a q m t = record {
  fits = in_sets p (out q a) (λ r x. sets_part p a (family a m).1 r (out_part q r a x));
  sized = size_less q a t ∙ (family a m).0;
  bearer = a;
  member = m;
  within = out_sub q a;
}

-- what is right of a family is right of a larger one
pub sound_mono : (p k : ℕ) (F G : List ℕ) (T : Tables) → Holds G F → Sound p k F T → Sound p k G T
sound_mono p k F G T h s = record {
  level = s.level;
  fits = s.fits;
  steady = s.steady;
  others = s.others;
  held = λ i l. slot_mono p k F G h (row T.sets i) (s.held i l);
  once = s.once;
  ends = λ i j a b e. slots_joined_mono k F G h (row T.sets i) (row T.sets j) (s.ends i j a b e);
  small = λ i l. class_mono k F G h (row T.sets i) (row T.smallest (root_of T.entries i)) (s.small i l);
  union = λ i l q t. let b = s.union i l q t in (b.0, class_mono k F G h (row T.sets i) b.0 b.1, b.2);
}

-- what tables show goes by the members of the family alone
pub shown_same : (p k : ℕ) (F G : List ℕ) (T : Tables) → Holds G F → Holds F G → Shows p k F T → Shows p k G T
shown_same p k F G T f g h = record {
  level = h.level;
  fits = h.fits;
  held = λ i l. slot_at p k G (row T.sets i) (slot_mono p k F G f (row T.sets i) (shows_slot p k F T h i l));
  each = λ s m. h.each s (slot_at p k F s (slot_mono p k G F g s (slot_of p k G s m)));
  once = h.once;
  down = h.down;
  others = h.others;
  ends = λ i j a b. (
    (λ e. over F G f (row T.sets i) (row T.sets j) ((h.ends i j a b).0 e)),
    (λ e. (h.ends i j a b).1 (over G F g (row T.sets i) (row T.sets j) e)),
  );
  stands = λ i a l m n.
      let r = h.stands i a l (g a m) n in
      (subst (λ (C : List Community). shown_at T i ∈ C) (communities_same k F G f g) r.0, sym (joined_same k F G f g (shown_at T i).small a) ∙ r.1);
}
  where
    over : (A B : List ℕ) → Holds B A → (s t : ℕ) → in_one_community k A s t ≡ true → in_one_community k B s t ≡ true
    over A B w s t e = (one_community k B s t).1 (slots_joined_mono k A B w s t ((one_community k A s t).0 e))

-- ---- how many slots are used

-- the sets in the used slots
abbrev used_sets : Tables → List ℕ
used_sets T = map (row T.sets) (below T.used)

module _ (T : Tables) where
  used_distinct : ((i j : ℕ) → i < T.used → j < T.used → row T.sets i ≡ row T.sets j → i ≡ j) → Distinct (used_sets T)
  used_distinct once =
      map_distinct (row T.sets) (below T.used) (rising_distinct ltb number_order (below T.used) (below_rising T.used))
      (λ i j a b e. once i j (below_of T.used a) (below_of T.used b) e)

  used_length : length (used_sets T) ≡ T.used
  used_length = length-map (below T.used) (row T.sets) ∙ below_length T.used

  used_of : (s : ℕ) → s ∈ used_sets T → (i : ℕ) × (i < T.used) × (row T.sets i ≡ s)
  used_of s m = let r = Memᴰ.of_map (row T.sets) (below T.used) m in (r.0, below_of T.used r.1, r.2)

  used_at : (i : ℕ) → i < T.used → row T.sets i ∈ used_sets T
  used_at i l = Memᴰ.map (row T.sets) (below_at i T.used l)

-- each slot set of the family stands in just one used slot
pub used_slots : (p k : ℕ) (F : List ℕ) (T : Tables) → Shows p k F T → T.used ≡ slots p k F
unfolding slots
used_slots p k F T h =
    sym (used_length T) ∙ distinct_same (used_sets T) (slot_sets p k F) (used_distinct T h.once) (slots_distinct p k F)
    (λ s m. let r = used_of T s m in Memᴰ.cast (sym r.2) (h.held r.0 r.1))
    (λ s m. let r = h.each s m in Memᴰ.cast (sym r.2) (used_at T r.0 r.1))

-- a sound table that lacks a slot set has room for it
pub room_more : (p k : ℕ) (F : List ℕ) (T : Tables) → Sound p k F T → (s : ℕ) → Slot p k F s → ((i : ℕ) → i < T.used → row T.sets i ≡ s → ⊥)
    → slots p k F ≤ room T.entries → T.used < room T.entries
unfolding slots Distinct
room_more p k F T h s m none fit =
    omega (arith, used_length T, distinct_le (s ∷ used_sets T) (slot_sets p k F) ((λ n. let r = used_of T s n in none r.0 r.1 r.2), used_distinct T h.once) hold)
  where
    hold : Holds (slot_sets p k F) (s ∷ used_sets T)
    hold z n = go (Memᴰ.cases_cons n)
      where
        go : (z ≡ s) ⊎ z ∈ used_sets T → z ∈ slot_sets p k F
        go (inl e) = Memᴰ.cast e (slot_at p k F s m)
        go (inr i) = let r = used_of T z i in Memᴰ.cast (sym r.2) (slot_at p k F (row T.sets r.0) (h.held r.0 r.1))

-- ---- what stands in a sound table is a set that the code can hold

pub set_fits : (p a : ℕ) → p ≤ width → a ∈ sets_of p → a < 2 ^ width
set_fits p a wide m = parts_lt width a (λ q t. omega (arith, sets_part p a m q t))

module _ (p k : ℕ) (F : List ℕ) (T : Tables) (wide : p ≤ width) (family : Family p k F) (h : Sound p k F T) (i : ℕ) (l : i < T.used) where
  pub small_fits : row T.smallest (root_of T.entries i) < 2 ^ width
  small_fits = set_fits p (row T.smallest (root_of T.entries i)) wide (family (row T.smallest (root_of T.entries i)) (last_in (h.small i l).chain)).1

  pub union_fits : row T.unions (root_of T.entries i) < 2 ^ width
  union_fits = parts_lt width (row T.unions (root_of T.entries i)) (λ q t.
      let b = h.union i l q t in
      omega (arith, sets_part p b.0 (family b.0 (last_in b.1.chain)).1 q b.2))
