-- Each step leaves sound tables sound, and loses nothing that stood in them. Assumes nothing.
use mathlib.Core.Path.{◌≡◌, refl, sym, ap, ◌∙◌, subst}
use mathlib.Core.Logic.{◌⊎◌, inl, inr}
use mathlib.Core.Bool.{true, false}
use mathlib.Core.List.{List}
use Prim.Native.Nat.{ℕ, ◌≤◌, ◌<◌, ◌^◌}
use native.Mathlib.Omega.{arith}
use lib.ListN.{length}
use lib.Seq.{get_or-set_other}
use Rattle.sets.specs.Lists.{◌∈◌}
use Rattle.sets.specs.Sets.{has, size, sub, union, before, lesser}
use Rattle.sets.specs.Value.{width, rows, row}
use Rattle.sets.proofs.Tests.{lt_or_le, same_or_not}
use Rattle.sets.proofs.Laws.{union_lt}
use Rattle.sets.proofs.Parts.{union_l, union_r}
use Rattle.sets.proofs.Tables.{row_store, row_other}
use Rattle.sets.proofs.Order.{set_order, lesser_one, lesser_left, lesser_right}
use Rattle.percolation.proofs.Chains.{last_in}
use Rattle.percolation.proofs.Joining.{SlotsJoined, slots_sym}
use Rattle.percolation.proofs.SlotCount.{Slot}
use Rattle.joining.specs.Entries.{root_of}
use Rattle.slots.specs.Tables.{Tables, Level, room}
use Rattle.joining.specs.Model.{halved}
use Rattle.slots.specs.Model.{low_root, high_root, merged, joined}
use Rattle.slots_theory.specs.Shows.{Unused}
use Rattle.slots.proofs.Cases.{appended, counted}
use Rattle.joining.proofs.Follow.{root_le, set_steady, halved_steady, halved_above}
use Rattle.slots.proofs.Lengths.{room_within, kept_level, level_sets, level_smallest, level_unions, appended_kept, joined_kept, counted_kept}
use Rattle.slots_theory.proofs.Classes.{Either, either_or_not, high_le, low_high, joined_same, joined_apart, value_out, value_sound, value_grows}
use Rattle.slots_theory.proofs.Values.{placed_root, lower_root, placed_value, lower_value, with_clique, count_in, count_out, count_grows}
use Rattle.slots_theory.proofs.Bearing.{InClass, PartsIn, class_own, class_slots, class_over, slots_trans, parts_union, parts_over}
use Rattle.slots_theory.proofs.Shown.{Family, Sound, set_fits, small_fits, union_fits}

-- ---- what stood in T stands in U

pub record Grows (T U : Tables) : Type 0 where
  pub more : T.used ≤ U.used
  pub sets : (i : ℕ) → i < T.used → row U.sets i ≡ row T.sets i
  pub ends : (i j : ℕ) → i < T.used → j < T.used → root_of T.entries i ≡ root_of T.entries j → root_of U.entries i ≡ root_of U.entries j
  pub small : (i a : ℕ) → i < T.used → before a (row T.smallest (root_of T.entries i)) ≡ false → before a (row U.smallest (root_of U.entries i)) ≡ false
  pub union : (i q : ℕ) → i < T.used → has q (row T.unions (root_of T.entries i)) ≡ true → has q (row U.unions (root_of U.entries i)) ≡ true

pub grows_none : (T : Tables) → Grows T T
grows_none T = record { more = omega arith; sets = λ i l. refl; ends = λ i j a b e. e; small = λ i a l e. e; union = λ i q l e. e }

pub grows_both : (T U W : Tables) → Grows T U → Grows U W → Grows T W
grows_both T U W g h = record {
  more = omega (arith, g.more, h.more);
  sets = λ i l. h.sets i (up i l) ∙ g.sets i l;
  ends = λ i j a b e. h.ends i j (up i a) (up j b) (g.ends i j a b e);
  small = λ i a l e. h.small i a (up i l) (g.small i a l e);
  union = λ i q l e. h.union i q (up i l) (g.union i q l e);
}
  where
    up : (i : ℕ) → i < T.used → i < U.used
    up i l = omega (arith, g.more)

-- ---- a slot placed

module _ (T : Tables) (s Q : ℕ) (level : Level T) (free : T.used < room T.entries) where
  inside : T.used < length T.entries
  inside = omega (arith, room_within T.entries)

  old_set : (i : ℕ) → i < T.used → row (appended T s Q).sets i ≡ row T.sets i
  old_set i l = row_other T.sets T.used i s (λ e. omega arith)

  pub appended_set : s < 2 ^ width → row (appended T s Q).sets T.used ≡ s
  appended_set fit = row_store T.sets T.used s (omega (arith, inside, level_sets T level)) fit

  pub appended_grows : Grows T (appended T s Q)
  appended_grows = record {
    more = omega arith;
    sets = old_set;
    ends = λ i j a b e. lower_root T.entries T.used inside i a ∙ e ∙ sym (lower_root T.entries T.used inside j b);
    small = λ i a l e. ap (before a) (lower_value T.entries T.used inside T.smallest Q (level_smallest T level) i l) ∙ e;
    union = λ i q l e. ap (has q) (lower_value T.entries T.used inside T.unions Q (level_unions T level) i l) ∙ e;
  }

  module _ (p k : ℕ) (G : List ℕ) (h : Sound p k G T) (slot : Slot p k G s) (new : (i : ℕ) → i < T.used → row T.sets i ≡ s → ⊥)
      (member : Q ∈ G) (within : sub s Q ≡ true) (fs : s < 2 ^ width) (fq : Q < 2 ^ width) where
    abbrev U : Tables
    U = appended T s Q

    -- of the used slots the last is the new one
    last : (P : ℕ → Type 0) → P T.used → ((i : ℕ) → i < T.used → P i) → (i : ℕ) → i < U.used → P i
    last P at low i l = go (lt_or_le i T.used)
      where
        go : (i < T.used) ⊎ (T.used ≤ i) → P i
        go (inl b) = low i b
        go (inr b) = let e : T.used ≡ i = omega arith in subst P e at

    new_set : row U.sets T.used ≡ s
    new_set = appended_set fs

    new_root : root_of U.entries T.used ≡ T.used
    new_root = placed_root T.entries T.used inside

    old_root : (i : ℕ) → i < T.used → root_of U.entries i ≡ root_of T.entries i
    old_root = lower_root T.entries T.used inside

    -- no old slot ends at the new one
    apart : (i : ℕ) → i < T.used → root_of U.entries i ≡ root_of U.entries T.used → ⊥
    apart i l e = omega (arith, old_root i l, new_root, root_le T.entries i)

    unused : (i : ℕ) → U.used ≤ i → Unused U i
    unused i l =
        let o = h.others i (omega arith) in
        let ne : (i ≡ T.used → ⊥) = λ e. omega arith in
        record {
          set = row_other T.sets T.used i s ne ∙ o.set;
          entry = get_or-set_other T.entries T.used i T.used 0 ne ∙ o.entry;
          smallest = row_other T.smallest T.used i Q ne ∙ o.smallest;
          union = row_other T.unions T.used i Q ne ∙ o.union;
        }

    once : (i : ℕ) → i < U.used → (j : ℕ) → j < U.used → row U.sets i ≡ row U.sets j → i ≡ j
    once =
        last (λ i. (j : ℕ) → j < U.used → row U.sets i ≡ row U.sets j → i ≡ j)
        (last (λ j. row U.sets T.used ≡ row U.sets j → T.used ≡ j) (λ e. refl) (λ j l e. absurd (new j l (sym (old_set j l) ∙ sym e ∙ new_set))))
        (λ i l. last (λ j. row U.sets i ≡ row U.sets j → i ≡ j) (λ e. absurd (new i l (sym (old_set i l) ∙ e ∙ new_set)))
        (λ j m e. h.once i j l m (sym (old_set i l) ∙ e ∙ old_set j m)))

    own : InClass k G s Q
    own = class_own k G s Q member within

    ends : (i : ℕ) → i < U.used → (j : ℕ) → j < U.used → root_of U.entries i ≡ root_of U.entries j → SlotsJoined k G (row U.sets i) (row U.sets j)
    ends =
        last (λ i. (j : ℕ) → j < U.used → root_of U.entries i ≡ root_of U.entries j → SlotsJoined k G (row U.sets i) (row U.sets j))
        (last (λ j. root_of U.entries T.used ≡ root_of U.entries j → SlotsJoined k G (row U.sets T.used) (row U.sets j))
        (λ e. rw new_set (class_slots k G s s Q own own)) (λ j l e. absurd (apart j l (sym e))))
        (λ i l. last (λ j. root_of U.entries i ≡ root_of U.entries j → SlotsJoined k G (row U.sets i) (row U.sets j)) (λ e. absurd (apart i l e))
        (λ j m e. rw (old_set i l, old_set j m) (h.ends i j l m (sym (old_root i l) ∙ e ∙ old_root j m))))

    small : (i : ℕ) → i < U.used → InClass k G (row U.sets i) (row U.smallest (root_of U.entries i))
    small =
        last (λ i. InClass k G (row U.sets i) (row U.smallest (root_of U.entries i)))
        (rw (new_set, placed_value T.entries T.used inside T.smallest Q (level_smallest T level) fq) own)
        (λ i l. rw (old_set i l, lower_value T.entries T.used inside T.smallest Q (level_smallest T level) i l) (h.small i l))

    unions : (i : ℕ) → i < U.used → PartsIn k G (row U.sets i) (row U.unions (root_of U.entries i))
    unions =
        last (λ i. PartsIn k G (row U.sets i) (row U.unions (root_of U.entries i)))
        (rw (new_set, placed_value T.entries T.used inside T.unions Q (level_unions T level) fq) (λ q t. (Q, own, t)))
        (λ i l. rw (old_set i l, lower_value T.entries T.used inside T.unions Q (level_unions T level) i l) (h.union i l))

    pub appended_sound : Sound p k G U
    appended_sound = record {
      level = kept_level T U (appended_kept T s Q free) level;
      fits = (appended_kept T s Q free).fits h.fits;
      steady = set_steady T.entries T.used T.used (omega arith) h.steady;
      others = unused;
      held = last (λ i. Slot p k G (row U.sets i)) (rw new_set slot) (λ i l. rw (old_set i l) (h.held i l));
      once = λ i j a b e. once i a j b e;
      ends = λ i j a b e. ends i a j b e;
      small = small;
      union = unions;
    }

-- ---- two slots joined, and a clique counted in

module _ (p k : ℕ) (G : List ℕ) (wide : p ≤ width) (family : Family p k G) (T : Tables) (h : Sound p k G T) where
  sizes : (x : ℕ) → x ∈ G → size x ≡ k
  sizes x m = (family x m).0

  -- v is a clique of the community of slot x, and each part of v is one of such a clique
  abbrev Classed : ℕ → ℕ → Type 0
  Classed x v = InClass k G (row T.sets x) v

  abbrev Parted : ℕ → ℕ → Type 0
  Parted x v = PartsIn k G (row T.sets x) v

  classed_lesser : (x a b : ℕ) → Classed x a → Classed x b → Classed x (lesser a b)
  classed_lesser x a b = lesser_one a b (Classed x)

  classed_over : (x y v : ℕ) → y < T.used → SlotsJoined k G (row T.sets x) (row T.sets y) → Classed y v → Classed x v
  classed_over x y v l = class_over k G sizes (row T.sets x) (row T.sets y) v (h.held y l).sized

  parted_union : (x a b : ℕ) → Parted x a → Parted x b → Parted x (union a b)
  parted_union x a b = parts_union k G (row T.sets x) a b

  parted_over : (x y v : ℕ) → y < T.used → SlotsJoined k G (row T.sets x) (row T.sets y) → Parted y v → Parted x v
  parted_over x y v l = parts_over k G sizes (row T.sets x) (row T.sets y) v (h.held y l).sized

  in_table : (i : ℕ) → i < T.used → i < length T.entries
  in_table i l = omega (arith, room_within T.entries, h.fits)

  module _ (i j : ℕ) (li : i < T.used) (lj : j < T.used) where
    wi : i < length T.entries
    wi = in_table i li

    wj : j < length T.entries
    wj = in_table j lj

    lesser_fit : (a b : ℕ) → a < 2 ^ width → b < 2 ^ width → lesser a b < 2 ^ width
    lesser_fit a b x y = lesser_one a b (λ v. v < 2 ^ width) x y

    pub joined_grows : Grows T (joined T i j)
    unfolding joined
    joined_grows = record {
      more = omega arith;
      sets = λ x l. refl;
      ends = λ x y a b e. joined_same T.entries i j wi wj x y e;
      small = λ x a l e.
          value_grows T.entries i j wi wj lesser T.smallest (level_smallest T h.level) lesser_fit (small_fits p k G T wide family h i li) (small_fits p k G T wide family h j lj)
          (λ v. before a v ≡ false) (λ b c. lesser_left b c a) (λ b c. lesser_right b c a) x e;
      union = λ x q l e.
          value_grows T.entries i j wi wj union T.unions (level_unions T h.level) (union_lt width) (union_fits p k G T wide family h i li) (union_fits p k G T wide family h j lj)
          (λ v. has q v ≡ true) (union_l q) (union_r q) x e;
    }

    -- the slots are joined by a chain too
    module _ (one : SlotsJoined k G (row T.sets i) (row T.sets j)) where
      abbrev J : Tables
      J = joined T i j

      -- a slot of either class is joined to both
      to_first : (x : ℕ) → x < T.used → Either T.entries i j x → SlotsJoined k G (row T.sets x) (row T.sets i)
      to_first x l (inl e) = h.ends x i l li e
      to_first x l (inr e) =
          slots_trans k G sizes (row T.sets x) (row T.sets j) (row T.sets i) (h.held j lj).sized (h.ends x j l lj e) (slots_sym k G (row T.sets i) (row T.sets j) one)

      to_second : (x : ℕ) → x < T.used → Either T.entries i j x → SlotsJoined k G (row T.sets x) (row T.sets j)
      to_second x l e = slots_trans k G sizes (row T.sets x) (row T.sets i) (row T.sets j) (h.held i li).sized (to_first x l e) one

      unchanged : (x : ℕ) → T.used ≤ x → Unused J x
      unfolding joined merged
      unchanged x l =
          let o = h.others x l in
          let high = high_le T.entries i j T.used li lj in
          let low = low_high T.entries i j in
          record {
            set = o.set;
            entry =
                get_or-set_other (halved (halved T.entries i) j) (high_root T.entries i j) x (low_root T.entries i j) 0 (λ e. omega arith)
                ∙ halved_above (halved T.entries i) j x 0 (omega arith)
                ∙ halved_above T.entries i x 0 (omega arith)
                ∙ o.entry;
            smallest = row_other T.smallest (low_root T.entries i j) x _ (λ e. omega arith) ∙ o.smallest;
            union = row_other T.unions (low_root T.entries i j) x _ (λ e. omega arith) ∙ o.union;
          }

      joined_ends : (x y : ℕ) → x < T.used → y < T.used → root_of J.entries x ≡ root_of J.entries y → SlotsJoined k G (row T.sets x) (row T.sets y)
      unfolding joined
      joined_ends x y a b e = go (joined_apart T.entries i j wi wj x y e)
        where
          go : (root_of T.entries x ≡ root_of T.entries y) ⊎ (Either T.entries i j x × Either T.entries i j y) → SlotsJoined k G (row T.sets x) (row T.sets y)
          go (inl s) = h.ends x y a b s
          go (inr c) =
              slots_trans k G sizes (row T.sets x) (row T.sets i) (row T.sets y) (h.held i li).sized (to_first x a c.0)
              (slots_sym k G (row T.sets y) (row T.sets i) (to_first y b c.1))

      -- what a table has at a slot's end, from what it had: P says of a value that it is right at a slot
      at_end : (f : ℕ → ℕ → ℕ) (xs : List ℕ) → rows xs ≡ length T.entries → ((a b : ℕ) → a < 2 ^ width → b < 2 ^ width → f a b < 2 ^ width)
          → row xs (root_of T.entries i) < 2 ^ width → row xs (root_of T.entries j) < 2 ^ width
          → (P : ℕ → ℕ → Type 0) → ((x a b : ℕ) → P x a → P x b → P x (f a b)) → ((x y v : ℕ) → y < T.used → SlotsJoined k G (row T.sets x) (row T.sets y) → P y v → P x v)
          → ((x : ℕ) → x < T.used → P x (row xs (root_of T.entries x)))
          → (x : ℕ) → x < T.used → P x (row (merged f xs (low_root T.entries i j) (high_root T.entries i j)) (root_of J.entries x))
      unfolding joined
      at_end f xs lev fit ai aj P keeps over old x l = go (either_or_not T.entries i j x)
        where
          go : Either T.entries i j x ⊎ (Either T.entries i j x → ⊥) → P x (row (merged f xs (low_root T.entries i j) (high_root T.entries i j)) (root_of J.entries x))
          go (inl e) =
              value_sound T.entries i j wi wj f xs lev fit ai aj (P x) (keeps x) (over x i (row xs (root_of T.entries i)) li (to_first x l e) (old i li))
              (over x j (row xs (root_of T.entries j)) lj (to_second x l e) (old j lj)) x e
          go (inr n) = subst (P x) (sym (value_out T.entries i j wi wj f xs lev fit ai aj x n)) (old x l)

      pub joined_sound : Sound p k G J
      unfolding joined
      joined_sound = record {
        level = kept_level T J (joined_kept T i j) h.level;
        fits = (joined_kept T i j).fits h.fits;
        steady =
            set_steady (halved (halved T.entries i) j) (high_root T.entries i j) (low_root T.entries i j) (low_high T.entries i j)
            (halved_steady (halved T.entries i) j (halved_steady T.entries i h.steady));
        others = unchanged;
        held = h.held;
        once = h.once;
        ends = joined_ends;
        small =
            at_end lesser T.smallest (level_smallest T h.level) lesser_fit (small_fits p k G T wide family h i li) (small_fits p k G T wide family h j lj)
            Classed classed_lesser classed_over h.small;
        union =
            at_end union T.unions (level_unions T h.level) (union_lt width) (union_fits p k G T wide family h i li) (union_fits p k G T wide family h j lj)
            Parted parted_union parted_over h.union;
      }

  module _ (f Q : ℕ) (lf : f < T.used) (own : InClass k G (row T.sets f) Q) where
    abbrev C : Tables
    C = counted T f Q

    clique_fits : Q < 2 ^ width
    clique_fits = set_fits p Q wide (family Q (last_in own.chain)).1

    small_op : lesser (row T.smallest (root_of T.entries f)) Q < 2 ^ width
    small_op = lesser_one (row T.smallest (root_of T.entries f)) Q (λ v. v < 2 ^ width) (small_fits p k G T wide family h f lf) clique_fits

    union_op : union (row T.unions (root_of T.entries f)) Q < 2 ^ width
    union_op = union_lt width (row T.unions (root_of T.entries f)) Q (union_fits p k G T wide family h f lf) clique_fits

    in_small : f < rows T.smallest
    in_small = omega (arith, in_table f lf, level_smallest T h.level)

    in_unions : f < rows T.unions
    in_unions = omega (arith, in_table f lf, level_unions T h.level)

    pub counted_grows : Grows T C
    counted_grows = record {
      more = omega arith;
      sets = λ x l. refl;
      ends = λ x y a b e. e;
      small = λ x a l. count_grows T.entries f Q lesser T.smallest in_small small_op (λ v. before a v ≡ false) (λ b c. lesser_left b c a) x;
      union = λ x q l. count_grows T.entries f Q union T.unions in_unions union_op (λ v. has q v ≡ true) (union_l q) x;
    }

    -- the class of f has the clique
    pub counted_small : (x : ℕ) → root_of T.entries x ≡ root_of T.entries f → before Q (row C.smallest (root_of C.entries x)) ≡ false
    counted_small x e =
        ap (before Q) (count_in T.entries f Q lesser T.smallest in_small small_op x e)
        ∙ lesser_right (row T.smallest (root_of T.entries f)) Q Q (set_order.irrefl Q)

    pub counted_union : (x q : ℕ) → root_of T.entries x ≡ root_of T.entries f → has q Q ≡ true → has q (row C.unions (root_of C.entries x)) ≡ true
    counted_union x q e t =
        ap (has q) (count_in T.entries f Q union T.unions in_unions union_op x e) ∙ union_r q (row T.unions (root_of T.entries f)) Q t

    uncounted : (x : ℕ) → T.used ≤ x → Unused C x
    uncounted x l =
        let o = h.others x l in
        let ne : (x ≡ root_of T.entries f → ⊥) = λ e. omega (arith, root_le T.entries f) in
        record {
          set = o.set;
          entry = o.entry;
          smallest = row_other T.smallest (root_of T.entries f) x _ ne ∙ o.smallest;
          union = row_other T.unions (root_of T.entries f) x _ ne ∙ o.union;
        }

    -- what a table has at a slot's end, from what it had and what is right of the clique
    counted_end : (op : ℕ → ℕ → ℕ) (xs : List ℕ) → f < rows xs → op (row xs (root_of T.entries f)) Q < 2 ^ width
        → (P : ℕ → ℕ → Type 0) → ((x a b : ℕ) → P x a → P x b → P x (op a b)) → ((x y v : ℕ) → y < T.used → SlotsJoined k G (row T.sets x) (row T.sets y) → P y v → P x v)
        → P f Q → ((x : ℕ) → x < T.used → P x (row xs (root_of T.entries x)))
        → (x : ℕ) → x < T.used → P x (row (with_clique T.entries f Q op xs) (root_of T.entries x))
    counted_end op xs within fit P keeps over pq old x l = go (same_or_not (root_of T.entries x) (root_of T.entries f))
      where
        go : (root_of T.entries x ≡ root_of T.entries f) ⊎ (root_of T.entries x ≡ root_of T.entries f → ⊥) → P x (row (with_clique T.entries f Q op xs) (root_of T.entries x))
        go (inl e) =
            let j = h.ends x f l lf e in
            subst (P x) (sym (count_in T.entries f Q op xs within fit x e))
            (keeps x (row xs (root_of T.entries f)) Q (over x f (row xs (root_of T.entries f)) lf j (old f lf)) (over x f Q lf j pq))
        go (inr n) = subst (P x) (sym (count_out T.entries f Q op xs x n)) (old x l)

    pub counted_sound : Sound p k G C
    counted_sound = record {
      level = kept_level T C (counted_kept T f Q) h.level;
      fits = h.fits;
      steady = h.steady;
      others = uncounted;
      held = h.held;
      once = h.once;
      ends = h.ends;
      small = counted_end lesser T.smallest in_small small_op Classed classed_lesser classed_over own h.small;
      union = counted_end union T.unions in_unions union_op Parted parted_union parted_over (λ q t. (Q, own, t)) h.union;
    }
