-- What the tables leave free: a used slot keeps its set, classes only merge, and the smallest and union of a used slot that is no end are neither written
-- nor looked at; the slot after an end is of its class, so that each class has such a slot. Assumes nothing.
use mathlib.Core.Path.{◌≡◌, refl, sym, ap, ap₂, ◌∙◌, subst}
use mathlib.Core.Logic.{◌⊎◌, inl, inr}
use mathlib.Core.Bool.{true}
use mathlib.Core.List.Memᴰ
use mathlib.Core.List.{[], List, ◌∷◌}
use Prim.Native.Nat.{ℕ, suc, ◌≤◌, ◌<◌}
use native.Mathlib.Omega.{arith}
use lib.ListN.{length}
use Rattle.sets.specs.Lists.{◌∈◌}
use Rattle.sets.specs.Sets.{has, out, size, sub, lowest, members, sets_of}
use Rattle.sets.specs.Value.{width, row, store}
use Rattle.sets.proofs.Tests.{never, lt_or_le}
use Rattle.sets.proofs.Tables.{sized_same, row_other}
use Rattle.sets.proofs.Laws.{out_sub}
use Rattle.sets.proofs.Parts.{out_keeps, out_lacks, one_lacking, another}
use Rattle.percolation.specs.Percolate.{alone, shown}
use Rattle.percolation.specs.Links.{slots}
use Rattle.percolation.proofs.SlotCount.{Slot}
use Rattle.joining.specs.Entries.{root_of}
use Rattle.slots.specs.Tables.{Tables, tables, room}
use Rattle.slots.specs.Model.{find, low_root, merged, joined, placed, joined_used, took_part, took_parts, took_in}
use Rattle.slots_theory.specs.Shows.{shown_at, Shows}
use Rattle.slots.proofs.Cases.{appended, counted, placed_cases, joined_both, joined_idle, touched_cases}
use Rattle.joining.proofs.Follow.{root_le, root_twice}
use Rattle.slots.proofs.Lengths.{room_within, placed_kept, took_part_kept}
use Rattle.slots_theory.proofs.Classes.{joined_same, roots_own}
use Rattle.slots_theory.proofs.Values.{lower_root}
use Rattle.slots_theory.proofs.Shown.{Family, shows_slot, shows_complete, part_slot}
use Rattle.slots_theory.proofs.Taken.{taken_shown}

-- ---- what the used slots of T keep in U

pub record Stays (T U : Tables) : Type 0 where
  pub more : T.used ≤ U.used
  pub sets : (i : ℕ) → i < T.used → row U.sets i ≡ row T.sets i
  pub ends : (i j : ℕ) → i < T.used → j < T.used → root_of T.entries i ≡ root_of T.entries j → root_of U.entries i ≡ root_of U.entries j
  pub smallest : (i : ℕ) → i < T.used → (root_of T.entries i ≡ i → ⊥) → row U.smallest i ≡ row T.smallest i
  pub unions : (i : ℕ) → i < T.used → (root_of T.entries i ≡ i → ⊥) → row U.unions i ≡ row T.unions i

-- where classes only merge, no slot becomes an end again: else its old end, lower than it, would now end at it
pub stays_root : (T U : Tables) → Stays T U → (i : ℕ) → i < T.used → root_of U.entries i ≡ i → root_of T.entries i ≡ i
stays_root T U s i l e =
    let r = root_of T.entries i in
    let low = root_le T.entries i in
    omega (arith, s.ends r i (omega arith) l (root_twice T.entries i), root_le U.entries r)

pub stays_none : (T : Tables) → Stays T T
stays_none T = record { more = omega arith; sets = λ i l. refl; ends = λ i j a b e. e; smallest = λ i l n. refl; unions = λ i l n. refl }

pub stays_both : (T U W : Tables) → Stays T U → Stays U W → Stays T W
stays_both T U W a b = record {
  more = omega (arith, a.more, b.more);
  sets = λ i l. b.sets i (up i l) ∙ a.sets i l;
  ends = λ i j x y e. b.ends i j (up i x) (up j y) (a.ends i j x y e);
  smallest = λ i l n. b.smallest i (up i l) (λ e. n (stays_root T U a i l e)) ∙ a.smallest i l n;
  unions = λ i l n. b.unions i (up i l) (λ e. n (stays_root T U a i l e)) ∙ a.unions i l n;
}
  where
    up : (i : ℕ) → i < T.used → i < U.used
    up i l = omega (arith, a.more)

-- ---- each step

-- a row that is written at an end is no row of a slot that is none
at_end : (es xs : List ℕ) (r v i : ℕ) → root_of es r ≡ r → (root_of es i ≡ i → ⊥) → row (store xs r v) i ≡ row xs i
at_end es xs r v i own n = row_other xs r i v (λ e. n (subst (λ (x : ℕ). root_of es x ≡ x) (sym e) own))

appended_stays : (T : Tables) (s Q : ℕ) → T.used < room T.entries → Stays T (appended T s Q)
appended_stays T s Q free = record {
  more = omega arith;
  sets = λ i l. row_other T.sets T.used i s (λ e. omega arith);
  ends = λ i j a b e. lower_root T.entries T.used inside i a ∙ e ∙ sym (lower_root T.entries T.used inside j b);
  smallest = λ i l n. row_other T.smallest T.used i Q (λ e. omega arith);
  unions = λ i l n. row_other T.unions T.used i Q (λ e. omega arith);
}
  where
    inside : T.used < length T.entries
    inside = omega (arith, room_within T.entries)

joined_stays : (T : Tables) (i j : ℕ) → i < length T.entries → j < length T.entries → Stays T (joined T i j)
unfolding joined merged
joined_stays T i j wi wj = record {
  more = omega arith;
  sets = λ x l. refl;
  ends = λ x y a b e. joined_same T.entries i j wi wj x y e;
  smallest = λ x l n. at_end T.entries T.smallest (low_root T.entries i j) _ x (roots_own T.entries i j).0 n;
  unions = λ x l n. at_end T.entries T.unions (low_root T.entries i j) _ x (roots_own T.entries i j).0 n;
}

joined_used_stays : (T : Tables) (f i : ℕ) → T.used ≤ room T.entries → Stays T (joined_used T f i)
joined_used_stays T f i fits = go (lt_or_le f T.used) (lt_or_le i T.used)
  where
    within : (x : ℕ) → x < T.used → x < length T.entries
    within x l = omega (arith, room_within T.entries)

    go : (f < T.used) ⊎ (T.used ≤ f) → (i < T.used) ⊎ (T.used ≤ i) → Stays T (joined_used T f i)
    go (inl a) (inl b) = rw (joined_both T f i a b) (joined_stays T f i (within f a) (within i b))
    go (inl a) (inr b) = rw (joined_idle T f i (inr b)) (stays_none T)
    go (inr a) b = rw (joined_idle T f i (inl a)) (stays_none T)

counted_stays : (T : Tables) (f Q : ℕ) → Stays T (counted T f Q)
counted_stays T f Q = record {
  more = omega arith;
  sets = λ i l. refl;
  ends = λ i j a b e. e;
  smallest = λ i l n. at_end T.entries T.smallest (root_of T.entries f) _ i (root_twice T.entries f) n;
  unions = λ i l n. at_end T.entries T.unions (root_of T.entries f) _ i (root_twice T.entries f) n;
}

took_part_stays : (f Q q : ℕ) (T : Tables) → T.used ≤ room T.entries → Stays T (took_part f Q q T)
unfolding took_part
took_part_stays f Q q T fits =
    let P = placed T (out q Q) Q in
    stays_both T P (took_part f Q q T) (placed_cases T (out q Q) Q (Stays T) (stays_none T) (appended_stays T (out q Q) Q))
    (joined_used_stays P f (find T.sets T.used (out q Q)) ((placed_kept T (out q Q) Q).fits fits))

took_parts_stays : (f Q : ℕ) (qs : List ℕ) (T : Tables) → T.used ≤ room T.entries → Stays T (took_parts f Q qs T)
unfolding took_parts
took_parts_stays f Q [] T fits = stays_none T
took_parts_stays f Q (q ∷ qs) T fits =
    let U = took_part f Q q T in
    stays_both T U (took_parts f Q (q ∷ qs) T) (took_part_stays f Q q T fits) (took_parts_stays f Q qs U ((took_part_kept f Q q T).fits fits))

-- ---- a clique taken in

module _ (T : Tables) (Q : ℕ) (fits : T.used ≤ room T.entries) where
  pub took_stays : Stays T (took_in T Q)
  unfolding took_in
  took_stays =
      let f = find T.sets T.used (out (lowest Q) Q) in
      let U = took_parts f Q (members width Q) T in
      stays_both T U (took_in T Q) (took_parts_stays f Q (members width Q) T fits) (touched_cases U f Q (Stays U) (stays_none U) (counted_stays U f Q))

  -- a used slot that is no end keeps its smallest and its union
  pub free_kept : (i : ℕ) → i < T.used → (root_of T.entries i ≡ i → ⊥)
      → (row (took_in T Q).smallest i ≡ row T.smallest i) × (row (took_in T Q).unions i ≡ row T.unions i)
  free_kept i l n = (took_stays.smallest i l n, took_stays.unions i l n)

-- ---- what tables show does not turn on the free rows

-- rows that are the same at each end are so at the end of each slot
same_shown : (T : Tables) (ms us : List ℕ)
    → ((i : ℕ) → i < T.used → root_of T.entries i ≡ i → (row ms i ≡ row T.smallest i) × (row us i ≡ row T.unions i))
    → (i : ℕ) → i < T.used → shown_at (tables T.sets T.entries ms us T.used) i ≡ shown_at T i
unfolding shown_at
same_shown T ms us ends i l =
    let e = ends (root_of T.entries i) (omega (arith, root_le T.entries i)) (root_twice T.entries i) in
    ap₂ shown e.0 e.1

module _ (p k : ℕ) (F : List ℕ) (T : Tables) (h : Shows p k F T) where
  pub free_shown : (ms us : List ℕ) → length ms ≡ length T.smallest → length us ≡ length T.unions
      → ((i : ℕ) → i < T.used → root_of T.entries i ≡ i → (row ms i ≡ row T.smallest i) × (row us i ≡ row T.unions i))
      → ((i : ℕ) → T.used ≤ i → (row ms i ≡ 0) × (row us i ≡ 0)) → Shows p k F (tables T.sets T.entries ms us T.used)
  free_shown ms us em eu ends others = record {
    level = record { sets = h.level.sets; smallest = sized_same ms T.smallest _ _ em refl ∙ h.level.smallest; unions = sized_same us T.unions _ _ eu refl ∙ h.level.unions };
    fits = h.fits;
    held = h.held;
    each = h.each;
    once = h.once;
    down = h.down;
    others = λ i l. record { set = (h.others i l).set; entry = (h.others i l).entry; smallest = (others i l).0; union = (others i l).1 };
    ends = h.ends;
    stands = λ i a l m n. rw (same_shown T ms us ends i l) (h.stands i a l m n);
  }

-- ---- the slot after an end

-- it is used, and of the same class: so it is no end
abbrev pub Paired : Tables → Type 0
Paired T = (i : ℕ) → i < T.used → root_of T.entries i ≡ i → (suc i < T.used) × (root_of T.entries (suc i) ≡ i)

pub none_paired : (T : Tables) → T.used ≡ 0 → Paired T
none_paired T e i l r = absurd (omega arith)

pub paired_free : (T : Tables) → Paired T → (i : ℕ) → i < T.used → root_of T.entries i ≡ i → root_of T.entries (suc i) ≡ suc i → ⊥
paired_free T h i l r e = omega (arith, (h i l r).1)

-- U shows a clique more than T
module _ (p k m : ℕ) (F : List ℕ) (T U : Tables) (two : 2 ≤ k) (family : Family p k (m ∷ F)) (old : Shows p k F T) (new : Shows p k (m ∷ F) U) (s : Stays T U) where
  -- a slot more holds a sub-clique of the clique more
  more_part : (i : ℕ) → i < U.used → T.used ≤ i → sub (row U.sets i) m ≡ true
  more_part i l u = go (Memᴰ.cases_cons slot.member)
    where
      slot : Slot p k (m ∷ F) (row U.sets i)
      slot = shows_slot p k (m ∷ F) U new i l

      go : (slot.bearer ≡ m) ⊎ slot.bearer ∈ F → sub (row U.sets i) m ≡ true
      go (inl e) = ap (sub (row U.sets i)) (sym e) ∙ slot.within
      go (inr n) =
          let r =
          (shows_complete p k F T old).each (row U.sets i)
          (record { fits = slot.fits; sized = slot.sized; bearer = slot.bearer; member = n; within = slot.within })
          in
          let w : r.0 < U.used = omega (arith, r.1, s.more) in
          let e = new.once i r.0 l w (sym r.2 ∙ sym (s.sets r.0 r.1)) in
          absurd (omega (arith, r.1))

  -- sub-cliques of one clique are of one class
  one_class : (i j : ℕ) → i < U.used → j < U.used → sub (row U.sets i) m ≡ true → sub (row U.sets j) m ≡ true → root_of U.entries i ≡ root_of U.entries j
  one_class i j a b x y =
      (shows_complete p k (m ∷ F) U new).ends i j a b (record { a = m; b = m; in_a = x; in_b = y; chain = alone (Memᴰ.head refl) })

  -- each sub-clique has another beside it in a slot
  beside : (i : ℕ) → i < U.used → sub (row U.sets i) m ≡ true → (j : ℕ) × (j < U.used) × (sub (row U.sets j) m ≡ true) × (i ≡ j → ⊥)
  beside i l t =
      let sized = (family m (Memᴰ.head refl)).0 in
      let o = one_lacking (row U.sets i) m t ((shows_slot p k (m ∷ F) U new i l).sized ∙ sym sized) in
      let q : ℕ = o.0 in
      let d = another q m (omega arith) in
      let r : ℕ = d.0 in
      let w = (shows_complete p k (m ∷ F) U new).each (out r m) (part_slot p k (m ∷ F) family m r (Memᴰ.head refl) d.1) in
      let kept = out_keeps q r m d.1 (λ e. d.2 (sym e)) in (
        w.0,
        w.1,
        ap (λ (z : ℕ). sub z m) w.2 ∙ out_sub r m,
        λ e. never (has r (out q m)) kept (ap (has r) (sym o.3 ∙ ap (row U.sets) e ∙ w.2) ∙ out_lacks r m),
      )

  pub paired_more : Paired T → Paired U
  paired_more h i l e = go (lt_or_le i T.used)
    where
      go : (i < T.used) ⊎ (T.used ≤ i) → (suc i < U.used) × (root_of U.entries (suc i) ≡ i)
      go (inl b) =
          let r = stays_root T U s i b e in
          let g = h i b r in
          (omega (arith, g.0, s.more), s.ends (suc i) i g.0 b (g.1 ∙ sym r) ∙ e)
      go (inr b) =
          let t = more_part i l b in
          let o = beside i l t in
          let j : ℕ = o.0 in
          let c : root_of U.entries j ≡ i = one_class j i o.1 l o.2 t ∙ e in
          let w : suc i < U.used = omega (arith, o.1, o.3, root_le U.entries j) in
          (w, one_class (suc i) i w l (more_part (suc i) w (omega arith)) t ∙ e)

pub paired_took : (p k m : ℕ) (F : List ℕ) (T : Tables) → p ≤ width → 2 ≤ k → size m ≡ k → m ∈ sets_of p → ((x : ℕ) → x ∈ F → (size x ≡ k) × x ∈ sets_of p)
    → Shows p k F T → slots p k (m ∷ F) ≤ room T.entries → Paired T → Paired (took_in T m)
paired_took p k m F T wide two sized fits family old fit =
    paired_more p k m F T (took_in T m) two (λ x n. go x (Memᴰ.cases_cons n)) old (taken_shown p k m F T wide two sized fits family old fit)
    (took_stays T m old.fits)
  where
    go : (x : ℕ) → (x ≡ m) ⊎ x ∈ F → (size x ≡ k) × x ∈ sets_of p
    go x (inl e) = rw e (sized, fits)
    go x (inr i) = family x i
