-- The tables with one clique more: a slot for each of its sub-cliques, those slots one class, and the clique counted in. Assumes nothing.
use mathlib.Core.Path.{◌≡◌, refl, sym, ap, ◌∙◌, subst}
use mathlib.Core.Logic.{◌⊎◌, inl, inr}
use mathlib.Core.Bool.{true, false}
use mathlib.Core.List.Memᴰ
use mathlib.Core.List.{[], List, ◌∷◌}
use Prim.Native.Nat.{ℕ, suc, ◌≤◌, ◌<◌}
use native.Mathlib.Omega.{arith}
use lib.ListN.{length}
use borrow.Author.Tests.{eqb-true}
use Rattle.sets.specs.Lists.{◌∈◌}
use Rattle.sets.specs.Sets.{has, meet, out, size, sub, lowest, before, members, sets_of}
use Rattle.sets.specs.Value.{width, row}
use Rattle.sets.proofs.Tests.{lt_or_le}
use Rattle.sets.proofs.Laws.{out_sub, size_empty}
use Rattle.sets.proofs.Parts.{out_part, one_lacking, meet_sub_l, meet_sub_r}
use Rattle.sets.proofs.Members.{in_member, member_in, lowest_has, members_next}
use Rattle.percolation.specs.Percolate.{adjacent, Chain, alone}
use Rattle.percolation.specs.Links.{slots}
use Rattle.percolation.proofs.Chains.{adjacent_sym, first_in, last_in, Reach, chain_cons, cons_chain}
use Rattle.percolation.proofs.Families.{sets_part}
use Rattle.percolation.proofs.Joining.{SlotsJoined, Touched, joining}
use Rattle.percolation.proofs.SlotCount.{Slot}
use Rattle.joining.specs.Entries.{root_of}
use Rattle.slots.specs.Tables.{Tables, room}
use Rattle.slots.specs.Model.{find, joined, placed, took_part, took_parts, took_in}
use Rattle.slots_theory.specs.Shows.{Shows}
use Rattle.slots.proofs.Cases.{appended, counted, placed_old, placed_new, joined_both, touched_used}
use Rattle.slots.proofs.Finding.{find_le, found_holds, found_none}
use Rattle.slots.proofs.Lengths.{room_within, same_room, took_part_kept}
use Rattle.slots_theory.proofs.Classes.{joined_in}
use Rattle.slots_theory.proofs.Bearing.{InClass, class_own}
use Rattle.slots_theory.proofs.Shown.{Family, Sound, Complete, shows_sound, shows_complete, both_shows, part_slot, sound_mono, set_fits, room_more}
use Rattle.slots_theory.proofs.Growth.{Grows, grows_none, grows_both, appended_set, appended_grows, appended_sound, joined_grows, joined_sound, counted_grows, counted_sound, counted_small, counted_union}

-- U has what T had, and s in slot i
record Has (p k : ℕ) (G : List ℕ) (T U : Tables) (s i : ℕ) : Type 0 where
  sound : Sound p k G U
  grows : Grows T U
  within : i < U.used
  holds : row U.sets i ≡ s

-- U has what T had, and the clique m without each part of qs in a slot that ends where f does
record HasAll (p k : ℕ) (G : List ℕ) (T U : Tables) (f m : ℕ) (qs : List ℕ) : Type 0 where
  sound : Sound p k G U
  grows : Grows T U
  first : f < U.used
  part : sub (row U.sets f) m ≡ true
  each : (q : ℕ) → q ∈ qs → (i : ℕ) × (i < U.used) × (row U.sets i ≡ out q m) × (root_of U.entries i ≡ root_of U.entries f)

shared : (k a b : ℕ) → adjacent k a b ≡ true → suc (size (meet a b)) ≡ k
unfolding adjacent
shared k a b t = eqb-true (suc (size (meet a b))) k t

-- the family with one clique more
module _ (p k m : ℕ) (F : List ℕ) (wide : p ≤ width) (two : 2 ≤ k) (sized : size m ≡ k) (fits : m ∈ sets_of p) (family : Family p k F) where
  abbrev G : List ℕ
  G = m ∷ F

  all_sized : Family p k G
  all_sized x n = go (Memᴰ.cases_cons n)
    where
      go : (x ≡ m) ⊎ x ∈ F → (size x ≡ k) × x ∈ sets_of p
      go (inl e) = rw e (sized, fits)
      go (inr i) = family x i

  -- sub-cliques of m are of one community
  of_one : (s t : ℕ) → sub s m ≡ true → sub t m ≡ true → SlotsJoined k G s t
  of_one s t a b = record { a = m; b = m; in_a = a; in_b = b; chain = alone (Memᴰ.head refl) }

  -- ---- one sub-clique

  module _ (T : Tables) (h : Sound p k G T) (fit : slots p k G ≤ room T.entries) where
    placed_has : (q : ℕ) → has q m ≡ true → Has p k G T (placed T (out q m) m) (out q m) (find T.sets T.used (out q m))
    placed_has q t = go (lt_or_le (find T.sets T.used (out q m)) T.used)
      where
        s : ℕ
        s = out q m

        i : ℕ
        i = find T.sets T.used s

        go : (i < T.used) ⊎ (T.used ≤ i) → Has p k G T (placed T s m) s i
        go (inl l) = rw (placed_old T s m l) (record { sound = h; grows = grows_none T; within = l; holds = found_holds T.sets s T.used l })
        go (inr l) =
            let new = found_none T.sets s T.used l in
            let slot = part_slot p k G all_sized m q (Memᴰ.head refl) t in
            let free = room_more p k G T h s slot new fit in
            let fs = set_fits p s wide slot.fits in
            let e : i ≡ T.used = omega (arith, find_le T.sets s T.used) in
            rw (placed_new T s m l free) (record {
              sound = appended_sound T s m h.level free p k G h slot new (Memᴰ.head refl) (out_sub q m) fs (set_fits p m wide fits);
              grows = appended_grows T s m h.level free;
              within = omega arith;
              holds = ap (row (appended T s m).sets) e ∙ appended_set T s m h.level free fs;
            })

    -- slot f is one of the clique, used once the sub-clique is placed
    module _ (f q : ℕ) (t : has q m ≡ true) (used : f < (placed T (out q m) m).used) (part : sub (row (placed T (out q m) m).sets f) m ≡ true) where
      abbrev P : Tables
      P = placed T (out q m) m

      abbrev i : ℕ
      i = find T.sets T.used (out q m)

      is_join : took_part f m q T ≡ joined P f i
      unfolding took_part
      is_join = joined_both P f i used (placed_has q t).within

      both_part : SlotsJoined k G (row P.sets f) (row P.sets i)
      both_part = let g = placed_has q t in of_one (row P.sets f) (row P.sets i) part (ap (λ (z : ℕ). sub z m) g.holds ∙ out_sub q m)

      part_has : Has p k G T (took_part f m q T) (out q m) i
      unfolding joined
      part_has =
          let g = placed_has q t in
          rw is_join (record {
            sound = joined_sound p k G wide all_sized P g.sound f i used g.within both_part;
            grows = grows_both T P (joined P f i) g.grows (joined_grows p k G wide all_sized P g.sound f i used g.within);
            within = g.within;
            holds = g.holds;
          })

      -- both slots end at one
      part_joined : root_of (took_part f m q T).entries i ≡ root_of (took_part f m q T).entries f
      unfolding joined
      part_joined =
          let g = placed_has q t in
          let wf : f < length P.entries = omega (arith, g.sound.fits, room_within P.entries) in
          let wi : i < length P.entries = omega (arith, g.within, g.sound.fits, room_within P.entries) in
          rw is_join (joined_in P.entries f i wf wi i (inr refl) ∙ sym (joined_in P.entries f i wf wi f (inl refl)))

      part_first : (f < (took_part f m q T).used) × (sub (row (took_part f m q T).sets f) m ≡ true)
      unfolding joined
      part_first = rw is_join (used, part)

      -- and the others after it
      cons_have : (qs : List ℕ) → HasAll p k G (took_part f m q T) (took_parts f m qs (took_part f m q T)) f m qs → HasAll p k G T (took_parts f m (q ∷ qs) T) f m (q ∷ qs)
      unfolding took_parts
      cons_have qs rest = record {
        sound = rest.sound;
        grows = grows_both T U W a.grows rest.grows;
        first = rest.first;
        part = rest.part;
        each = λ r n. go r (Memᴰ.cases_cons n);
      }
        where
          U : Tables
          U = took_part f m q T

          W : Tables
          W = took_parts f m qs U

          a : Has p k G T U (out q m) i
          a = part_has

          go : (r : ℕ) → (r ≡ q) ⊎ r ∈ qs → (j : ℕ) × (j < W.used) × (row W.sets j ≡ out r m) × (root_of W.entries j ≡ root_of W.entries f)
          go r (inl e) = (
            i,
            omega (arith, a.within, rest.grows.more),
            rest.grows.sets i a.within ∙ a.holds ∙ ap (λ (z : ℕ). out z m) (sym e),
            rest.grows.ends i f a.within part_first.0 part_joined,
          )
          go r (inr n) = rest.each r n

  -- ---- all of them

  same_fit : (T : Tables) (f q : ℕ) → slots p k G ≤ room T.entries → slots p k G ≤ room (took_part f m q T).entries
  same_fit T f q l = omega (arith, same_room T.entries (took_part f m q T).entries (took_part_kept f m q T).entries)

  parts_have : (f : ℕ) (qs : List ℕ) (T : Tables) → Sound p k G T → slots p k G ≤ room T.entries → f < T.used → sub (row T.sets f) m ≡ true
      → ((q : ℕ) → q ∈ qs → has q m ≡ true) → HasAll p k G T (took_parts f m qs T) f m qs
  unfolding took_parts
  parts_have f [] T h fit l s t = record { sound = h; grows = grows_none T; first = l; part = s; each = λ q n. absurd (Memᴰ.not-nil n) }
  parts_have f (q ∷ qs) T h fit l s t =
      let tq = t q (Memᴰ.head refl) in
      let g = (placed_has T h fit q tq).grows in
      let lp : f < (placed T (out q m) m).used = omega (arith, g.more) in
      let sp = ap (λ (z : ℕ). sub z m) (g.sets f l) ∙ s in
      let b = part_first T h fit f q tq lp sp in
      cons_have T h fit f q tq lp sp qs
      (parts_have f qs (took_part f m q T) (part_has T h fit f q tq lp sp).sound (same_fit T f q fit) b.0 b.1 (λ r n. t r (Memᴰ.tail n)))

  -- a clique has parts
  some : m ≡ 0 → ⊥
  some e = omega (arith, ap size e, size_empty)

  -- the first slot is that of the clique without its lowest part
  abbrev first_slot : Tables → ℕ
  first_slot T = find T.sets T.used (out (lowest m) m)

  module _ (T : Tables) (h : Sound p k G T) (fit : slots p k G ≤ room T.entries) where
    lowest_in_lem : has (lowest m) m ≡ true
    lowest_in_lem = lowest_has m some

    first_has : Has p k G T (placed T (out (lowest m) m) m) (out (lowest m) m) (first_slot T)
    first_has = placed_has T h fit (lowest m) lowest_in_lem

    first_part : sub (row (placed T (out (lowest m) m) m).sets (first_slot T)) m ≡ true
    first_part = ap (λ (z : ℕ). sub z m) first_has.holds ∙ out_sub (lowest m) m

    all_have : HasAll p k G T (took_parts (first_slot T) m (members width m) T) (first_slot T) m (members width m)
    all_have =
        let q = lowest m in
        let qs = members width (out q m) in
        let f = first_slot T in
        let w = first_has.within in
        let b = part_first T h fit f q lowest_in_lem w first_part in
        subst (λ (l : List ℕ). HasAll p k G T (took_parts f m l T) f m l) (sym (members_next width m some (set_fits p m wide fits)))
        (cons_have T h fit f q lowest_in_lem w first_part qs
        (parts_have f qs (took_part f m q T) (part_has T h fit f q lowest_in_lem w first_part).sound (same_fit T f q fit) b.0 b.1
        (λ r n. out_part q r m (in_member width (out q m) r n).1)))

  -- ---- what the tables then show

  module _ (T : Tables) (old : Shows p k F T) (fit : slots p k G ≤ room T.entries) where
    abbrev f : ℕ
    f = first_slot T

    abbrev U : Tables
    U = took_parts f m (members width m) T

    -- with the clique counted in
    abbrev W : Tables
    W = counted U f m

    before_sound : Sound p k G T
    before_sound = sound_mono p k F G T (λ x n. Memᴰ.tail n) (shows_sound p k F T old)

    full : Complete p k F T
    full = shows_complete p k F T old

    all : HasAll p k G T U f m (members width m)
    all = all_have T before_sound fit

    -- each sub-clique is in a slot that ends where f does
    sub_clique : (u : ℕ) → suc (size u) ≡ k → sub u m ≡ true → (i : ℕ) × (i < U.used) × (row U.sets i ≡ u) × (root_of U.entries i ≡ root_of U.entries f)
    sub_clique u z s =
        let o = one_lacking u m s (z ∙ sym sized) in
        let q : ℕ = o.0 in
        let r = all.each q (member_in width m q (omega (arith, sets_part p m fits q o.1)) o.1) in
        (r.0, r.1, r.2 ∙ sym o.3, r.3)

    f_class : InClass k G (row U.sets f) m
    f_class = class_own k G (row U.sets f) m (Memᴰ.head refl) all.part

    sound : Sound p k G W
    sound = counted_sound p k G wide all_sized U all.sound f m all.first f_class

    grows : Grows T W
    grows = grows_both T U W all.grows (counted_grows p k G wide all_sized U all.sound f m all.first f_class)

    -- a slot that lies in an old clique is an old slot
    was : (i a : ℕ) → i < W.used → a ∈ F → sub (row W.sets i) a ≡ true → i < T.used
    was i a l n s =
        let g = sound.held i l in
        let r = full.each (row W.sets i) (record { fits = g.fits; sized = g.sized; bearer = a; member = n; within = s }) in
        let b = r.1 in
        let e = sound.once i r.0 l (omega (arith, grows.more)) (sym r.2 ∙ sym (grows.sets r.0 b)) in
        omega arith

    each : (s : ℕ) → Slot p k G s → (i : ℕ) × (i < W.used) × (row W.sets i ≡ s)
    each s g = go (Memᴰ.cases_cons g.member)
      where
        go : (g.bearer ≡ m) ⊎ g.bearer ∈ F → (i : ℕ) × (i < W.used) × (row W.sets i ≡ s)
        go (inl e) = let r = sub_clique s g.sized (ap (sub s) (sym e) ∙ g.within) in (r.0, r.1, r.2)
        go (inr n) =
            let r = full.each s (record { fits = g.fits; sized = g.sized; bearer = g.bearer; member = n; within = g.within }) in
            (r.0, omega (arith, r.1, grows.more), grows.sets r.0 r.1 ∙ r.2)

    -- slots that a chain of old cliques joins
    old_ends : (i j : ℕ) → i < W.used → j < W.used → SlotsJoined k F (row W.sets i) (row W.sets j) → root_of W.entries i ≡ root_of W.entries j
    old_ends i j a b c =
        let wi = was i c.a a (first_in c.chain) c.in_a in
        let wj = was j c.b b (last_in c.chain) c.in_b in
        grows.ends i j wi wj (full.ends i j wi wj (rw (← grows.sets i wi, ← grows.sets j wj) c))

    -- slots that touch the new clique
    new_ends : (i : ℕ) → i < W.used → Touched k m F (row W.sets i) → root_of W.entries i ≡ root_of W.entries f
    new_ends i l (inl s) =
        let r = sub_clique (row W.sets i) (sound.held i l).sized s in
        ap (root_of W.entries) (sound.once i r.0 l r.1 (sym r.2)) ∙ r.3
    new_ends i l (inr u) =
        let r = sub_clique u.0 u.1 u.2 in
        sym (old_ends r.0 i r.1 l (subst (λ (z : ℕ). SlotsJoined k F z (row W.sets i)) (sym r.2) u.3)) ∙ r.3

    ends : (i j : ℕ) → i < W.used → j < W.used → SlotsJoined k G (row W.sets i) (row W.sets j) → root_of W.entries i ≡ root_of W.entries j
    ends i j a b c = go ((joining k m F sized (λ x n. (family x n).0) (row W.sets i) (row W.sets j)).0 c)
      where
        go : SlotsJoined k F (row W.sets i) (row W.sets j) ⊎ (Touched k m F (row W.sets i) × Touched k m F (row W.sets j)) → root_of W.entries i ≡ root_of W.entries j
        go (inl s) = old_ends i j a b s
        go (inr t) = new_ends i a t.0 ∙ sym (new_ends j b t.1)

    -- a clique of a slot's community: the new one, or an old one of the community of a slot that ends at the same
    abbrev Source : ℕ → ℕ → Type 0
    Source i a =
        ((a ≡ m) × (root_of W.entries i ≡ root_of W.entries f))
        ⊎ ((j : ℕ) × (j < T.used) × InClass k F (row T.sets j) a × (root_of W.entries j ≡ root_of W.entries i))

    -- from a slot of W that lies in an old clique
    old_source : (i j a : ℕ) → j < W.used → InClass k F (row W.sets j) a → root_of W.entries j ≡ root_of W.entries i → Source i a
    old_source i j a l c e =
        let w = was j c.bearer l (first_in c.chain) c.within in
        inr (j, w, rw (← grows.sets j w) c, e)

    source : (i a : ℕ) → i < W.used → InClass k G (row W.sets i) a → Source i a
    source i a l c = go (chain_cons (adjacent k) (adjacent_sym k) m F c.chain)
      where
        -- the slot ends where f does
        at_f : Chain (adjacent k) G c.bearer m → root_of W.entries i ≡ root_of W.entries f
        at_f d = ends i f l all.first (record { a = c.bearer; b = m; in_a = c.within; in_b = all.part; chain = d })

        reach : root_of W.entries i ≡ root_of W.entries f → Reach (adjacent k) (adjacent_sym k) m F a → Source i a
        reach e (inl d) = inl (d, e)
        reach e (inr y) =
            let u : ℕ = meet m y.0 in
            let r = sub_clique u (shared k m y.0 y.1) (meet_sub_l m y.0) in
            let d : InClass k F u a = record { bearer = y.0; within = meet_sub_r m y.0; chain = y.2 } in
            old_source i r.0 a r.1 (subst (λ (z : ℕ). InClass k F z a) (sym r.2) d) (r.3 ∙ sym e)

        go : Chain (adjacent k) F c.bearer a ⊎ (Reach (adjacent k) (adjacent_sym k) m F c.bearer × Reach (adjacent k) (adjacent_sym k) m F a) → Source i a
        go (inl d) = old_source i i a l (record { bearer = c.bearer; within = c.within; chain = d }) refl
        go (inr d) = reach (at_f (cons_chain (adjacent k) (adjacent_sym k) m F (inr (d.0, inl refl)))) d.1

    small : (i a : ℕ) → i < W.used → InClass k G (row W.sets i) a → before a (row W.smallest (root_of W.entries i)) ≡ false
    small i a l c = go (source i a l c)
      where
        go : Source i a → before a (row W.smallest (root_of W.entries i)) ≡ false
        go (inl n) = ap (λ (z : ℕ). before z (row W.smallest (root_of W.entries i))) n.0 ∙ counted_small p k G wide all_sized U all.sound f m all.first f_class i n.1
        go (inr j) = ap (λ (r : ℕ). before a (row W.smallest r)) (sym j.3) ∙ grows.small j.0 a j.1 (full.small j.0 a j.1 j.2)

    union : (i a q : ℕ) → i < W.used → InClass k G (row W.sets i) a → has q a ≡ true → has q (row W.unions (root_of W.entries i)) ≡ true
    union i a q l c t = go (source i a l c)
      where
        go : Source i a → has q (row W.unions (root_of W.entries i)) ≡ true
        go (inl n) = counted_union p k G wide all_sized U all.sound f m all.first f_class i q n.1 (ap (has q) (sym n.0) ∙ t)
        go (inr j) = ap (λ (r : ℕ). has q (row W.unions r)) (sym j.3) ∙ grows.union j.0 q j.1 (full.union j.0 a q j.1 j.2 t)

    counted_shown : Shows p k G W
    counted_shown = both_shows p k G W (λ x n. (all_sized x n).0) sound (record { each = each; ends = ends; small = small; union = union })

    is_counted : took_in T m ≡ W
    unfolding took_in
    is_counted = touched_used U f m all.first

pub taken_shown : (p k m : ℕ) (F : List ℕ) (T : Tables) → p ≤ width → 2 ≤ k → size m ≡ k → m ∈ sets_of p → ((x : ℕ) → x ∈ F → (size x ≡ k) × x ∈ sets_of p)
    → Shows p k F T → slots p k (m ∷ F) ≤ room T.entries → Shows p k (m ∷ F) (took_in T m)
taken_shown p k m F T wide two sized fits family old fit =
    rw (is_counted p k m F wide two sized fits family T old fit) (counted_shown p k m F wide two sized fits family T old fit)
