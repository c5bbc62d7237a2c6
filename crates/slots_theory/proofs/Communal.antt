-- What tables that show F say of its communities: each slot that is its own end shows one, each community stands at just one such slot, and two slots
-- end at one exactly where their cliques are joined. Assumes nothing.
use mathlib.Core.Path.{◌≡◌, sym, ap, ◌∙◌, subst, subst⁻¹}
use mathlib.Core.Logic.{◌⊎◌, inl, inr, ◌↔◌}
use mathlib.Core.Bool.{true}
use mathlib.Core.List.{List}
use Prim.Native.Nat.{ℕ, ◌≤◌, ◌<◌}
use native.Mathlib.Omega.{arith}
use lib.ListN.{length}
use Rattle.sets.specs.Lists.{◌∈◌}
use Rattle.sets.specs.Sets.{has, out, size, sub, lowest}
use Rattle.sets.specs.Value.{row}
use Rattle.sets.proofs.Tests.{lt_or_le}
use Rattle.sets.proofs.Laws.{out_sub, size_empty}
use Rattle.sets.proofs.Members.{lowest_has}
use Rattle.percolation.specs.Percolate.{Community, joined, communities}
use Rattle.percolation.proofs.Chains.{joined_chain, chain_joined}
use Rattle.percolation.proofs.Communities.{communities_of, home_only}
use Rattle.joining.specs.Entries.{Ends, root_of}
use Rattle.slots.specs.Tables.{Tables}
use Rattle.slots.specs.Model.{find}
use Rattle.slots_theory.specs.Shows.{shown_at, Shows}
use Rattle.joining.proofs.Follow.{root_le, root_twice, root_reached, reached_root}
use Rattle.slots.proofs.Finding.{found_holds, found_none}
use Rattle.slots.proofs.Lengths.{room_within}
use Rattle.slots_theory.proofs.Bearing.{InClass, class_own, class_slots, class_chain, class_over}
use Rattle.slots_theory.proofs.Shown.{Family, shows_steady, shows_slot, stands_chain, shows_sound, shows_complete, part_slot}

-- ---- ends

-- the end of a slot is the lowest slot of its class
pub root_lowest : (es : List ℕ) (i j : ℕ) → root_of es j ≡ root_of es i → root_of es i ≤ j
root_lowest es i j e = omega (arith, root_le es j)

module _ (p k : ℕ) (F : List ℕ) (T : Tables) (h : Shows p k F T) where
  pub root_used : (i : ℕ) → i < T.used → root_of T.entries i < T.used
  root_used i l = omega (arith, root_le T.entries i)

  -- following entries from a used slot ends at one whose entry is its own number, and that is its root
  pub entries_end : (i r : ℕ) → i < T.used → Ends T.entries i r ↔ (r ≡ root_of T.entries i)
  entries_end i r l =
      let st = shows_steady p k F T h in
      let w : i < length T.entries = omega (arith, h.fits, room_within T.entries) in (
        (λ d. reached_root T.entries st w d),
        (λ e. subst⁻¹ (Ends T.entries i) e (root_reached T.entries st i w)),
      )

  -- ---- communities

  -- the end of a used slot shows a community
  pub end_shown : (i : ℕ) → i < T.used → shown_at T i ∈ communities k F
  end_shown i l = let s = shows_slot p k F T h i l in (h.stands i s.bearer l s.member s.within).0

  -- what a slot shows, its end shows
  shown_end : (i : ℕ) → shown_at T (root_of T.entries i) ≡ shown_at T i
  unfolding shown_at
  shown_end i = rw (root_twice T.entries i)

  -- slots that show one smallest clique end at one
  small_root : (i j : ℕ) → i < T.used → j < T.used → (shown_at T i).small ≡ (shown_at T j).small → root_of T.entries i ≡ root_of T.entries j
  unfolding shown_at
  small_root i j li lj e =
      let g = shows_sound p k F T h in
      (shows_complete p k F T h).ends i j li lj
      (class_slots k F (row T.sets i) (row T.sets j) (shown_at T i).small (g.small i li) (subst (InClass k F (row T.sets j)) (sym e) (g.small j lj)))

  -- no community stands at two ends
  pub root_once : (i j : ℕ) → i < T.used → j < T.used → root_of T.entries i ≡ i → root_of T.entries j ≡ j → (shown_at T i).small ≡ (shown_at T j).small → i ≡ j
  root_once i j li lj ri rj e = sym ri ∙ small_root i j li lj e ∙ rj

  module _ (sizes : (x : ℕ) → x ∈ F → size x ≡ k) where
    -- a member of F in which the set of a slot lies
    pub slot_joined : (a b i j : ℕ) → a ∈ F → b ∈ F → i < T.used → j < T.used → sub (row T.sets i) a ≡ true → sub (row T.sets j) b ≡ true
        → (root_of T.entries i ≡ root_of T.entries j) ↔ (joined k F a b ≡ true)
    slot_joined a b i j ma mb li lj sa sb = (to, fro)
      where
        s : ℕ
        s = row T.sets i

        t : ℕ
        t = row T.sets j

        to : root_of T.entries i ≡ root_of T.entries j → joined k F a b ≡ true
        to e =
            let c = class_over k F sizes s t b (shows_slot p k F T h j lj).sized ((shows_sound p k F T h).ends i j li lj e) (class_own k F t b mb sb) in
            chain_joined k F a b (class_chain k F sizes s a b (shows_slot p k F T h i li).sized (class_own k F s a ma sa) c)

        fro : joined k F a b ≡ true → root_of T.entries i ≡ root_of T.entries j
        fro e = (shows_complete p k F T h).ends i j li lj (record { a = a; b = b; in_a = sa; in_b = sb; chain = joined_chain k F a b e })

  module _ (some : 1 ≤ k) (family : Family p k F) where
    -- each member of F has a used slot: of its parts less any one
    pub less_slot : (a : ℕ) → a ∈ F → (q : ℕ) → has q a ≡ true → (i : ℕ) × (i < T.used) × (row T.sets i ≡ out q a)
    less_slot a m q t = (shows_complete p k F T h).each (out q a) (part_slot p k F family a q m t)

    lowest_slot : (a : ℕ) → a ∈ F → (i : ℕ) × (i < T.used) × (row T.sets i ≡ out (lowest a) a)
    lowest_slot a m = less_slot a m (lowest a) (lowest_has a (λ e. omega (arith, ap size e, size_empty, (family a m).0)))

    pub member_slot : (a : ℕ) → a ∈ F → (i : ℕ) × (i < T.used) × (sub (row T.sets i) a ≡ true)
    member_slot a m = let r = lowest_slot a m in (r.0, r.1, ap (λ (z : ℕ). sub z a) r.2 ∙ out_sub (lowest a) a)

    -- and looking for it without its lowest part finds one
    pub member_found : (a : ℕ) → a ∈ F → (i : ℕ) → i ≡ find T.sets T.used (out (lowest a) a) → (i < T.used) × (sub (row T.sets i) a ≡ true)
    member_found a m i e = go (lt_or_le i T.used)
      where
        c : ℕ
        c = out (lowest a) a

        there : (z : ℕ) × (z < T.used) × (row T.sets z ≡ out (lowest a) a)
        there = lowest_slot a m

        go : (i < T.used) ⊎ (T.used ≤ i) → (i < T.used) × (sub (row T.sets i) a ≡ true)
        go (inl l) =
            (l, ap (λ (z : ℕ). sub z a) (ap (row T.sets) e ∙ found_holds T.sets c T.used (omega (arith, e, l))) ∙ out_sub (lowest a) a)
        go (inr l) = absurd (found_none T.sets c T.used (omega (arith, e, l)) there.0 there.1 there.2)

    -- each community stands at an end
    pub community_shown : (c : Community) → c ∈ communities k F → (i : ℕ) × (i < T.used) × (root_of T.entries i ≡ i) × (shown_at T i ≡ c)
    community_shown c m =
        let s = c.small in
        let g = communities_of k F c m in
        let r = member_slot s g.member in
        let i : ℕ = r.0 in (
          root_of T.entries i,
          root_used i r.1,
          root_twice T.entries i,
          shown_end i ∙ home_only k F (shown_at T i) c (end_shown i r.1) m (stands_chain p k F T h i s r.1 g.member r.2),
        )
