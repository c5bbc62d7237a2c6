-- How many slots one clique more needs: those of its sub-cliques that no used slot holds. Assumes nothing.
use mathlib.Core.Path.{◌≡◌, refl, sym, ap, ◌∙◌}
use mathlib.Core.Logic.{◌⊎◌, inl, inr}
use mathlib.Core.Bool.{true}
use mathlib.Core.List.Memᴰ
use mathlib.Core.List.{List, ◌∷◌, ◌++◌, map}
use Prim.Native.Nat.{ℕ, ◌+◌, ◌≤◌, ◌<◌}
use native.Mathlib.Omega.{arith}
use lib.Dec.{ltb}
use lib.ListN.{length, length-append, length-map}
use borrow.Author.Tests.{leb-true, le-leb}
use Rattle.sets.specs.Lists.{◌∈◌}
use Rattle.sets.specs.Sets.{has, out, size, sub, members, sets_of}
use Rattle.sets.specs.Value.{width}
use Rattle.sets.proofs.Tests.{never, lt_or_le}
use Rattle.sets.proofs.ListLaws.{Holds, Distinct, keep_at, keep_of, keep_distinct, append_distinct, map_distinct, distinct_same, rising_distinct, number_order}
use Rattle.sets.proofs.Members.{member_in, in_member, members_rising}
use Rattle.sets.proofs.Parts.{out_keeps, out_lacks, one_lacking}
use Rattle.percolation.specs.Links.{slot_sets, slots}
use Rattle.percolation.proofs.Families.{sets_part}
use Rattle.percolation.proofs.SlotCount.{Slot, slot_of, slot_at, slots_distinct}
use Rattle.slots.specs.Tables.{Tables}
use Rattle.slots.specs.Model.{find}
use Rattle.slots.proofs.Finding.{found_holds, found_none}
use Rattle.slots_theory.specs.Shows.{Shows}
use Rattle.slots_theory.proofs.Shown.{Family, part_slot, slot_mono, used_slots}
use Rattle.percolating.specs.Model.{lacks, lacking}

module _ (sets : List ℕ) (used Q : ℕ) where
  pub lacking_of : (q : ℕ) → q ∈ lacking sets used Q → (has q Q ≡ true) × (used ≤ find sets used (out q Q))
  unfolding lacking lacks
  lacking_of q m =
      let h = keep_of (lacks sets used Q) (members width Q) m in
      ((in_member width Q q h.0).1, leb-true used (find sets used (out q Q)) h.1)

  pub lacking_at : (q : ℕ) → q < width → has q Q ≡ true → used ≤ find sets used (out q Q) → q ∈ lacking sets used Q
  unfolding lacking lacks
  lacking_at q l t h = keep_at (lacks sets used Q) (members width Q) (member_in width Q q l t) (le-leb used (find sets used (out q Q)) h)

  pub lacking_distinct : Distinct (lacking sets used Q)
  unfolding lacking
  lacking_distinct = keep_distinct (lacks sets used Q) (members width Q) (rising_distinct ltb number_order (members width Q) (members_rising width Q))

-- the sub-cliques of a set without one part are as many as its parts
out_once : (Q q r : ℕ) → has q Q ≡ true → out q Q ≡ out r Q → q ≡ r
out_once Q q r t e = go (lt_or_le q r) (lt_or_le r q)
  where
    apart : (q ≡ r → ⊥) → q ≡ r
    apart n = never (has q (out q Q)) (ap (has q) e ∙ out_keeps r q Q t n) (out_lacks q Q)

    go : (q < r) ⊎ (r ≤ q) → (r < q) ⊎ (q ≤ r) → q ≡ r
    go (inl l) y = apart (λ e. omega arith)
    go (inr l) (inl m) = apart (λ e. omega arith)
    go (inr l) (inr m) = omega arith

module _ (p k : ℕ) (wide : p ≤ width) (Q : ℕ) (F : List ℕ) (T : Tables) (sized : size Q ≡ k) (fits : Q ∈ sets_of p) (family : Family p k F)
    (h : Shows p k F T) where
  abbrev G : List ℕ
  G = Q ∷ F

  abbrev new : List ℕ
  new = map (λ q. out q Q) (lacking T.sets T.used Q)

  all_sized : Family p k G
  all_sized x n = go (Memᴰ.cases_cons n)
    where
      go : (x ≡ Q) ⊎ x ∈ F → (size x ≡ k) × x ∈ sets_of p
      go (inl e) = rw e (sized, fits)
      go (inr i) = family x i

  -- a new one is no slot of F
  not_old : (s : ℕ) → s ∈ slot_sets p k F → s ∈ new → ⊥
  not_old s m n =
      let f = Memᴰ.of_map (λ q. out q Q) (lacking T.sets T.used Q) n in
      let i = h.each s m in
      found_none T.sets (out f.0 Q) T.used (lacking_of T.sets T.used Q f.0 f.1).1 i.0 i.1 (i.2 ∙ sym f.2)

  both_of : Holds (slot_sets p k G) (slot_sets p k F ++ new)
  both_of s m = go (Memᴰ.append_cases (slot_sets p k F) m)
    where
      go : s ∈ slot_sets p k F ⊎ s ∈ new → s ∈ slot_sets p k G
      go (inl i) = slot_at p k G s (slot_mono p k F G (λ x n. Memᴰ.tail n) s (slot_of p k F s i))
      go (inr i) =
          let f = Memᴰ.of_map (λ q. out q Q) (lacking T.sets T.used Q) i in
          Memᴰ.cast (sym f.2) (slot_at p k G (out f.0 Q)
          (part_slot p k G all_sized Q f.0 (Memᴰ.head refl) (lacking_of T.sets T.used Q f.0 f.1).0))

  both_at : Holds (slot_sets p k F ++ new) (slot_sets p k G)
  both_at s m = go (Memᴰ.cases_cons slot.member)
    where
      slot : Slot p k G s
      slot = slot_of p k G s m

      go : (slot.bearer ≡ Q) ⊎ slot.bearer ∈ F → s ∈ (slot_sets p k F ++ new)
      go (inr i) =
          Memᴰ.append_left new
          (slot_at p k F s (record { fits = slot.fits; sized = slot.sized; bearer = slot.bearer; member = i; within = slot.within }))
      go (inl e) = pick (lt_or_le (find T.sets T.used s) T.used)
        where
          pick : (find T.sets T.used s < T.used) ⊎ (T.used ≤ find T.sets T.used s) → s ∈ (slot_sets p k F ++ new)
          pick (inl l) =
              Memᴰ.append_left new (Memᴰ.cast (sym (found_holds T.sets s T.used l)) (h.held (find T.sets T.used s) l))
          pick (inr l) =
              let o = one_lacking s Q (ap (sub s) (sym e) ∙ slot.within) (slot.sized ∙ sym sized) in
              let q : ℕ = o.0 in
              Memᴰ.append_right (slot_sets p k F)
              (Memᴰ.cast o.3 (Memᴰ.map (λ z. out z Q)
              (lacking_at T.sets T.used Q q (omega (arith, sets_part p Q fits q o.1)) o.1 (rw (← o.3) l))))

  -- one clique more needs as many slots more as it has sub-cliques with none
  pub slots_one : slots p k (Q ∷ F) ≡ T.used + length (lacking T.sets T.used Q)
  unfolding slots
  slots_one =
      let all = distinct_same (slot_sets p k G) (slot_sets p k F ++ new) (slots_distinct p k G)
      (append_distinct (slot_sets p k F) new (slots_distinct p k F)
      (map_distinct (λ q. out q Q) (lacking T.sets T.used Q) (lacking_distinct T.sets T.used Q)
      (λ x y i j e. out_once Q x y (lacking_of T.sets T.used Q x i).0 e))
      not_old) both_at both_of in
      omega (arith, all, length-append (slot_sets p k F) new, length-map (lacking T.sets T.used Q) (λ q. out q Q), used_slots p k F T h)
