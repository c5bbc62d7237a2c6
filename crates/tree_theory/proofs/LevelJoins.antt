-- Where lines go after one level more: into a line that starts now and joins them, else where they went. Assumes nothing.
use mathlib.Core.Path.{◌≡◌, refl, sym, ap, ◌∙◌, subst⁻¹}
use mathlib.Core.Logic.{◌⊎◌, inl, inr}
use mathlib.Core.Bool.{true}
use mathlib.Core.List.Memᴰ
use mathlib.Core.List.{List, ◌∷◌, ◌++◌, map, append_assoc}
use Prim.Native.Nat.{ℕ, suc, ◌+◌, ◌<◌}
use native.Mathlib.Omega.{arith}
use lib.Dec.{eqb}
use lib.ListN.{length, get_or, take, drop, length-append, length-map}
use lib.Seq.{split_at, length-take-le}
use borrow.Author.Tests.{eq-eqb, eqb-true}
use Rattle.sets.specs.Lists.{◌∈◌}
use Rattle.sets.proofs.Tests.{same_or_not}
use Rattle.sets.proofs.ListLaws.{keep_at, keep_of, elem_at, map_append, member_split}
use Rattle.percolation.specs.Links.{Link}
use Rattle.percolation.specs.Tree.{Start, goes_into}
use Rattle.slots.specs.Tables.{Tables, root_of}
use Rattle.tree_theory.specs.Model.{Rooted, Begun, ending_at, starts_line, begun_at, begun_lines, rooted_now, starts_now}
use Rattle.percolation.proofs.Growth.{goes_here, no_start}
use Rattle.tree_theory.proofs.RootsLines.{goes_none, goes_kept, goes_later}
use Rattle.tree_theory.proofs.RootsNumbers.{begun_of}
use Rattle.tree_theory.proofs.ByRoots.{Grown, grown_joins, grown_early}
use Rattle.tree_theory.proofs.BegunSlots.{slots_in, begun_start}

module _ (w : ℕ) (U : Tables) (A : List Rooted) (S : List Start) where
  abbrev B : List Begun
  B = begun_lines w U A

  abbrev X : List Start
  X = map (λ b. b.start) (begun_lines w U A)

  -- x of the level before ends at slot j of those where lines start: line j joins it
  joined_by_lem : (j : ℕ) (d : Begun) → j < length B → (x : Rooted) → x ∈ A → root_of U.entries x.slot ≡ get_or (slots_in B) j 0
      → x.number ∈ (get_or B j d).start.joins
  unfolding begun_at ending_at
  joined_by_lem j d l x m e =
      subst⁻¹ (λ (b : Begun). x.number ∈ b.start.joins) (begun_start w U A j d l)
      (Memᴰ.map (λ (y : Rooted). y.number)
      (keep_at (λ (y : Rooted). eqb (root_of U.entries y.slot) (get_or (slots_in B) j 0)) A m (eq-eqb (root_of U.entries x.slot) (get_or (slots_in B) j 0) e)))

  -- what a line joins, ends at its slot
  joins_of : (y : Start) → y ∈ X → (i : ℕ) → i ∈ y.joins
      → (x : Rooted) × x ∈ A × (x.number ≡ i) × (starts_line U.entries A (root_of U.entries x.slot) ≡ true)
  unfolding begun_at ending_at
  joins_of y m i j =
      let q = Memᴰ.of_map (λ (b : Begun). b.start) B m in
      let b = begun_of w U A q.0 q.1 in
      let r = b.0 in
      let k = subst⁻¹ (λ (c : Begun). i ∈ c.start.joins) b.3 (subst⁻¹ (λ (z : Start). i ∈ z.joins) q.2 j) in
      let p = Memᴰ.of_map (λ (x : Rooted). x.number) (ending_at U.entries A r) k in
      let o = keep_of (λ (x : Rooted). eqb (root_of U.entries x.slot) r) A p.1 in
      (p.0, o.0, p.2, subst⁻¹ (λ (z : ℕ). starts_line U.entries A z ≡ true) (eqb-true (root_of U.entries p.0.slot) r o.1) b.2)

  -- a line that no new one joins goes where it went
  pub goes_on : (m : ℕ) → ((x : Rooted) → x ∈ A → x.number ≡ m → starts_line U.entries A (root_of U.entries x.slot) ≡ true → ⊥)
      → goes_into m 1 (starts_now w U A S) ≡ goes_into m 1 S
  goes_on m h = go (same_or_not (goes_into m 1 S) 0)
    where
      none : goes_into m (1 + length S) X ≡ 0
      none = goes_none m (1 + length S) X (λ y i j. let q = joins_of y i m j in h q.0 q.1 q.2 q.3)

      go : (goes_into m 1 S ≡ 0) ⊎ (goes_into m 1 S ≡ 0 → ⊥) → goes_into m 1 (S ++ X) ≡ goes_into m 1 S
      go (inl e) = goes_later m 1 (1 + length S) S X (omega arith) refl e ∙ none ∙ sym e
      go (inr e) = goes_kept m 1 S X e

  module _ (L : List Link) (p k : ℕ) (W : List ℕ) (g : Grown L p k U (rooted_now w (length S) U A) (starts_now w U A S) W) where
    -- one that a new line joins goes into that
    pub goes_new : (j : ℕ) → j < length (slots_in (begun_lines w U A)) → (x : Rooted) → x ∈ A
        → root_of U.entries x.slot ≡ get_or (slots_in (begun_lines w U A)) j 0
        → goes_into x.number 1 (starts_now w U A S) ≡ suc (length S + j)
    goes_new j l x m e =
        let d : Begun = record { slot = 0; start = no_start } in
        let lb : j < length B = omega (arith, length-map B (λ b. b.slot)) in
        let b = get_or B j d in
        let X1 = map (λ (c : Begun). c.start) (take j B) in
        let X2 = map (λ (c : Begun). c.start) (drop (suc j) B) in
        let cut : S ++ X ≡ (S ++ X1) ++ (b.start ∷ X2) =
        ap (λ (C : List Begun). S ++ map (λ (c : Begun). c.start) C) (split_at B j d lb)
        ∙ ap (λ (Y : List Start). S ++ Y) (map_append (λ (c : Begun). c.start) (take j B) (b ∷ drop (suc j) B))
        ∙ sym (append_assoc S X1 (b.start ∷ X2)) in
        let i = joined_by_lem j d lb x m e in
        let free = (grown_joins L p k U (rooted_now w (length S) U A) (S ++ X) W g (S ++ X1) X2 b.start cut x.number i).2 in
        let long : suc (length S + j) ≡ 1 + length (S ++ X1) =
        omega (arith, length-append S X1, length-map (take j B) (λ (c : Begun). c.start), length-take-le j B (omega (arith, lb))) in
        ap (goes_into x.number 1) cut ∙ goes_later x.number 1 (suc (length S + j)) (S ++ X1) (b.start ∷ X2) (omega arith) long free
        ∙ goes_here x.number (suc (length S + j)) b.start X2 (elem_at b.start.joins i)

    -- the new ones go into none
    pub goes_none_new : (T : Tables) (Z : List ℕ) → Grown L p k T A S Z → (m : ℕ) → length S < m → goes_into m 1 (starts_now w U A S) ≡ 0
    goes_none_new T Z old m l = goes_none m 1 (S ++ X) (λ y i j. go y (Memᴰ.append_cases S i) j)
      where
        go : (y : Start) → y ∈ S ⊎ y ∈ X → m ∈ y.joins → ⊥
        go y (inl i) j =
            let q = member_split y S i in
            let h = grown_joins L p k T A S Z old q.0 q.1 y q.2 m j in
            omega (arith, h.1, ap length q.2, length-append q.0 (y ∷ q.1))
        go y (inr i) j =
            let q = Memᴰ.of_map (λ (b : Begun). b.start) B i in
            let h = grown_early L p k T A S Z old w U q.0 q.1 m (subst⁻¹ (λ (z : Start). m ∈ z.joins) q.2 j) in
            omega (arith, h.1)
