-- The union of a used slot keeps its parts, whatever links are taken in: so the row of a slot that was an end is never empty again. Assumes nothing.
use mathlib.Core.Path.{◌≡◌, refl, sym, ap, subst⁻¹, ◌∙◌}
use mathlib.Core.Logic.{◌⊎◌, inl, inr}
use mathlib.Core.Bool.{true}
use mathlib.Core.List.Memᴰ
use mathlib.Core.List.{List, [], ◌∷◌, ◌++◌}
use Prim.Native.Nat.{ℕ, ◌≤◌, ◌<◌, ◌^◌}
use native.Mathlib.Omega.{arith}
use lib.ListN.{take, drop}
use Rattle.sets.specs.Lists.{◌∈◌}
use Rattle.sets.specs.Sets.{has, union, out, lowest, members, size}
use Rattle.sets.specs.Value.{width, rows, row, store}
use Rattle.sets.proofs.Tests.{never, lt_or_le, same_or_not}
use Rattle.sets.proofs.Tables.{rows_store, row_store, row_other, row_past}
use Rattle.sets.proofs.RowNumbers.{none_fits}
use Rattle.sets.proofs.Laws.{has_empty, union_lt, size_empty}
use Rattle.sets.proofs.Parts.{union_l}
use Rattle.sets.proofs.Members.{lowest_has}
use Rattle.percolation.specs.Percolate.{alone}
use Rattle.percolation.specs.Links.{Link}
use Rattle.percolation.specs.Steps.{legal}
use Rattle.percolation.proofs.Accepted.{check_new, legal_init}
use Rattle.percolation.proofs.Communities.{communities_of, at_has}
use Rattle.checks.specs.Model.{marked}
use Rattle.checks.specs.Neighbours.{Neighbours}
use Rattle.slots.specs.Tables.{Tables, root_of}
use Rattle.slots.specs.Model.{find, low_root, high_root, merged, joined, placed, joined_used, took_part, took_parts, touched, took_in}
use Rattle.slots_theory.specs.Shows.{Shows, shown_at}
use Rattle.slots.proofs.Cases.{appended, placed_cases, joined_cases, touched_cases}
use Rattle.slots_theory.proofs.Shown.{Family, set_fits}
use Rattle.slots_theory.proofs.Communal.{end_shown}
use Rattle.search.specs.Model.{new_cliques}
use Rattle.clique_taking.specs.Model.{took_all}
use Rattle.clique_taking.proofs.Inserted.{new_sets}
use Rattle.runs.specs.Model.{took_links}
use Rattle.runs.proofs.Ran.{legal_front, legal_past, legal_with, ends_fit, near_one, further_legal}

-- each row is a set that the code can hold
abbrev pub Bounded : List ℕ → Type 0
Bounded xs = (i : ℕ) → row xs i < 2 ^ width

pub bounded_store : (xs : List ℕ) (i v : ℕ) → Bounded xs → v < 2 ^ width → Bounded (store xs i v)
bounded_store xs i v b h j = go (same_or_not j i) (lt_or_le i (rows xs))
  where
    go : (j ≡ i) ⊎ (j ≡ i → ⊥) → (i < rows xs) ⊎ (rows xs ≤ i) → row (store xs i v) j < 2 ^ width
    go (inr n) r = subst⁻¹ (λ (x : ℕ). x < 2 ^ width) (row_other xs i j v n) (b j)
    go (inl e) (inl l) = subst⁻¹ (λ (x : ℕ). x < 2 ^ width) (ap (row (store xs i v)) e ∙ row_store xs i v l h) h
    go (inl e) (inr l) =
        subst⁻¹ (λ (x : ℕ). x < 2 ^ width) (row_past (store xs i v) j (omega (arith, rows_store xs i v, e))) none_fits

-- a part of row j is one after a write at i, if the new row has it too
parts_store : (xs : List ℕ) (i v j q : ℕ) → v < 2 ^ width → (has q (row xs i) ≡ true → has q v ≡ true) → has q (row xs j) ≡ true
    → has q (row (store xs i v) j) ≡ true
parts_store xs i v j q h g t = go (same_or_not j i) (lt_or_le i (rows xs))
  where
    go : (j ≡ i) ⊎ (j ≡ i → ⊥) → (i < rows xs) ⊎ (rows xs ≤ i) → has q (row (store xs i v) j) ≡ true
    go (inr n) r = ap (has q) (row_other xs i j v n) ∙ t
    go (inl e) (inl l) = ap (has q) (ap (row (store xs i v)) e ∙ row_store xs i v l h) ∙ g (sym (ap (λ (x : ℕ). has q (row xs x)) e) ∙ t)
    go (inl e) (inr l) = never (has q (row xs j)) t (ap (has q) (row_past xs j (omega (arith, e))) ∙ has_empty q)

-- ---- each step

pub record Grows (T U : Tables) : Type 0 where
  pub more : T.used ≤ U.used
  pub bounded : Bounded T.unions → Bounded U.unions
  pub parts : Bounded T.unions → (i q : ℕ) → i < T.used → has q (row T.unions i) ≡ true → has q (row U.unions i) ≡ true

grows_none : (T : Tables) → Grows T T
grows_none T = record { more = omega arith; bounded = λ b. b; parts = λ b i q l t. t }

grows_both : (T U W : Tables) → Grows T U → Grows U W → Grows T W
grows_both T U W a b = record {
  more = omega (arith, a.more, b.more);
  bounded = λ h. b.bounded (a.bounded h);
  parts = λ h i q l t. b.parts (a.bounded h) i q (omega (arith, a.more)) (a.parts h i q l t);
}

module _ (Q : ℕ) (fits : Q < 2 ^ width) where
  grows_placed : (T : Tables) (s : ℕ) → Grows T (placed T s Q)
  grows_placed T s = placed_cases T s Q (Grows T) (grows_none T) (λ l. new)
    where
      new : Grows T (appended T s Q)
      new = record {
        more = omega arith;
        bounded = λ b. bounded_store T.unions T.used Q b fits;
        parts = λ b i q l t. ap (has q) (row_other T.unions T.used i Q (λ e. omega (arith, e))) ∙ t;
      }

  grows_joined : (T : Tables) (f i : ℕ) → Grows T (joined_used T f i)
  unfolding joined merged
  grows_joined T f i = joined_cases T f i (Grows T) (grows_none T) record {
    more = omega arith;
    bounded = λ b. bounded_store us lo v b (fit b);
    parts = λ b j q l t. parts_store us lo v j q (fit b) (λ h. union_l q (row us lo) (row us hi) h) t;
  }
    where
      us : List ℕ
      us = T.unions

      lo : ℕ
      lo = low_root T.entries f i

      hi : ℕ
      hi = high_root T.entries f i

      v : ℕ
      v = union (row us lo) (row us hi)

      fit : Bounded us → v < 2 ^ width
      fit b = union_lt width (row us lo) (row us hi) (b lo) (b hi)

  grows_touched : (T : Tables) (f : ℕ) → Grows T (touched T f Q)
  grows_touched T f = touched_cases T f Q (Grows T) (grows_none T) record {
    more = omega arith;
    bounded = λ b. bounded_store us r v b (fit b);
    parts = λ b j q l t. parts_store us r v j q (fit b) (λ h. union_l q (row us r) Q h) t;
  }
    where
      us : List ℕ
      us = T.unions

      r : ℕ
      r = root_of T.entries f

      v : ℕ
      v = union (row us r) Q

      fit : Bounded us → v < 2 ^ width
      fit b = union_lt width (row us r) Q (b r) fits

  grows_part : (f q : ℕ) (T : Tables) → Grows T (took_part f Q q T)
  unfolding took_part
  grows_part f q T =
      let P = placed T (out q Q) Q in
      grows_both T P (took_part f Q q T) (grows_placed T (out q Q)) (grows_joined P f (find T.sets T.used (out q Q)))

  grows_parts : (f : ℕ) (qs : List ℕ) (T : Tables) → Grows T (took_parts f Q qs T)
  unfolding took_parts
  grows_parts f [] T = grows_none T
  grows_parts f (q ∷ qs) T = grows_both T (took_part f Q q T) (took_parts f Q (q ∷ qs) T) (grows_part f q T) (grows_parts f qs (took_part f Q q T))

  grows_in : (T : Tables) → Grows T (took_in T Q)
  unfolding took_in
  grows_in T =
      let f = find T.sets T.used (out (lowest Q) Q) in
      let U = took_parts f Q (members width Q) T in
      grows_both T U (took_in T Q) (grows_parts f (members width Q) T) (grows_touched U f)

-- ---- cliques, and links

grows_all : (T : Tables) (F : List ℕ) → ((Q : ℕ) → Q ∈ F → Q < 2 ^ width) → Grows T (took_all T F)
unfolding took_all
grows_all T [] h = grows_none T
grows_all T (Q ∷ F) h =
    grows_both T (took_in T Q) (took_all (took_in T Q) F) (grows_in Q (h Q (Memᴰ.head refl)) T) (grows_all (took_in T Q) F (λ x m. h x (Memᴰ.tail m)))

pub grows_links : (p k : ℕ) (L M : List Link) (R : List ℕ) (T : Tables) → p ≤ width → 2 ≤ k → legal p (L ++ M) ≡ true → Neighbours L R
    → Grows T (took_links k R T M)
unfolding took_links
grows_links p k L [] R T wide two ok n = grows_none T
grows_links p k L (l ∷ M) R T wide two ok n =
    let e = ends_fit p L M l ok in
    let N = new_cliques R k l.low l.high in
    let U = took_all T N in
    let sized : Family p k N = new_sets p L R (legal_front p L (l ∷ M) ok) wide n l k two (check_new p L l 0 (legal_init p L l 0 (legal_with p L M l ok)).1)
    e.0 e.1 in
    grows_both T U (took_links k R T (l ∷ M)) (grows_all T N (λ Q m. set_fits p Q wide (sized Q m).1))
    (grows_links p k (L ++ (l ∷ [])) M (marked R l.low l.high) U wide two (legal_past p L M l ok) (near_one p L M l ok R wide n))

pub grows_further : (p : ℕ) (L : List Link) (i j : ℕ) → p ≤ width → legal p L ≡ true → i ≤ j → (R : List ℕ) → Neighbours (take i L) R → (k : ℕ) (T : Tables)
    → 2 ≤ k
    → Grows T (took_links k R T (drop i (take j L)))
grows_further p L i j wide ok le R n k T two = grows_links p k (take i L) (drop i (take j L)) R T wide two (further_legal p L i j wide ok le R n) n

-- ---- what stands at an end is not empty

pub end_part : (p k : ℕ) (F : List ℕ) (T : Tables) → Family p k F → 1 ≤ k → Shows p k F T → (i : ℕ) → i < T.used → root_of T.entries i ≡ i
    → (q : ℕ) × (has q (row T.unions i) ≡ true)
unfolding shown_at
end_part p k F T family some h i l e =
    let s = communities_of k F (shown_at T i) (end_shown p k F T h i l) in
    let m = (shown_at T i).small in
    let full : m ≡ 0 → ⊥ = λ z. omega (arith, (family m s.member).0, ap size z, size_empty) in
    let q = lowest m in (
      q,
      sym (ap (λ (r : ℕ). has q (row T.unions r)) e) ∙ ap (has q) s.union ∙ at_has k F m q m (alone s.member) (lowest_has m full),
    )

pub has_some : (q x : ℕ) → has q x ≡ true → x ≡ 0 → ⊥
has_some q x t e = never (has q x) t (ap (has q) e ∙ has_empty q)
