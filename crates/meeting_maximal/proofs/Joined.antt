-- Two k-cliques are joined where a maximal clique of the class of one that holds the first holds the second. Assumes nothing.
use mathlib.Core.Path.{◌≡◌, refl, sym, ap, ◌∙◌, subst}
use mathlib.Core.Bool.{true, false}
use mathlib.Core.List.{List}
use Prim.Native.Nat.{ℕ, ◌≤◌, ◌<◌}
use native.Mathlib.Omega.{arith}
use Rattle.std.specs.Prelude.{Option, Some, None, MatchOption, is_some}
use Rattle.sets.specs.Sets.{size, sub}
use Rattle.sets.specs.Value.{row}
use Rattle.sets.proofs.Tests.{never, not_so}
use Rattle.percolation.specs.Percolate.{overlap, Chain, joined}
use Rattle.percolation.specs.Links.{Link, cliques, maximals}
use Rattle.percolation.proofs.Chains.{first_in, last_in, joined_chain, chain_joined}
use Rattle.percolation.proofs.Maximal.{lies_in, chain_overlap, overlap_chain}
use Rattle.overlaps.specs.Model.{swapped, Grown, grown, class_at}
use Rattle.overlaps.proofs.Moves.{Among, Moved, swap_moved, swap_first, moved_rows, moved_fits, holding_moved}
use Rattle.overlaps.proofs.Growing.{class_joined}
use Rattle.meeting_maximal.specs.Model.{Stands}

-- no row before j holds s
abbrev pub NoneHolds : List ℕ → ℕ → ℕ → Type 0
NoneHolds T s j = (i : ℕ) → i < j → sub s (row T i) ≡ false

-- the first of the first n rows that holds s, if one does
abbrev pub FirstHolds : List ℕ → ℕ → ℕ → Option ℕ → Type 0
FirstHolds T n s r = MatchOption r (NoneHolds T s n) (λ j. (j < n) × NoneHolds T s j × (sub s (row T j) ≡ true))

-- as std says it of a range
pub first_found : (T : List ℕ) (n s : ℕ) (r : Option ℕ) → MatchOption r ((i : ℕ) → 0 ≤ i → i < n → sub s (row T i) ≡ false)
    (λ j. (0 ≤ j) × (j < n) × (sub s (row T j) ≡ true) × ((i : ℕ) → 0 ≤ i → i < j → sub s (row T i) ≡ false))
    → FirstHolds T n s r
first_found T n s None none = λ i l. none i (omega arith) l
first_found T n s (Some j) f = (f.1, λ i l. f.3 i (omega arith) l, f.2)

module _ (L : List Link) (p k n : ℕ) (T : List ℕ) (st : Stands (maximals L p k) n T) (one : 1 ≤ k) (a b : ℕ) (sa : size a ≡ k) (sb : size b ≡ k) where
  abbrev M : List ℕ
  M = maximals L p k

  -- a set that no maximal clique holds is joined to none
  pub apart : NoneHolds T a n → false ≡ joined k (cliques L p k) a b
  apart none = sym (not_so (joined k (cliques L p k) a b) never_joined)
    where
      never_joined : joined k (cliques L p k) a b ≡ true → ⊥
      never_joined e =
          let A = lies_in L p k a (first_in (joined_chain k (cliques L p k) a b e)) in
          let r = st.holds.in_row A.0 A.1 in
          never (sub a A.0) A.2 (ap (sub a) r.3 ∙ none r.0 (omega (arith, r.2)))

  -- row i holds a; the class of it, as the table W has it up to e
  module _ (i : ℕ) (inside : i < n) (held : sub a (row T i) ≡ true) (U W : List ℕ) (e x y : ℕ) (swap : U ≡ swapped T 0 i)
      (class : grown W e x y ≡ class_at k n U 0) where
    moved : Moved 0 n T U
    moved = subst (Moved 0 n T) (sym swap) (swap_moved T 0 i n (omega arith) inside st.long st.fits)

    first : row U 0 ≡ row T i
    first =
        ap (λ (X : List ℕ). row X 0) swap
        ∙ swap_first T 0 i (omega (arith, st.long)) (omega (arith, st.long)) (st.fits 0 (omega arith)) (st.fits i inside)

    -- what a chain joins to row i stands before e
    within : (B : ℕ) → Chain (overlap k) M (row T i) B → Among 0 e W B
    within B c =
        subst (λ (g : Grown). Among 0 g.end g.table B) (sym class)
        ((class_joined k n M U (omega (arith, st.long, moved_rows 0 n T U moved)) (moved_fits 0 n T U moved st.fits) (holding_moved 0 n M T U moved st.holds) 0
        (omega arith) (λ u v h. absurd (omega arith)) B).0 (subst (λ (z : ℕ). Chain (overlap k) M z B) (sym first) c))

    back : (B : ℕ) → Among 0 e W B → Chain (overlap k) M (row T i) B
    back B m =
        subst (λ (z : ℕ). Chain (overlap k) M z B) first
        ((class_joined k n M U (omega (arith, st.long, moved_rows 0 n T U moved)) (moved_fits 0 n T U moved st.fits) (holding_moved 0 n M T U moved st.holds) 0
        (omega arith) (λ u v h. absurd (omega arith)) B).1 (subst (λ (g : Grown). Among 0 g.end g.table B) class m))

    -- whether a row before e holds b
    pub class_tells : (r : Option ℕ) → FirstHolds W e b r → is_some r ≡ joined k (cliques L p k) a b
    class_tells (Some j) h =
        sym (chain_joined k (cliques L p k) a b (overlap_chain L p k one (back (row W j) (j, omega arith, h.0, refl)) a b sa sb held h.2))
    class_tells None none = sym (not_so (joined k (cliques L p k) a b) never_joined)
      where
        never_joined : joined k (cliques L p k) a b ≡ true → ⊥
        never_joined t =
            let c = joined_chain k (cliques L p k) a b t in
            let B = lies_in L p k b (last_in c) in
            let r = within B.0 (chain_overlap L p k c (row T i) B.0 (st.holds.row_in i inside) B.1 held B.2) in
            never (sub b B.0) B.2 (ap (sub b) r.3 ∙ none r.0 (omega (arith, r.2)))
