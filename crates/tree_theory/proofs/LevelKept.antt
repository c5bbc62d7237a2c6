-- What holds between two levels, that it holds again after the rows of slots that are no ends are emptied, and that the next links keep what the level
-- needs of it. Assumes nothing.
use mathlib.Core.Path.{◌≡◌, sym, ap, ◌∙◌, subst, subst⁻¹}
use mathlib.Core.Logic.{◌⊎◌, inl, inr}
use mathlib.Core.Bool.{Bool, true, false, not}
use mathlib.Core.List.{List, []}
use Prim.Native.Nat.{ℕ, zero, suc, ◌≤◌, ◌<◌, ◌^◌}
use native.Mathlib.Omega.{arith}
use lib.Dec.{eqb}
use lib.ListN.{length, take, drop}
use borrow.Author.Tests.{eqb-true, eqb-false, not-true, not-false}
use Rattle.sets.specs.Value.{width, rows, row, store}
use Rattle.sets.proofs.Tests.{split, same_or_not}
use Rattle.sets.proofs.Tables.{rows_length, row_store, row_other, row_clear}
use Rattle.sets.proofs.RowNumbers.{none_fits}
use Rattle.sets.proofs.ListLaws.{map_on}
use Rattle.percolation.specs.Links.{Link, cliques, slots}
use Rattle.percolation.specs.Steps.{legal}
use Rattle.percolation.specs.Tree.{Start}
use Rattle.checks.specs.Neighbours.{Neighbours}
use Rattle.slots.specs.Tables.{Tables, tables, room, root_of}
use Rattle.slots_theory.specs.Shows.{Shows}
use Rattle.slots.proofs.Lengths.{level_smallest, level_unions, same_room, room_within}
use Rattle.slots_theory.proofs.Free.{Paired, free_shown}
use Rattle.clique_taking.proofs.Inserted.{cliques_family}
use Rattle.listings.proofs.Listed.{roots_of}
use Rattle.runs.specs.Lent.{level, cleared}
use Rattle.runs.specs.Model.{took_links}
use Rattle.runs.proofs.Left.{cleared_shown}
use Rattle.runs.proofs.Ran.{further_shown, links_kept}
use Rattle.runs.proofs.FreeLinks.{further_stays, further_paired, cleared_paired}
use Rattle.tree_theory.specs.Model.{Rooted}
use Rattle.tree_levels.specs.LevelModel.{wiped}
use Rattle.tree_theory.proofs.RootsLevel.{Matches, branch_at}
use Rattle.tree_theory.proofs.ByRoots.{Grown}
use Rattle.tree_levels.proofs.LevelSteps.{swept_yes, swept_no}
use Rattle.tree_theory.proofs.UnionsKept.{Bounded, Grows, grows_further, end_part, has_some}
use Rattle.tree_theory.proofs.SweptRows.{swept_length, swept_rows, swept_bounded, swept_other}
use Rattle.tree_theory.proofs.ClassCounts.{Turned}

-- ---- rows emptied

module _ (es us : List ℕ) where
  abbrev no_end : List ℕ → ℕ → Bool
  no_end xs i = not (eqb (root_of es i) i)

  pub wiped_length : (i : ℕ) → length (wiped es us i) ≡ length us
  wiped_length = swept_length no_end (λ i. i) (λ x. 0) us

  pub wiped_rows : (i : ℕ) → rows (wiped es us i) ≡ rows us
  wiped_rows = swept_rows no_end (λ i. i) (λ x. 0) us

  -- the rows of ends, and those from i on, are as they were
  pub wiped_kept : (i x : ℕ) → (root_of es x ≡ x) ⊎ (i ≤ x) → row (wiped es us i) x ≡ row us x
  wiped_kept i x h = swept_other no_end (λ j. j) (λ y. 0) us i x (λ j l t z. other j l t z h)
    where
      other : (j : ℕ) → j < i → not (eqb (root_of es j) j) ≡ true → x ≡ j → (root_of es x ≡ x) ⊎ (i ≤ x) → ⊥
      other j l t z (inl r) = eqb-false (root_of es j) j (not-true _ t) (subst (λ (y : ℕ). root_of es y ≡ y) z r)
      other j l t z (inr a) = omega (arith, z)

  pub wiped_empty : (i x : ℕ) → x < i → i ≤ rows us → (root_of es x ≡ x → ⊥) → row (wiped es us i) x ≡ 0
  wiped_empty zero x l b n = absurd (omega arith)
  wiped_empty (suc i) x l b n = go (split (no_end us i)) (same_or_not x i) (λ k. wiped_empty i x k (omega arith) n)
    where
      yes : no_end us i ≡ true → row (wiped es us (suc i)) x ≡ row (store (wiped es us i) i 0) x
      yes e = ap (λ (t : List ℕ). row t x) (swept_yes no_end (λ j. j) (λ y. 0) us i e)

      go : (no_end us i ≡ true) ⊎ (no_end us i ≡ false) → (x ≡ i) ⊎ (x ≡ i → ⊥) → (x < i → row (wiped es us i) x ≡ 0) → row (wiped es us (suc i)) x ≡ 0
      go (inr e) (inl z) rest = absurd (n (subst⁻¹ (λ (y : ℕ). root_of es y ≡ y) z (eqb-true (root_of es i) i (not-false _ e))))
      go (inr e) (inr z) rest = ap (λ (t : List ℕ). row t x) (swept_no no_end (λ j. j) (λ y. 0) us i e) ∙ rest (omega (arith, z))
      go (inl e) (inl z) rest = yes e ∙ ap (row (store (wiped es us i) i 0)) z ∙ row_store (wiped es us i) i 0 (omega (arith, wiped_rows i)) none_fits
      go (inl e) (inr z) rest = yes e ∙ row_other (wiped es us i) i x 0 z ∙ rest (omega (arith, z))

-- ---- between two levels

pub record Between (p k : ℕ) (F : List ℕ) (T : Tables) : Type 0 where
  pub shows : Shows p k F T
  pub paired : Paired T
  pub empty : (i : ℕ) → i < T.used → (root_of T.entries i ≡ i → ⊥) → row T.unions i ≡ 0
  pub bounded : Bounded T.unions

-- before the first
pub between_none : (p k : ℕ) (T : Tables) → 2 ≤ k → level T ≡ true → Between p k (cliques [] p k) (cleared T)
unfolding cleared
between_none p k T two lev = record {
  shows = cleared_shown p k T two lev;
  paired = cleared_paired T;
  empty = λ i l e. absurd (omega arith);
  bounded = λ i. subst⁻¹ (λ (x : ℕ). x < 2 ^ width) (row_clear (length T.unions) i) none_fits;
}

-- ---- after the links of a level: only rows of slots that are no ends may change

-- the rows of ends and of slots that are not used, as in U
pub record SameEnds (U : Tables) (ms us : List ℕ) : Type 0 where
  pub long : length ms ≡ length U.smallest
  pub tall : length us ≡ length U.unions
  pub ends : (i : ℕ) → i < U.used → root_of U.entries i ≡ i → (row ms i ≡ row U.smallest i) × (row us i ≡ row U.unions i)
  pub unused : (i : ℕ) → U.used ≤ i → (row ms i ≡ row U.smallest i) × (row us i ≡ row U.unions i)
  pub bounded : Bounded us

-- the tables with these rows, and those of slots that are no ends emptied
abbrev pub emptied : Tables → List ℕ → List ℕ → Tables
emptied U ms us = tables U.sets U.entries ms (wiped U.entries us U.used) U.used

pub between_next : (p k : ℕ) (F : List ℕ) (U : Tables) → Shows p k F U → Paired U → (ms us : List ℕ) → SameEnds U ms us → Between p k F (emptied U ms us)
between_next p k F U h paired ms us s = record {
  shows = free_shown p k F U h ms (wiped es us U.used) s.long (wiped_length es us U.used ∙ s.tall)
      (λ i l e. ((s.ends i l e).0, wiped_kept es us U.used i (inl e) ∙ (s.ends i l e).1))
      (λ i l. ((s.unused i l).0 ∙ (h.others i l).smallest, wiped_kept es us U.used i (inr l) ∙ (s.unused i l).1 ∙ (h.others i l).union));
  paired = paired;
  empty = λ i l e. wiped_empty es us U.used i l (omega (arith, h.fits, room_within es, level_unions U h.level, rows_length us U.unions s.tall)) e;
  bounded = swept_bounded _ (λ i. i) (λ x. 0) us (λ x f. omega arith) U.used s.bounded;
}
  where
    es : List ℕ
    es = U.entries

-- the classes and the lines stand there as in U
pub grown_next : (L : List Link) (p k : ℕ) (U : Tables) (A : List Rooted) (S : List Start) (W : List ℕ) (ms us : List ℕ) → SameEnds U ms us
    → Grown L p k U A S W → Grown L p k (emptied U ms us) A S W
grown_next L p k U A S W ms us s g = record {
  begun = g.begun;
  branches = g.branches;
  rest = g.rest;
  same = g.same;
  matches = record {
    number = m.number;
    ranked = m.ranked;
    classes = m.classes;
    branches = m.branches
        ∙ map_on (λ r. branch_at (row U.smallest r) (m.number r)) (λ r. branch_at (row ms r) (m.number r)) m.ranked
        (λ r i.
        let o = roots_of U.entries U.used (m.back r i) in
        ap (λ (x : ℕ). branch_at x (m.number r)) (sym (s.ends r o.0 o.1).0));
    once = m.once;
    there = m.there;
    back = m.back;
  };
  within = g.within;
  past = g.past;
  falling = g.falling;
  standing = g.standing;
}
  where
    m : Matches U A g.branches
    m = g.matches

-- ---- the links of the next level

module _ (p : ℕ) (L : List Link) (i j : ℕ) (wide : p ≤ width) (ok : legal p L ≡ true) (le : i ≤ j) (R : List ℕ) (near : Neighbours (take i L) R)
    (k : ℕ) (T : Tables) (two : 2 ≤ k) (b : Between p k (cliques (take i L) p k) T) (fit : slots p k (cliques (take j L) p k) ≤ room T.entries) where
  abbrev U : Tables
  U = took_links k R T (drop i (take j L))

  pub next_shows : Shows p k (cliques (take j L) p k) (took_links k R T (drop i (take j L)))
  next_shows = further_shown p L i j wide ok le R near k T two b.shows fit

  grows : Grows T U
  grows = grows_further p L i j wide ok le R near k T two

  pub next_turned : Turned T (took_links k R T (drop i (take j L)))
  next_turned = record {
    stays = further_stays p L i j wide ok le R near k T two b.shows fit;
    paired = b.paired;
    still = further_paired p L i j wide ok le R near k T two b.shows fit b.paired;
    fits = next_shows.fits;
    smallest = level_smallest U next_shows.level;
    unions = level_unions U next_shows.level;
    empty = b.empty;
    full = λ x l e z.
        let q = end_part p k (cliques (take i L) p k) T (cliques_family (take i L) p k) (omega (arith, two)) b.shows x l e in
        has_some q.0 (row U.unions x) (grows.parts b.bounded x q.0 l q.1) z;
  }

  pub next_bounded : Bounded (took_links k R T (drop i (take j L))).unions
  next_bounded = grows.bounded b.bounded

  pub next_room : room (took_links k R T (drop i (take j L))).entries ≡ room T.entries
  next_room = same_room T.entries U.entries (links_kept k R T (drop i (take j L))).entries
