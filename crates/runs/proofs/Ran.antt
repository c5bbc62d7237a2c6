-- Links taken in one after the other: the rows of neighbours hold them, and the tables show their k-cliques. Assumes nothing.
use mathlib.Core.Path.{◌≡◌, sym, ap, ◌∙◌, subst, subst⁻¹}
use mathlib.Core.Bool.{true}
use mathlib.Core.List.Memᴰ
use mathlib.Core.List.{List, [], ◌∷◌, ◌++◌, append-nil}
use Prim.Native.Nat.{ℕ, ◌≤◌, ◌<◌}
use native.Mathlib.Omega.{arith}
use lib.ListN.{take, drop, take-append-drop}
use lib.Seq.{append_snoc, take-take}
use Rattle.sets.specs.Value.{width, no_rows}
use Rattle.percolation.specs.Links.{Link, cliques, slots}
use Rattle.percolation.specs.Steps.{legal}
use Rattle.percolation.proofs.Families.{linked_mono, cliques_mono}
use Rattle.percolation.proofs.Accepted.{good_parts_lem, check_parts_lem, check_new, legal_init}
use Rattle.checks.specs.Model.{marked}
use Rattle.checks.specs.Neighbours.{Neighbours}
use Rattle.checks.proofs.Near.{near_none, near_more}
use Rattle.slots.specs.Tables.{Tables, room}
use Rattle.slots_theory.specs.Shows.{Shows}
use Rattle.slots.proofs.Lengths.{Kept, kept_none, kept_both, same_room}
use Rattle.search.specs.Model.{new_cliques}
use Rattle.clique_taking.specs.Model.{took_all}
use Rattle.clique_taking.proofs.AllTaken.{all_kept, slots_mono}
use Rattle.clique_taking.proofs.Inserted.{insert_shown}
use Rattle.runs.specs.Lent.{level, cleared}
use Rattle.runs.specs.Model.{rows_with, took_links}
use Rattle.runs.proofs.Left.{cleared_room, cleared_shown}

-- ---- the first links of a legal list

pub legal_front : (p : ℕ) (L M : List Link) → legal p (L ++ M) ≡ true → legal p L ≡ true
legal_front p L [] ok = ap (legal p) (sym (append-nil L)) ∙ ok
legal_front p L (l ∷ M) ok = (legal_init p L l 0 (legal_front p (L ++ (l ∷ [])) M (ap (legal p) (append_snoc L l M) ∙ ok))).0

-- the slots that the first links need are no more than those that all need
pub slots_front : (p k : ℕ) (L M : List Link) → slots p k (cliques L p k) ≤ slots p k (cliques (L ++ M) p k)
slots_front p k L M =
    slots_mono p k (cliques L p k) (cliques (L ++ M) p k)
    (cliques_mono L (L ++ M) p p k (linked_mono L (L ++ M) (λ x m. Memᴰ.append_left M m)) (omega arith))

-- what a link of a legal list has, where L stands before it
module _ (p : ℕ) (L M : List Link) (l : Link) (ok : legal p (L ++ (l ∷ M)) ≡ true) where
  -- the same list, with l among the links before
  pub legal_past : legal p ((L ++ (l ∷ [])) ++ M) ≡ true
  legal_past = ap (legal p) (append_snoc L l M) ∙ ok

  pub legal_with : legal p (L ++ (l ∷ [])) ≡ true
  legal_with = legal_front p (L ++ (l ∷ [])) M legal_past

  pub ends_fit : (l.low < l.high) × (l.high < p)
  ends_fit = good_parts_lem p l (check_parts_lem p L l 0 (legal_init p L l 0 legal_with).1)

  pub near_one : (R : List ℕ) → p ≤ width → Neighbours L R → Neighbours (L ++ (l ∷ [])) (marked R l.low l.high)
  near_one R wide n = near_more L R l n (omega (arith, ends_fit)) (omega (arith, ends_fit))

  pub shown_one : (k : ℕ) (R : List ℕ) (T : Tables) → p ≤ width → 2 ≤ k → Neighbours L R → Shows p k (cliques L p k) T
      → slots p k (cliques (L ++ (l ∷ [])) p k) ≤ room T.entries
      → Shows p k (cliques (L ++ (l ∷ [])) p k) (took_all T (new_cliques R k l.low l.high))
  shown_one k R T wide two n h fit =
      insert_shown p L R (legal_front p L (l ∷ M) ok) wide n l k two (check_new p L l 0 (legal_init p L l 0 legal_with).1) ends_fit.0 ends_fit.1 T h fit

-- ---- rows of neighbours

pub rows_near : (p : ℕ) (L M : List Link) (R : List ℕ) → p ≤ width → legal p (L ++ M) ≡ true → Neighbours L R → Neighbours (L ++ M) (rows_with R M)
unfolding rows_with
rows_near p L [] R wide ok n = subst⁻¹ (λ (N : List Link). Neighbours N R) (append-nil L) n
rows_near p L (l ∷ M) R wide ok n =
    subst (λ (N : List Link). Neighbours N (rows_with (marked R l.low l.high) M)) (append_snoc L l M)
    (rows_near p (L ++ (l ∷ [])) M (marked R l.low l.high) wide (legal_past p L M l ok) (near_one p L M l ok R wide n))

-- ---- tables

pub links_kept : (k : ℕ) (R : List ℕ) (T : Tables) (M : List Link) → Kept T (took_links k R T M)
unfolding took_links
links_kept k R T [] = kept_none T
links_kept k R T (l ∷ M) =
    let U = took_all T (new_cliques R k l.low l.high) in
    kept_both T U (took_links k R T (l ∷ M)) (all_kept T (new_cliques R k l.low l.high)) (links_kept k (marked R l.low l.high) U M)

pub links_shown : (p k : ℕ) (L M : List Link) (R : List ℕ) (T : Tables) → p ≤ width → 2 ≤ k → legal p (L ++ M) ≡ true → Neighbours L R
    → Shows p k (cliques L p k) T → slots p k (cliques (L ++ M) p k) ≤ room T.entries → Shows p k (cliques (L ++ M) p k) (took_links k R T M)
unfolding took_links
links_shown p k L [] R T wide two ok n h fit = subst⁻¹ (λ (N : List Link). Shows p k (cliques N p k) T) (append-nil L) h
links_shown p k L (l ∷ M) R T wide two ok n h fit =
    subst (λ (N : List Link). Shows p k (cliques N p k) (took_links k (marked R l.low l.high) U M)) (append_snoc L l M)
    (links_shown p k (L ++ (l ∷ [])) M (marked R l.low l.high) U wide two (legal_past p L M l ok) (near_one p L M l ok R wide n)
    (shown_one p L M l ok k R T wide two n h (omega (arith, slots_front p k (L ++ (l ∷ [])) M, all)))
    (omega (arith, same_room T.entries U.entries (all_kept T (new_cliques R k l.low l.high)).entries, all)))
  where
    U : Tables
    U = took_all T (new_cliques R k l.low l.high)

    all : slots p k (cliques ((L ++ (l ∷ [])) ++ M) p k) ≤ room T.entries
    all = subst⁻¹ (λ (N : List Link). slots p k (cliques N p k) ≤ room T.entries) (append_snoc L l M) fit

-- ---- the links below j, where those below i are in

pub between : (i j : ℕ) (L : List Link) → i ≤ j → take i L ++ drop i (take j L) ≡ take j L
between i j L h = ap (λ (M : List Link). M ++ drop i (take j L)) (sym (take-take i j L h)) ∙ take-append-drop i (take j L)

pub take_legal : (p n : ℕ) (L : List Link) → legal p L ≡ true → legal p (take n L) ≡ true
take_legal p n L ok = legal_front p (take n L) (drop n L) (ap (legal p) (take-append-drop n L) ∙ ok)

module _ (p : ℕ) (L : List Link) (i j : ℕ) (wide : p ≤ width) (ok : legal p L ≡ true) (h : i ≤ j) (R : List ℕ) (n : Neighbours (take i L) R) where
  pub further_legal : legal p (take i L ++ drop i (take j L)) ≡ true
  further_legal = ap (legal p) (between i j L h) ∙ take_legal p j L ok

  pub further_near : Neighbours (take j L) (rows_with R (drop i (take j L)))
  further_near =
      subst (λ (N : List Link). Neighbours N (rows_with R (drop i (take j L)))) (between i j L h) (rows_near p (take i L) (drop i (take j L)) R wide further_legal n)

  pub further_shown : (k : ℕ) (T : Tables) → 2 ≤ k → Shows p k (cliques (take i L) p k) T → slots p k (cliques (take j L) p k) ≤ room T.entries
      → Shows p k (cliques (take j L) p k) (took_links k R T (drop i (take j L)))
  further_shown k T two s fit =
      subst (λ (N : List Link). Shows p k (cliques N p k) (took_links k R T (drop i (take j L)))) (between i j L h)
      (links_shown p k (take i L) (drop i (take j L)) R T wide two further_legal n s
      (subst⁻¹ (λ (N : List Link). slots p k (cliques N p k) ≤ room T.entries) (between i j L h) fit))

-- ---- a run from zeroed tables

pub run_near : (p : ℕ) (L : List Link) → p ≤ width → legal p L ≡ true → Neighbours L (rows_with no_rows L)
run_near p L wide ok = rows_near p [] L no_rows wide ok near_none

pub run_shown : (p k : ℕ) (L : List Link) (T : Tables) → p ≤ width → 2 ≤ k → legal p L ≡ true → level T ≡ true
    → slots p k (cliques L p k) ≤ room T.entries → Shows p k (cliques L p k) (took_links k no_rows (cleared T) L)
run_shown p k L T wide two ok lev fit =
    links_shown p k [] L no_rows (cleared T) wide two ok near_none (cleared_shown p k T two lev) (omega (arith, cleared_room T))
