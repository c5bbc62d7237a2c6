-- What the tables leave free stays so as links are taken in one after the other, and the slot after each end is of its class. Assumes nothing.
use mathlib.Core.Path.{◌≡◌, refl, subst⁻¹}
use mathlib.Core.Bool.{true}
use mathlib.Core.List.{List, [], ◌∷◌, ◌++◌}
use Prim.Native.Nat.{ℕ, ◌≤◌}
use native.Mathlib.Omega.{arith}
use lib.ListN.{take, drop}
use lib.Seq.{append_snoc}
use Rattle.sets.specs.Value.{width, no_rows}
use Rattle.percolation.specs.Links.{Link, cliques, slots}
use Rattle.percolation.specs.Steps.{legal}
use Rattle.percolation.proofs.Accepted.{check_new, legal_init}
use Rattle.checks.specs.Model.{marked}
use Rattle.checks.specs.Neighbours.{Neighbours}
use Rattle.checks.proofs.Near.{near_none}
use Rattle.slots.specs.Tables.{Tables, room}
use Rattle.slots_theory.specs.Shows.{Shows}
use Rattle.slots.proofs.Lengths.{same_room}
use Rattle.slots_theory.proofs.Free.{Stays, stays_none, stays_both, Paired, none_paired}
use Rattle.search.specs.Model.{new_cliques}
use Rattle.clique_taking.specs.Model.{took_all}
use Rattle.clique_taking.proofs.AllTaken.{all_kept, all_fits}
use Rattle.clique_taking.proofs.FreeAll.{all_stays, insert_paired}
use Rattle.runs.specs.Lent.{level, cleared}
use Rattle.runs.specs.Model.{took_links}
use Rattle.runs.proofs.Left.{cleared_room, cleared_shown}
use Rattle.runs.proofs.Ran.{legal_front, legal_past, legal_with, ends_fit, near_one, shown_one, slots_front, between, further_legal}

-- ---- what the used slots keep

pub links_stays : (k : ℕ) (R : List ℕ) (T : Tables) (M : List Link) → T.used ≤ room T.entries → Stays T (took_links k R T M)
unfolding took_links
links_stays k R T [] fits = stays_none T
links_stays k R T (l ∷ M) fits =
    let N = new_cliques R k l.low l.high in
    let U = took_all T N in
    stays_both T U (took_links k R T (l ∷ M)) (all_stays T N fits) (links_stays k (marked R l.low l.high) U M (all_fits T N fits))

-- ---- the slot after each end

-- after one link more
paired_one : (p : ℕ) (L M : List Link) (l : Link) → legal p (L ++ (l ∷ M)) ≡ true → (k : ℕ) (R : List ℕ) (T : Tables) → p ≤ width → 2 ≤ k → Neighbours L R
    → Shows p k (cliques L p k) T → slots p k (cliques (L ++ (l ∷ [])) p k) ≤ room T.entries → Paired T → Paired (took_all T (new_cliques R k l.low l.high))
paired_one p L M l ok k R T wide two n h fit =
    let e = ends_fit p L M l ok in
    insert_paired p L R (legal_front p L (l ∷ M) ok) wide n l k two (check_new p L l 0 (legal_init p L l 0 (legal_with p L M l ok)).1) e.0 e.1 T h fit

pub links_paired : (p k : ℕ) (L M : List Link) (R : List ℕ) (T : Tables) → p ≤ width → 2 ≤ k → legal p (L ++ M) ≡ true → Neighbours L R
    → Shows p k (cliques L p k) T → slots p k (cliques (L ++ M) p k) ≤ room T.entries → Paired T → Paired (took_links k R T M)
unfolding took_links
links_paired p k L [] R T wide two ok n h fit e = e
links_paired p k L (l ∷ M) R T wide two ok n h fit e =
    links_paired p k (L ++ (l ∷ [])) M (marked R l.low l.high) U wide two (legal_past p L M l ok) (near_one p L M l ok R wide n)
    (shown_one p L M l ok k R T wide two n h one)
    (omega (arith, same_room T.entries U.entries (all_kept T (new_cliques R k l.low l.high)).entries, all))
    (paired_one p L M l ok k R T wide two n h one e)
  where
    U : Tables
    U = took_all T (new_cliques R k l.low l.high)

    all : slots p k (cliques ((L ++ (l ∷ [])) ++ M) p k) ≤ room T.entries
    all = subst⁻¹ (λ (N : List Link). slots p k (cliques N p k) ≤ room T.entries) (append_snoc L l M) fit

    one : slots p k (cliques (L ++ (l ∷ [])) p k) ≤ room T.entries
    one = omega (arith, slots_front p k (L ++ (l ∷ [])) M, all)

-- ---- the links below j, where those below i are in

module _ (p : ℕ) (L : List Link) (i j : ℕ) (wide : p ≤ width) (ok : legal p L ≡ true) (le : i ≤ j) (R : List ℕ) (n : Neighbours (take i L) R)
    (k : ℕ) (T : Tables) (two : 2 ≤ k) (h : Shows p k (cliques (take i L) p k) T) (fit : slots p k (cliques (take j L) p k) ≤ room T.entries) where
  abbrev M : List Link
  M = drop i (take j L)

  pub further_stays : Stays T (took_links k R T (drop i (take j L)))
  further_stays = links_stays k R T M h.fits

  pub further_paired : Paired T → Paired (took_links k R T (drop i (take j L)))
  further_paired =
      links_paired p k (take i L) M R T wide two (further_legal p L i j wide ok le R n) n h
      (subst⁻¹ (λ (N : List Link). slots p k (cliques N p k) ≤ room T.entries) (between i j L le) fit)

-- ---- a run from zeroed tables

pub cleared_paired : (T : Tables) → Paired (cleared T)
unfolding cleared
cleared_paired T = none_paired (cleared T) refl

pub run_paired : (p k : ℕ) (L : List Link) (T : Tables) → p ≤ width → 2 ≤ k → legal p L ≡ true → level T ≡ true
    → slots p k (cliques L p k) ≤ room T.entries → Paired (took_links k no_rows (cleared T) L)
run_paired p k L T wide two ok lev fit =
    links_paired p k [] L no_rows (cleared T) wide two ok near_none (cleared_shown p k T two lev) (omega (arith, cleared_room T)) (cleared_paired T)
