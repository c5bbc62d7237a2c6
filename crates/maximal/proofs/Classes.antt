-- The maximal-clique run on links of parts below p, of which R are the rows of neighbours: 15 by their maximal cliques, and what stands in the rows of
-- the classes is the listing. Assumes nothing.
use mathlib.Core.Path.{◌≡◌, sym, ap, ◌∙◌, subst, subst⁻¹}
use mathlib.Core.Bool.{true, false}
use mathlib.Core.List.Memᴰ
use mathlib.Core.List.{List, []}
use Prim.Native.Nat.{ℕ, ◌≤◌, ◌<◌, ◌^◌}
use native.Mathlib.Omega.{arith}
use lib.Dec.{leb}
use lib.ListN.{length}
use borrow.Author.Tests.{le-leb, lt-leb}
use Rattle.sets.specs.Lists.{◌∈◌, below}
use Rattle.sets.specs.Sets.{size}
use Rattle.sets.specs.Value.{width, rows, row}
use Rattle.sets.proofs.ListLaws.{Holds, below_of, below_at}
use Rattle.percolation.specs.Percolate.{communities}
use Rattle.percolation.specs.Links.{Link, cliques, maximals}
use Rattle.percolation.specs.Steps.{legal}
use Rattle.percolation.proofs.Maximal.{maximals_of, maximal_shows}
use Rattle.checks.specs.Neighbours.{Neighbours}
use Rattle.joining.proofs.Follow.{root_none}
use Rattle.listings.specs.Model.{stands_at, listed}
use Rattle.listings.proofs.Listed.{listed_of, listed_at, listed_same}
use Rattle.maximal_search.specs.Model.{maximals_by, Found, found, found_all}
use Rattle.maximal_search.proofs.Maxima.{maxima_of, maxima_at, maxima_count, maxima_fits}
use Rattle.maximal_search.proofs.FoundSets.{found_rows_kept, filled_many, filled_few, filled_rows}
use Rattle.overlaps.specs.Model.{Classed, classed, classed_all, first_rows}
use Rattle.overlaps.proofs.Frontier.{classes_show, classes_all, classes_apart}
use Rattle.overlaps.proofs.Showing.{shows_members}

-- the search filled S from T, which has room for r sets, and counts c
module _ (L : List Link) (p k r c : ℕ) (R T S : List ℕ) (links : legal p L ≡ true) (near : Neighbours L R) (wide : p ≤ width)
    (filled : found S c ≡ found_all r (found T 0) (maximals_by R p k)) where
  -- the maximal cliques as they were found
  abbrev M : List ℕ
  M = maximals_by R p k

  count : length M ≡ length (maximals L p k)
  count = maxima_count L p R links wide near k

  -- ---- 15

  pub too_many : r < c → leb (length (maximals L p k)) r ≡ false
  too_many h = lt-leb (length (maximals L p k)) r (omega (arith, filled_many r c T S M filled h, count))

  -- ---- the classes, where the three tables have the room

  module _ (h : c ≤ r) where
    pub all_fit : leb (length (maximals L p k)) r ≡ true
    all_fit = le-leb (length (maximals L p k)) r (omega (arith, filled_few r c T S M filled h, count))

    module _ (one : 1 ≤ k) (smallest unions : List ℕ) (roomT : r ≤ rows T) (roomM : r ≤ rows smallest) (roomU : r ≤ rows unions) where
      first_rows_lem : first_rows c S ≡ M
      first_rows_lem = filled_rows r c T S M filled h roomT (maxima_fits L p R links wide near k)

      module _ (A ms us : List ℕ) (g : ℕ) (sorted : classed A ms us g ≡ classed_all k c S smallest unions) where
        to_m : (x : ℕ) → x ∈ first_rows c S → x ∈ M
        to_m x i = subst (λ (l : List ℕ). x ∈ l) first_rows_lem i

        fits : (x : ℕ) → x ∈ first_rows c S → x < 2 ^ width
        fits x i = maxima_fits L p R links wide near k x (to_m x i)

        big : (x : ℕ) → x ∈ first_rows c S → k ≤ size x
        big x i = (maximals_of L p k x (maxima_of L p R links wide near k x (to_m x i))).sized

        in_maximals : Holds (maximals L p k) (first_rows c S)
        in_maximals x i = maxima_of L p R links wide near k x (to_m x i)

        from_maximals : Holds (first_rows c S) (maximals L p k)
        from_maximals x i = subst⁻¹ (λ (l : List ℕ). x ∈ l) first_rows_lem (maxima_at L p R links wide near k x i)

        long_s : c ≤ rows S
        long_s = omega (arith, ap (λ (f : Found). rows f.sets) filled, found_rows_kept r T 0 M)

        long_m : c ≤ rows smallest
        long_m = omega (arith, roomM)

        long_u : c ≤ rows unions
        long_u = omega (arith, roomU)

        abbrev W : Classed
        W = classed_all k c S smallest unions

        count_is : g ≡ W.count
        count_is = ap (λ (w : Classed). w.count) sorted

        -- what stands in the row of a class
        at_is : (x : ℕ) → stands_at ms us x ≡ stands_at W.smallest W.unions x
        at_is x = ap (λ (w : Classed). stands_at w.smallest w.unions x) sorted

        shows : Holds (communities k (cliques L p k)) (listed [] ms us g)
        unfolding stands_at
        shows d m =
            let x = listed_of [] ms us g d m in
            (maximal_shows L p k one d).1
            (shows_members k (first_rows c S) (maximals L p k) in_maximals from_maximals d
            (classes_show k c S smallest unions long_s long_m long_u fits big d
            (Memᴰ.cast (sym x.3 ∙ at_is x.0)
            (Memᴰ.map (stands_at W.smallest W.unions) (below_at x.0 W.count (omega (arith, x.1, count_is)))))))

        each : Holds (listed [] ms us g) (communities k (cliques L p k))
        unfolding stands_at
        each d m =
            let y = classes_all k c S smallest unions long_s long_m long_u fits big d
            (shows_members k (maximals L p k) (first_rows c S) from_maximals in_maximals d ((maximal_shows L p k one d).0 m)) in
            let z = Memᴰ.of_map (stands_at W.smallest W.unions) (below W.count) y in
            Memᴰ.cast (sym z.2 ∙ sym (at_is z.0))
            (listed_at [] ms us g z.0 (omega (arith, below_of W.count z.1, count_is)) (root_none z.0))

        apart : (i j : ℕ) → i < g → j < g → row ms i ≡ row ms j → i ≡ j
        apart i j li lj e =
            let m = ap (λ (w : Classed). w.smallest) sorted in
            classes_apart k c S smallest unions long_s long_m long_u fits big i j (omega (arith, count_is)) (omega (arith, count_is))
            (sym (ap (λ (l : List ℕ). row l i) m) ∙ e ∙ ap (λ (l : List ℕ). row l j) m)

        pub run_lists : listed [] ms us g ≡ communities k (cliques L p k)
        run_lists = listed_same [] ms us g k (cliques L p k) (λ i j li lj ri rj e. apart i j li lj e) shows each
