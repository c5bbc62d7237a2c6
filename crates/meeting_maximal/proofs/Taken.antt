-- The maximal cliques of the first links of a sheet stand in the table after the search, or are one more than there is room for. Assumes nothing.
use mathlib.Core.Path.{◌≡◌, refl, ap, ◌∙◌, subst, subst⁻¹}
use mathlib.Core.Bool.{true}
use mathlib.Core.List.{List, map}
use Prim.Native.Nat.{ℕ, ◌≤◌, ◌<◌}
use native.Mathlib.Omega.{arith}
use lib.ListN.{length, take}
use Rattle.answers.specs.Verdict.{accepted}
use Rattle.sets.specs.Lists.{◌∈◌, below}
use Rattle.sets.specs.Value.{width, rows, row, no_rows}
use Rattle.percolation.specs.Links.{Link, maximals}
use Rattle.percolation.specs.Steps.{legal}
use Rattle.checks.specs.Neighbours.{Neighbours}
use Rattle.sheet.specs.Sheet.{parts, links_of, check_sheet}
use Rattle.runs.specs.Model.{rows_with}
use Rattle.runs.proofs.InSheet.{parts_width, first_legal, first_near}
use Rattle.maximal_search.specs.Model.{Found, found, found_all, maximals_by}
use Rattle.maximal_search.proofs.FoundSets.{found_count, found_full, found_rows, found_rows_kept}
use Rattle.maximal_search.proofs.Maxima.{maxima_of, maxima_at, maxima_count, maxima_fits}
use Rattle.overlaps.proofs.Moves.{Holding, holding_rows}
use Rattle.meeting_maximal.specs.Model.{Stands, Filled}

-- what the table T has after a search by the rows R of the links L
module _ (L : List Link) (p k : ℕ) (R : List ℕ) (ok : legal p L ≡ true) (wide : p ≤ width) (near : Neighbours L R) (room : ℕ) (S : List ℕ)
    (long : room ≤ rows S)
    (n : ℕ) (T : List ℕ) (e : found T n ≡ found_all room (found S 0) (maximals_by R p k)) where
  abbrev C : List ℕ
  C = maximals_by R p k

  count : length C ≡ length (maximals L p k)
  count = maxima_count L p R ok wide near k

  number : n ≡ (found_all room (found S 0) C).count
  number = ap (λ (f : Found). f.count) e

  table : T ≡ (found_all room (found S 0) C).sets
  table = ap (λ (f : Found). f.sets) e

  module _ (h : length (maximals L p k) ≤ room) where
    all_found : n ≡ length C
    all_found = number ∙ found_count room S C (omega (arith, count))

    -- the sets found, row by row
    stand : map (row T) (below n) ≡ C
    stand =
        ap (λ (m : ℕ). map (row T) (below m)) all_found ∙ ap (λ (X : List ℕ). map (row X) (below (length C))) table
        ∙ found_rows room S C (omega (arith, count)) long (maxima_fits L p R ok wide near k)

    own : Holding n (map (row T) (below n)) T
    own = holding_rows n T

    one_of : (i : ℕ) → i < n → row T i ∈ C
    one_of i l = subst (λ (X : List ℕ). row T i ∈ X) stand (own.row_in i l)

    stands : Stands (maximals L p k) n T
    stands = record {
      long = omega (arith, all_found, count, ap rows table, found_rows_kept room S 0 C);
      fits = λ i l. maxima_fits L p R ok wide near k (row T i) (one_of i l);
      holds = record {
        row_in = λ i l. maxima_of L p R ok wide near k (row T i) (one_of i l);
        in_row = λ x m. own.in_row x (subst⁻¹ (λ (X : List ℕ). x ∈ X) stand (maxima_at L p R ok wide near k x m));
      };
    }

  pub search_taken : Filled (maximals L p k) room n T
  search_taken = record {
    fit = λ h. (omega (arith, all_found h, count), stands h);
    full = λ h. omega (arith, number, found_full room S C (omega (arith, count)));
  }

-- the same of the first m links of a checked sheet
pub level_taken : (s : List ℕ) → check_sheet s ≡ accepted → (m p k : ℕ) → p ≡ parts s → (R : List ℕ) → R ≡ rows_with no_rows (take m (links_of s))
    → (room : ℕ) (S : List ℕ) → room ≤ rows S → (n : ℕ) (T : List ℕ) → found T n ≡ found_all room (found S 0) (maximals_by R p k)
    → Filled (maximals (take m (links_of s)) (parts s) k) room n T
level_taken s e m p k count R rows room S long n T f =
    search_taken (take m (links_of s)) (parts s) k R ok (parts_width s e)
    (first_near s e m (take m (links_of s)) refl R rows) room S long n T
    (f ∙ ap (λ (q : ℕ). found_all room (found S 0) (maximals_by R q k)) count)
  where
    ok : legal (parts s) (take m (links_of s)) ≡ true
    ok = first_legal s e m (take m (links_of s)) refl
