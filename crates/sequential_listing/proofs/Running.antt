-- The listing of the first links of an admitted sheet: what stands at the ends of the slots when they are in the tables. Assumes nothing.
use mathlib.Core.Path.{◌≡◌}
use mathlib.Core.Bool.{true}
use mathlib.Core.List.{List}
use Prim.Native.Nat.{ℕ}
use native.Mathlib.Omega.{arith}
use lib.ListN.{length, take, drop}
use Rattle.answers.specs.Verdict.{accepted}
use Rattle.sets.specs.Value.{no_rows}
use Rattle.percolation.specs.Percolate.{communities}
use Rattle.percolation.specs.Links.{cliques, slots}
use Rattle.percolation.specs.Steps.{enough}
use Rattle.percolation.proofs.Ranges.{good_k_lem}
use Rattle.slots.specs.Tables.{Tables}
use Rattle.clique_taking.proofs.Inserted.{cliques_family}
use Rattle.sheet.specs.Sheet.{parts, links_of}
use Rattle.listings.specs.Model.{listed}
use Rattle.listings.proofs.Listed.{listed_communities}
use Rattle.runs.specs.Lent.{check_call, cleared}
use Rattle.runs.specs.Model.{took_links}
use Rattle.runs.proofs.Admitted.{call_k}
use Rattle.runs.proofs.FromZero.{first_shown}

pub run_lists : (s : List ℕ) (k : ℕ) (T : Tables) → check_call s k T ≡ accepted → (n : ℕ)
    → enough (length T.entries) (slots (parts s) k (cliques (take n (links_of s)) (parts s) k)) ≡ true → (X : List ℕ) (W U : Tables)
    → X ≡ no_rows → W ≡ cleared T → U ≡ took_links k X W (drop 0 (take n (links_of s)))
    → listed U.entries U.smallest U.unions U.used ≡ communities k (cliques (take n (links_of s)) (parts s) k)
run_lists s k T ok n fit X W U none zero e =
    let L = take n (links_of s) in
    listed_communities (parts s) k (cliques L (parts s) k) U (cliques_family L (parts s) k) (omega (arith, good_k_lem k (call_k s k T ok)))
    (first_shown s k T ok n fit X W U none zero e)
