-- The first links of an admitted sheet, taken into zeroed tables with slots enough for them: the tables show their k-cliques. Assumes nothing.
use mathlib.Core.Path.{◌≡◌, refl, ap₂, ◌∙◌, subst⁻¹}
use mathlib.Core.Bool.{true}
use mathlib.Core.List.{List}
use Prim.Native.Nat.{ℕ}
use lib.ListN.{length, take, drop}
use Rattle.answers.specs.Verdict.{accepted}
use Rattle.sets.specs.Value.{no_rows}
use Rattle.percolation.specs.Links.{cliques, slots}
use Rattle.percolation.specs.Steps.{enough}
use Rattle.percolation.proofs.Ranges.{good_k_lem}
use Rattle.slots.specs.Tables.{Tables}
use Rattle.slots.proofs.Lengths.{room_enough}
use Rattle.slots_theory.specs.Shows.{Shows}
use Rattle.sheet.specs.Sheet.{parts, links_of}
use Rattle.runs.specs.Lent.{check_call, cleared}
use Rattle.runs.specs.Model.{took_links}
use Rattle.runs.proofs.Admitted.{call_sheet, call_k, call_level}
use Rattle.runs.proofs.InSheet.{parts_width, first_legal}
use Rattle.runs.proofs.Ran.{run_shown}

pub first_shown : (s : List ℕ) (k : ℕ) (T : Tables) → check_call s k T ≡ accepted → (n : ℕ)
    → enough (length T.entries) (slots (parts s) k (cliques (take n (links_of s)) (parts s) k)) ≡ true → (X : List ℕ) (W U : Tables)
    → X ≡ no_rows → W ≡ cleared T → U ≡ took_links k X W (drop 0 (take n (links_of s)))
    → Shows (parts s) k (cliques (take n (links_of s)) (parts s) k) U
first_shown s k T ok n fit X W U none zero e =
    let p = parts s in
    let L = take n (links_of s) in
    let sheet = call_sheet s k T ok in
    subst⁻¹ (Shows p k (cliques L p k)) (e ∙ ap₂ (λ (Y : List ℕ) (Z : Tables). took_links k Y Z L) none zero)
    (run_shown p k L T (parts_width s sheet) (good_k_lem k (call_k s k T ok)).0 (first_legal s sheet n L refl) (call_level s k T ok)
    (room_enough T.entries (slots p k (cliques L p k)) fit))
