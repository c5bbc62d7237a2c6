use mathlib.Core.Path.{ap₂}
use Prim.Native.Nat.{ℕ, ◌+◌}
use Rattle.sets.specs.Value.{num}
use Rattle.tree_lines.proofs.LinePlaces.{has_line_lem}
use Rattle.tree_lines.proofs.LineFields.{whole_written, whole_none}
use Rattle.tree_lines.proofs.put_whole.Goals as goal

pub returns-in-Some : goal.returns-in-Some
returns-in-Some c f u X rest e l =
    let a = c.args in
    let s = c.in-Some.ensures in
    let h = has_line_lem _ _ _ s.0 in
    whole_written f u X rest a.lines.now _ a.m e l _ h.0 h.1 (ap₂ (λ (k z : ℕ). k + z) s.1 c.whole_place.ensures) (num a.whole) _ c.put_bytes.ensures

pub returns-in_default : goal.returns-in_default
returns-in_default c f u X rest e l = let a = c.args in whole_none f u X rest a.lines.now _ a.m e l (num a.whole) c.in_default.ensures
