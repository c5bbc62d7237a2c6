use mathlib.Core.Path.{ap}
use Prim.Native.Nat.{ℕ, ◌+◌}
use Rattle.tree_lines.proofs.LinePlaces.{has_line_lem}
use Rattle.tree_lines.proofs.LineFields.{into_written, into_none}
use Rattle.tree_lines.proofs.put_into.Goals as goal

pub returns-in-Some : goal.returns-in-Some
returns-in-Some c f u X rest e l =
    let a = c.args in
    let s = c.in-Some.ensures in
    let h = has_line_lem _ _ _ s.0 in
    into_written f u X rest a.lines.now _ a.m e l _ h.0 h.1 (ap (λ (k : ℕ). k + 6) s.1) a.v _ c.put.ensures

pub returns-in_default : goal.returns-in_default
returns-in_default c f u X rest e l = let a = c.args in into_none f u X rest a.lines.now _ a.m e l a.v c.in_default.ensures
