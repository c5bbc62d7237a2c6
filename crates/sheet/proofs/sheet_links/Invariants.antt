use mathlib.Core.Path.{◌≡◌}
use lib.ListN.{length}
use Rattle.sets.specs.Value.{no_rows}
use Rattle.sheet.specs.Sheet.{parts, link_at, link_of}
use Rattle.sheet.proofs.InTurn.{Passed}
use Rattle.sheet.proofs.sheet_links.Given as goal

abbrev pub invariant-loop-j : goal.invariant-loop-j
invariant-loop-j l = Passed (link_of l.s) (link_at l.s) (parts l.s) l.j l.seen l.before × (length l.seen ≡ length no_rows)
