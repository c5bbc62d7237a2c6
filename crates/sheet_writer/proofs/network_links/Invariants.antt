use mathlib.Core.Path.{◌≡◌}
use lib.ListN.{length}
use Rattle.sets.specs.Value.{no_rows}
use Rattle.sheet.specs.Lent.{network_in}
use Rattle.sheet_writer.specs.Writing.{parts_of, link_in}
use Rattle.sheet.proofs.InTurn.{Passed}
use Rattle.sheet_writer.proofs.network_links.Given as goal

abbrev pub invariant-loop-j : goal.invariant-loop-j
invariant-loop-j l =
    Passed (link_in (network_in l.network)) (λ i. 0) (parts_of (network_in l.network)) l.j l.seen l.before × (length l.seen ≡ length no_rows)
