use mathlib.Core.Path.{◌≡◌}
use lib.ListN.{length}
use Rattle.fullest.proofs.PartNames.{Named_to}
use Rattle.fullest.proofs.name_parts.Given as goal

abbrev pub invariant-loop-i : goal.invariant-loop-i
invariant-loop-i l = Named_to l.p l.names l.i × (length l.names ≡ 512)
