use mathlib.Core.Path.{◌≡◌}
use mathlib.Core.List.{◌++◌}
use Prim.Native.Nat.{◌*◌}
use lib.ListN.{length, drop}
use Rattle.sheet.specs.Lent.{network_in}
use Rattle.sheet_writer.specs.Writing.{link_in}
use Rattle.sheet_writer.proofs.Written.{links_bytes}
use Rattle.sheet_writer.proofs.put_links.Given as goal

abbrev pub invariant-loop-j : goal.invariant-loop-j
invariant-loop-j l = (l.out ≡ links_bytes (link_in (network_in l.network)) l.j ++ drop (4 * l.j) l.initial.out) × (length l.out ≡ length l.initial.out)
