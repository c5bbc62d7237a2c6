use mathlib.Core.Path.{◌≡◌}
use lib.ListN.{drop}
use Rattle.slots.specs.List.{slots_of, SameSlots}
use Rattle.runs.specs.Model.{took_links}
use Rattle.journal.specs.Model.{readable}
use Rattle.journal.proofs.replay.Given as goal

-- The invariant: with the entries from next on these are the tables of all. Assumes nothing.
abbrev pub invariant-loop-next : goal.invariant-loop-next
invariant-loop-next l =
    SameSlots l.initial.slots l.slots
    × (took_links l.k l.rows (slots_of l.slots) (readable l.p (drop l.next-index l.entries))
    ≡ took_links l.k l.initial.rows (slots_of l.initial.slots) (readable l.p l.entries))
