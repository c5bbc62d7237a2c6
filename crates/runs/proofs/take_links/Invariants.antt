use mathlib.Core.Path.{◌≡◌}
use lib.ListN.{length, take, drop}
use Rattle.slots.specs.List.{slots_of, SameSlots}
use Rattle.sheet.specs.Sheet.{links_of}
use Rattle.runs.specs.Model.{rows_with, took_links}
use Rattle.runs.proofs.take_links.Given as goal

-- The invariant: with the links from j on these are the rows and the tables of all. Assumes nothing.
abbrev pub invariant-loop-j : goal.invariant-loop-j
invariant-loop-j l =
    SameSlots l.initial.slots l.slots × (length l.rows ≡ length l.initial.rows)
    × (rows_with l.rows (drop l.j (take l.to (links_of l.sheet.bytes.now))) ≡ rows_with l.initial.rows (drop l.from (take l.to (links_of l.sheet.bytes.now))))
    × (took_links l.k l.rows (slots_of l.slots) (drop l.j (take l.to (links_of l.sheet.bytes.now)))
    ≡ took_links l.k l.initial.rows (slots_of l.initial.slots) (drop l.from (take l.to (links_of l.sheet.bytes.now))))
