-- What taking in gives where there are slots enough and where there are none: tables T of the model, with one slot more used than there may be where they
-- did not suffice. Assumes nothing.
use Rattle.std.specs.Prelude.{◌≡◌, ◌+◌, Option, MatchOption}
use Rattle.slots.specs.declared.list.SlotList.{SlotList}
use Rattle.slots.specs.Tables.{Tables, room}
use Rattle.slots.specs.Lent.{tables_of}
use Rattle.slots.specs.List.{slots_of}

-- the tables, with one slot more in use than there may be
abbrev pub full_of : SlotList → Tables
full_of l = tables_of l.tables.now (room l.tables.now.entries.now + 1)

abbrev pub TakesIn : Option Unit → SlotList → Tables → Type 0
TakesIn r l T = MatchOption r (full_of l ≡ T) (λ u. slots_of l ≡ T)
