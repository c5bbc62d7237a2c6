-- What the end of a level leaves of the lent tables. Assumes nothing.
use Rattle.std.specs.Prelude.{◌≡◌, List, ℕ, length}
use Rattle.slots.specs.declared.Lent.{Lent}
use Rattle.slots.specs.Tables.{Tables, tables}
use Rattle.slots.specs.Lent.{SameLent}
use Rattle.slots.specs.declared.list.SlotList.{SlotList}
use Rattle.tree_levels.specs.declared.Ends.{Ends}
use Rattle.tree_levels.specs.LevelModel.{join_counts, start_slots}

-- the same four places, with the same sets and joining entries
pub record KeepsSlots (l m : Lent) : Type 0 where
  pub lent : SameLent l m
  pub sets : m.sets.now ≡ l.sets.now
  pub entries : m.entries.now ≡ l.entries.now

-- the same two places that are written, as long as they were, and the same joining entries
pub record KeepsEnds (l m : Ends) : Type 0 where
  pub smallest : l.smallest.ghost_name ≡ m.smallest.ghost_name
  pub unions : l.unions.ghost_name ≡ m.unions.ghost_name
  pub smallest_length : length m.smallest.now ≡ length l.smallest.now
  pub unions_length : length m.unions.now ≡ length l.unions.now
  pub entries : m.entries.now ≡ l.entries.now

-- the tables with other unions
abbrev pub with_unions : Tables → List ℕ → Tables
with_unions T us = tables T.sets T.entries T.smallest us T.used

-- the same slots in use, with the same sets and joining entries
pub record KeepsList (l m : SlotList) : Type 0 where
  pub tables : l.tables.ghost_name ≡ m.tables.ghost_name
  pub used : m.used ≡ l.used
  pub kept : KeepsSlots l.tables.now m.tables.now

-- the unions of the tables after a level with their counts, and the slots where its lines start, where b slots were used before it
abbrev pub counted : Tables → ℕ → List ℕ
counted T b = join_counts T.entries T.unions b

abbrev pub starting : Tables → ℕ → List ℕ
starting T b = start_slots T.entries (counted T b) b T.used
