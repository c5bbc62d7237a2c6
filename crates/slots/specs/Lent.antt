-- The four lent tables as lists, with how many slots are used; and that they are the same four places, as long as they were, after a call as before it.
-- Assumes nothing.
use Rattle.std.specs.Prelude.{◌≡◌, ℕ, length}
use Rattle.slots.specs.declared.Lent.{Lent}
use Rattle.slots.specs.declared.View.{View}
use Rattle.slots.specs.Tables.{Tables, tables}

abbrev pub tables_of : Lent → ℕ → Tables
tables_of l n = tables l.sets.now l.entries.now l.smallest.now l.unions.now n

abbrev pub tables_in : View → ℕ → Tables
tables_in v n = tables v.sets.now v.entries.now v.smallest.now v.unions.now n

pub record SameLent (l m : Lent) : Type 0 where
  pub sets : l.sets.ghost_name ≡ m.sets.ghost_name
  pub entries : l.entries.ghost_name ≡ m.entries.ghost_name
  pub smallest : l.smallest.ghost_name ≡ m.smallest.ghost_name
  pub unions : l.unions.ghost_name ≡ m.unions.ghost_name
  pub sets_length : length m.sets.now ≡ length l.sets.now
  pub entries_length : length m.entries.now ≡ length l.entries.now
  pub smallest_length : length m.smallest.now ≡ length l.smallest.now
  pub unions_length : length m.unions.now ≡ length l.unions.now
