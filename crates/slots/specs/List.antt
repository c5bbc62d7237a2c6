-- The lent tables with how many slots are used, as the code holds them, and what finding and placing a set in a slot gives. Assumes nothing.
use Rattle.std.specs.Prelude.{◌≡◌, ◌≤◌, ◌<◌, List, ℕ, Option, MatchOption}
use Rattle.slots.specs.declared.list.SlotList.{SlotList}
use Rattle.slots.specs.Tables.{Tables, room}
use Rattle.slots.specs.Lent.{tables_of, SameLent}
use Rattle.slots.specs.Model.{find}

abbrev pub slots_of : SlotList → Tables
slots_of l = tables_of l.tables.now l.used

-- the same four places, as long as they were, and no slot less in use
pub record SameSlots (l m : SlotList) : Type 0 where
  pub tables : l.tables.ghost_name ≡ m.tables.ghost_name
  pub lent : SameLent l.tables.now m.tables.now
  pub more : l.used ≤ m.used

-- the used slot that holds s, or none
abbrev pub Finds : Option ℕ → List ℕ → ℕ → ℕ → Type 0
Finds r sets used s = MatchOption r (find sets used s ≡ used) (λ i. (i ≡ find sets used s) × (i < used))

-- the slot of s once n are used; none where none held it and none was free
abbrev pub Places : Option ℕ → Tables → ℕ → ℕ → Type 0
Places r T s n =
    MatchOption r ((n ≤ find T.sets T.used s) × (room T.entries ≤ T.used)) (λ i. (i ≡ find T.sets T.used s) × (i < n))
