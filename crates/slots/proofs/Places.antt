-- The same four places after a call, and after two. Assumes nothing.
use mathlib.Core.Path.{refl, ◌∙◌}
use native.Mathlib.Omega.{arith}
use Rattle.slots.specs.declared.Lent.{Lent}
use Rattle.slots.specs.declared.list.SlotList.{SlotList}
use Rattle.slots.specs.Lent.{SameLent}
use Rattle.slots.specs.List.{SameSlots}

pub same_lent : (l : Lent) → SameLent l l
same_lent l = record {
  sets = refl;
  entries = refl;
  smallest = refl;
  unions = refl;
  sets_length = refl;
  entries_length = refl;
  smallest_length = refl;
  unions_length = refl;
}

pub lent_both : {l m n : Lent} → SameLent l m → SameLent m n → SameLent l n
lent_both a b = record {
  sets = a.sets ∙ b.sets;
  entries = a.entries ∙ b.entries;
  smallest = a.smallest ∙ b.smallest;
  unions = a.unions ∙ b.unions;
  sets_length = b.sets_length ∙ a.sets_length;
  entries_length = b.entries_length ∙ a.entries_length;
  smallest_length = b.smallest_length ∙ a.smallest_length;
  unions_length = b.unions_length ∙ a.unions_length;
}

pub same_slots : (l : SlotList) → SameSlots l l
same_slots l = record { tables = refl; lent = same_lent l.tables.now; more = omega arith }

pub slots_both : {l m n : SlotList} → SameSlots l m → SameSlots m n → SameSlots l n
slots_both a b = record { tables = a.tables ∙ b.tables; lent = lent_both a.lent b.lent; more = omega (arith, a.more, b.more) }
