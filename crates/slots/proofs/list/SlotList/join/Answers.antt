use native.Mathlib.Omega.{arith}
use Rattle.slots.proofs.Lengths.{room_within, same_room}
use Rattle.slots.proofs.list.SlotList.join.Goals as goal

pub join-requires : goal.join-requires
join-requires c = omega (arith, c.args.self.now.fits, room_within c.args.self.now.tables.now.entries.now)

pub invariant_of-self : goal.invariant_of-self
invariant_of-self c = record { fits = omega (arith, c.args.self.now.fits, same_room _ _ c.join.ensures.lent.entries_length) }
