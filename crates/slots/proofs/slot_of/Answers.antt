use Rattle.slots.proofs.Peel.{peeled}
use Rattle.slots.proofs.slot_of.Goals as goal

pub returns : goal.returns
returns c = rw (← peeled _ _ _ c.lowest.ensures c.without.ensures) c.find.ensures
