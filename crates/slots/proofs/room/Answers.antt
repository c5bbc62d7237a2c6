use Prim.Native.Nat.{min}
use mathlib.Core.Path.{ap, ◌∙◌}
use Rattle.slots.specs.Tables.{room}
use Rattle.slots.proofs.room.Goals as goal

pub returns : goal.returns
unfolding room
returns c = c.min.ensures ∙ ap (min _) c.most_slots.ensures
