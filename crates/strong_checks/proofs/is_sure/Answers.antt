use Rattle.strong_checks.proofs.Sure.{bearing_slots}
use Rattle.strong_checks.proofs.is_sure.Goals as goal

pub has_slots-requires : goal.has_slots-requires
has_slots-requires c = (c.bearing-n.ensures.1, c.requires)

pub returns : goal.returns
returns c = bearing_slots _ _ _ _ c.bearing-n.result _ c.bearing-n.ensures.0 c.has_slots.ensures
