use Rattle.sheet.proofs.Said.{said_holds}
use Rattle.sheet.proofs.checked.Goals as goal

pub invariant_of-result : goal.invariant_of-result
invariant_of-result c =
    let p = said_holds _ _ _ _ c.in_ok-counts.ensures in
    record { passed = p.0; counted = (p.1, p.2) }
