use Rattle.sets.specs.Sets.{union, lesser}
use Rattle.slots.proofs.Steps.{join_is, merged_is}
use Rattle.slots.proofs.join.Goals as goal

pub returns-clause-tables_after : goal.returns-clause-tables_after
returns-clause-tables_after c =
    let p = c.halve-a.ensures in
    let q = c.halve-b.ensures in
    λ n. join_is _ _ _ _ _ _ _ _ _ p.value.0 p.entries_after q.value.0 q.entries_after c.min-lo.ensures c.max-hi.ensures _ _ _ n
    (merged_is lesser _ _ _ _ _ c.at-s.ensures (c.merge.ensures lesser (λ s t u e. e.2)))
    (merged_is union _ _ _ _ _ c.at-s-2.ensures (c.merge-2.ensures union (λ s t u e. e.2)))
