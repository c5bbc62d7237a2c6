use mathlib.Core.Path.{sym, ◌∙◌}
use native.Mathlib.Omega.{arith}
use Rattle.percolation.proofs.Accepted.{good_parts_lem}
use Rattle.journal.proofs.Replayed.{skip_rows, skip_tables, one_rows, one_tables}
use Rattle.journal.proofs.retake.Goals as goal

pub take_link-requires : goal.take_link-requires
take_link-requires c =
    let g = good_parts_lem _ _ (sym c.good_parts.ensures ∙ c.if-good_parts.true) in
    (c.requires.1, omega (arith, g.0, g.1, c.requires.0), omega (arith, g.1, c.requires.0))

pub returns-then-good_parts-clause-slots_after : goal.returns-then-good_parts-clause-slots_after
returns-then-good_parts-clause-slots_after c =
    one_tables _ _ _ c.link_of-link.ensures _ _ _ _ (sym c.good_parts.ensures ∙ c.if-good_parts.true) c.take_link.ensures.slots_after

pub returns-then-good_parts-clause-rows_after : goal.returns-then-good_parts-clause-rows_after
returns-then-good_parts-clause-rows_after c =
    one_rows _ _ _ c.link_of-link.ensures _ _ (sym c.good_parts.ensures ∙ c.if-good_parts.true) c.take_link.ensures.rows_after

pub returns-else-good_parts-clause-slots_after : goal.returns-else-good_parts-clause-slots_after
returns-else-good_parts-clause-slots_after c =
    skip_tables _ _ _ c.link_of-link.ensures _ _ _ (sym c.good_parts.ensures ∙ c.if-good_parts.false)

pub returns-else-good_parts-clause-rows_after : goal.returns-else-good_parts-clause-rows_after
returns-else-good_parts-clause-rows_after c =
    skip_rows _ _ _ c.link_of-link.ensures _ (sym c.good_parts.ensures ∙ c.if-good_parts.false)
