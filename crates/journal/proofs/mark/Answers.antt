use mathlib.Core.Path.{sym, ◌∙◌}
use Rattle.journal.proofs.Replayed.{skip_rows, one_rows}
use Rattle.journal.proofs.mark.Goals as goal

pub returns-then-good_parts : goal.returns-then-good_parts
returns-then-good_parts c = one_rows _ _ _ c.link_of-link.ensures _ _ (sym c.good_parts.ensures ∙ c.if-good_parts.true) c.add_link.ensures

pub returns-else-good_parts : goal.returns-else-good_parts
returns-else-good_parts c = skip_rows _ _ _ c.link_of-link.ensures _ (sym c.good_parts.ensures ∙ c.if-good_parts.false)
