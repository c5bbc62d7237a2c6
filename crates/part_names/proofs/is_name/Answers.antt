use mathlib.Core.Path.{◌∙◌}
use Rattle.part_names.proofs.Form.{name_tested, name_lacking}
use Rattle.part_names.proofs.is_name.Goals as goal

pub returns-then-at-gt0 : goal.returns-then-at-gt0
returns-then-at-gt0 c = c.only_spaces.ensures ∙ name_tested _ _ c.leading_visible-at.ensures.0 c.if-at-gt0.true

pub returns-else-at-gt0 : goal.returns-else-at-gt0
returns-else-at-gt0 c = name_lacking _ _ c.leading_visible-at.ensures.0 c.if-at-gt0.false
