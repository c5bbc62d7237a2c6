use Rattle.text.proofs.PartLaws.{form_said, line_101, line_silent, line_link}
use mathlib.Core.Path.{refl}
use Rattle.text.proofs.part_line.Goals as goal

pub returns-in-Neither : goal.returns-in-Neither
returns-in-Neither c = λ N h l. line_101 N _ _ _ _ (form_said _ _ _ c.in-Neither.is c.form_of.ensures)

pub returns-in-Silent : goal.returns-in-Silent
returns-in-Silent c = λ N h l. line_silent N _ _ _ _ _ (form_said _ _ _ c.in-Silent.is c.form_of.ensures) h l refl

pub returns-in-Link : goal.returns-in-Link
returns-in-Link c = λ N h l. line_link N _ _ _ _ _ _ _ _ (form_said _ _ _ c.in-Link.is c.form_of.ensures) h l refl
