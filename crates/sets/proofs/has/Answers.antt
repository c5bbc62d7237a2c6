use mathlib.Core.Path.{sym, ◌∙◌}
use borrow.Author.Tests.{le-ltb}
use Rattle.sets.proofs.Held.{held}
use Rattle.sets.proofs.Laws.{has_above}
use Rattle.sets.proofs.OneWord.{mask_has}
use Rattle.sets.specs.Sets.{has}
use Rattle.sets.specs.Value.{num, width}
use Rattle.sets.proofs.has.Goals as goal

pub returns-then-q-lt64 : goal.returns-then-q-lt64
unfolding has num
returns-then-q-lt64 c = mask_has c.args.q c.args.s.word

pub returns-else-q-lt64 : goal.returns-else-q-lt64
unfolding num
returns-else-q-lt64 c = le-ltb _ _ c.if-q-lt64.false ∙ sym (has_above width c.args.q (num c.args.s) (held c.args.s c.well_formed.0) c.if-q-lt64.false)
