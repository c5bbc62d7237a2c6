use borrow.Author.Tests.{lt-leb}
use mathlib.Core.Path.{◌∙◌}
use Rattle.page.proofs.Counts.{good_broken, good_many, good_known}
use Rattle.page.proofs.good_lines.Goals as goal

pub returns-else-is_whole : goal.returns-else-is_whole
returns-else-is_whole c = c.if-is_whole.false ∙ good_broken c.args.p c.args.lines.now _ c.is_whole.ensures c.if-is_whole.false

pub returns-else-few : goal.returns-else-few
returns-else-few c =
    lt-leb _ _ c.if-few.false
    ∙ good_many c.args.p c.args.lines.now _ c.is_whole.ensures c.if-is_whole.true _ c.line_count-n.ensures c.if-few.false

pub returns-then-few : goal.returns-then-few
returns-then-few c =
    good_known c.args.p c.args.lines.now _ c.is_whole.ensures c.if-is_whole.true _ c.line_count-n.ensures _ c.if-few.true c.all_known.ensures
