use Rattle.page.specs.Model.{parts_in}
use Rattle.page.proofs.Sizes.{line_put}
use Rattle.page.proofs.put_line.Goals as goal

pub returns : goal.returns
returns c =
    let a = c.args in
    line_put a.sheet.now a.number a.line.weight a.n (parts_in a.sheet.now _) _ _ _ c.requires.1 c.put_rows.ensures
    c.put_number.ensures c.put_number-2.ensures
