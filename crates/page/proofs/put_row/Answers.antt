use mathlib.Core.Path.{refl, ap, ◌∙◌}
use native.Mathlib.Omega.{arith}
use Rattle.page.specs.Page.{blanks}
use Rattle.page.specs.Model.{parts_in}
use Rattle.page.proofs.Filling.{part_length}
use Rattle.page.proofs.Names.{parts_listed}
use Rattle.page.proofs.Sizes.{row_put}
use Rattle.page.proofs.put_row.Goals as goal

pub returns-clause-out_after : goal.returns-clause-out_after
returns-clause-out_after c =
    let a = c.args in
    let p = c.requires in
    let s = a.sheet.now in
    let front = c.fill.ensures.after (λ y e. e) ∙ ap blanks (part_length a.out.now 0 12 12 refl (omega (arith, p.1))) in
    row_put s p.0.long (parts_in s _) a.out.now _ _ (parts_listed s _) p.1 front c.put_names.ensures.out_after
