use Rattle.std.proofs.Common.{◌*◌, ◌∙◌, rules, eqb, refl, arith}
use Rattle.std.proofs.lemmas.Iterator.{YieldsList-from_range}
use Rattle.std.proofs.lemmas.Iterator.Search.{any_from_yields_List}
use lib.Pointwise.{pointwise}
use Rattle.part_names.specs.Names.{eight_at}
use Rattle.part_names.proofs.Form.{repeated_tested}
use Rattle.part_names.proofs.is_repeated.Goals as goal

pub returns : goal.returns
returns c =
    let a = c.args in
    let s = a.names.bytes.now in
    any_from_yields_List (λ r. pointwise eqb (eight_at s (8 * r)) (eight_at s (8 * a.q))) _ _ _ c.any.ensures.ran
    (YieldsList-from_range 0 a.q a.q refl (omega arith)) (λ x b q h. search (rules, c.at-name.ensures))
    ∙ repeated_tested (λ r. eight_at s (8 * r)) a.q
