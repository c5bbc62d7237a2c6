use Rattle.std.proofs.Common.{rules, leb, get_or, ◌∙◌, refl, arith}
use Rattle.std.proofs.lemmas.Iterator.{YieldsList-from_range}
use Rattle.std.proofs.lemmas.Iterator.Search.{all_from_yields_List}
use Rattle.joining.proofs.Walk.{steady_counted}
use Rattle.joining.proofs.steady.Goals as goal

pub returns : goal.returns
returns c =
    let a = c.args in
    let es = a.entries.now in
    all_from_yields_List (λ i. leb (get_or es i i) i) _ _ _ c.all.ensures.ran
    (YieldsList-from_range 0 a.used a.used refl (omega arith)) (λ x b q h. search rules)
    ∙ steady_counted es a.used
