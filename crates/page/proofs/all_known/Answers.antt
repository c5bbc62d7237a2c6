use Rattle.std.proofs.Common.{rules, tests}
use Rattle.std.proofs.lemmas.Iterator.{YieldsList-from_range}
use Rattle.std.proofs.lemmas.Iterator.Search.{all_from_yields_List}
use mathlib.Core.Path.{refl, ◌∙◌}
use native.Mathlib.Omega.{arith}
use Rattle.page.specs.Page.{known}
use Rattle.page.proofs.Counts.{known_test, all_below}
use Rattle.page.proofs.all_known.Goals as goal

pub returns : goal.returns
returns c =
    let a = c.args in
    all_from_yields_List (known a.p a.lines.now) _ _ c.all.result c.all.ensures.ran (YieldsList-from_range 0 a.n a.n refl (omega arith))
    (λ j b f k. search (rules, tests, known_test))
    ∙ all_below (known a.p a.lines.now) a.n
