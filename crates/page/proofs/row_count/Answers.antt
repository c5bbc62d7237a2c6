use Rattle.std.proofs.Common.{rules, tests, arith, ◌∙◌}
use mathlib.Core.Path.{refl}
use Rattle.std.proofs.lemmas.Iterator.{YieldsList-from_range, YieldsList-from_map}
use Rattle.std.proofs.lemmas.Iterator.Consumers.{YieldsList-at, sum_by_from_yields_List, fits_by_from_yields_list}
use Rattle.page.proofs.Counts.{rows_line, rows_few, rows_least, rows_summed, rows_bound}
use Rattle.page.proofs.row_count.Goals as goal

pub sum-requires-clause-fits : goal.sum-requires-clause-fits
sum-requires-clause-fits c =
    let a = c.args in
    fits_by_from_yields_list (rows_few a.lines.now) _ c.map.result _
    (YieldsList-from_map _ (rows_few a.lines.now) (YieldsList-at c.map.ensures.source (YieldsList-from_range 0 a.n a.n refl (omega arith))) c.map.ensures.closure
    (λ x r q k. search (rules, tests, rows_least)))
    (omega (arith, rows_bound a.lines.now a.n, c.requires.1))

pub returns : goal.returns
returns c =
    let a = c.args in
    let road = YieldsList-at c.map.ensures.source (YieldsList-from_range 0 a.n a.n refl (omega arith)) in
    let e =
    sum_by_from_yields_List (rows_line a.lines.now) _ c.map.result _ c.sum.ensures.ran
    (YieldsList-from_map _ (rows_line a.lines.now) road c.map.ensures.closure (λ x r q k. search (rules, tests))) in
    let f =
    sum_by_from_yields_List (rows_few a.lines.now) _ c.map.result _ c.sum.ensures.ran
    (YieldsList-from_map _ (rows_few a.lines.now) road c.map.ensures.closure (λ x r q k. search (rules, tests, rows_least))) in
    (e ∙ rows_summed a.lines.now a.n, omega (arith, f, rows_bound a.lines.now a.n))
