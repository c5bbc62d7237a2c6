use Rattle.std.proofs.Common.{◌∙◌, ap, refl, arith, rules, tests}
use Rattle.std.proofs.lemmas.Iterator.{YieldsList-from_range, YieldsList-from_map}
use Rattle.std.proofs.lemmas.Iterator.Consumers.{YieldsList-at, sum_by_from_yields_List, fits_by_from_yields_list}
use Rattle.dump_theory.specs.Rows.{pairs_in}
use Rattle.dump.specs.Dump.{row_of, tripped}
use Rattle.dump.proofs.Added.{added_to, added_by, added_fits}
use Rattle.dump.proofs.Rows.{pairs_few, row_fits}
use Rattle.dump.proofs.pair_sum.Goals as goal

pub sum-requires-clause-fits : goal.sum-requires-clause-fits
sum-requires-clause-fits c =
    let d = c.args.d.now in
    let n = c.row_count.result in
    fits_by_from_yields_list _ _ c.map.result _
    (YieldsList-from_map _ (λ i. pairs_in (row_of d i)) (YieldsList-at c.map.ensures.source (YieldsList-from_range 0 n n refl (omega arith))) c.map.ensures.closure
    (λ x r q k. search (rules, tests)))
    (added_fits pairs_in (row_of d) (λ i. pairs_few _ (row_fits d (λ j. (c.type_inv.d j).fits) i)) n c.row_count.ensures.1)

pub returns : goal.returns
unfolding tripped
returns c =
    let d = c.args.d.now in
    let n = c.row_count.result in
    sum_by_from_yields_List _ _ c.map.result _ c.sum.ensures.ran
    (YieldsList-from_map _ (λ i. pairs_in (row_of d i)) (YieldsList-at c.map.ensures.source (YieldsList-from_range 0 n n refl (omega arith))) c.map.ensures.closure
    (λ x r q k. search (rules, tests)))
    ∙ added_by pairs_in (row_of d) n ∙ ap (added_to pairs_in (row_of d)) c.row_count.ensures.0
