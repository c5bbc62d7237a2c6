use Rattle.std.proofs.Common.{◌≤◌, ◌+◌, ℕ, ◌∙◌, ap, refl, arith, rules, tests}
use Rattle.std.proofs.lemmas.Iterator.{YieldsList-from_range, YieldsList-from_map}
use Rattle.std.proofs.lemmas.Iterator.Consumers.{YieldsList-at, sum_by_from_yields_List, fits_by_from_yields_list}
use Rattle.sheet.specs.Sheet.{link_at, link_of, links_of}
use Rattle.percolation.specs.Links.{Link}
use Rattle.percolation.specs.Weights.{weight_sum}
use Rattle.dump.proofs.Added.{added_to, added_by, added_fits}
use Rattle.dump.proofs.weight_sum.Goals as goal

abbrev weight_of : Link → ℕ
weight_of l = l.weight

pub sum-requires-clause-fits : goal.sum-requires-clause-fits
unfolding link_of
sum-requires-clause-fits c =
    let s = c.args.s.now in
    let n = c.link_count.result in
    let small : (j : ℕ) → weight_of (link_of s j) ≤ 65535 =
    λ j. omega (arith, (c.type_inv.s (link_at s j + 2)).fits, (c.type_inv.s (link_at s j + 2 + 1)).fits) in
    fits_by_from_yields_list _ _ c.map.result _
    (YieldsList-from_map _ (λ j. weight_of (link_of s j)) (YieldsList-at c.map.ensures.source (YieldsList-from_range 0 n n refl (omega arith))) c.map.ensures.closure
    (λ x r q k. search (rules, tests)))
    (added_fits weight_of (link_of s) small n c.link_count.ensures.1)

pub returns : goal.returns
unfolding weight_sum links_of
returns c =
    let s = c.args.s.now in
    let n = c.link_count.result in
    sum_by_from_yields_List _ _ c.map.result _ c.sum.ensures.ran
    (YieldsList-from_map _ (λ j. weight_of (link_of s j)) (YieldsList-at c.map.ensures.source (YieldsList-from_range 0 n n refl (omega arith))) c.map.ensures.closure
    (λ x r q k. search (rules, tests)))
    ∙ added_by weight_of (link_of s) n ∙ ap (added_to weight_of (link_of s)) c.link_count.ensures.0
