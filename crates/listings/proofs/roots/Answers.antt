use Rattle.std.proofs.Common.{eqb, ℕ, arith, rules, tests, length, ap, ◌∙◌}
use Rattle.std.proofs.lemmas.Iterator.{YieldsList-from_range}
use Rattle.std.proofs.lemmas.Iterator.Consumers.{count_from_yields_List, YieldsList-from_filter}
use Rattle.slots.specs.Tables.{root_of}
use Rattle.listings.proofs.Listed.{roots_filtered}
use Rattle.listings.proofs.roots.Goals as goal

pub returns : goal.returns
returns c =
    let es = c.args.entries.now in
    let p = λ (i : ℕ). eqb (root_of es i) i in
    let all = YieldsList-from_range 0 c.args.used c.args.used c.filter.ensures.source (omega arith) in
    count_from_yields_List c.filter.result _ c.count.ensures.ran (YieldsList-from_filter _ p all c.filter.ensures.closure (λ x b q k. search (rules, tests)))
    ∙ ap length (roots_filtered es c.args.used)
