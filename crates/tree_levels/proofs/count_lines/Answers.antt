use Rattle.std.proofs.Common.{◌≡◌, ◌&&◌, eqb, length, ℕ, arith, rules, tests, ◌∙◌}
use Rattle.std.proofs.lemmas.Iterator.{YieldsList-from_range}
use Rattle.std.proofs.lemmas.Iterator.Consumers.{count_from_yields_List, YieldsList-from_filter}
use Rattle.slots.specs.Tables.{root_of}
use Rattle.tree_levels.specs.LevelModel.{starts_at, start_slots}
use Rattle.tree_levels.proofs.LevelSteps.{starts_filtered, starts_few}
use Rattle.tree_levels.proofs.count_lines.Goals as goal

pub returns : goal.returns
returns c =
    let a = c.args in
    let es = c.args.tables.now.entries.now in
    let us = c.args.tables.now.unions.now in
    let p = λ (i : ℕ). eqb (root_of es i) i && starts_at us a.before i in
    let all = YieldsList-from_range 0 a.used a.used c.filter.ensures.source (omega arith) in
    let e : c.count.result ≡ length (start_slots es us a.before a.used) =
    count_from_yields_List c.filter.result _ c.count.ensures.ran (YieldsList-from_filter _ p all c.filter.ensures.closure (λ x b q k. search (rules, tests)))
    ∙ starts_filtered es us a.before a.used in
    (e, omega (arith, e, starts_few es us a.before a.used))
