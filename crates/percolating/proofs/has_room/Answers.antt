use Rattle.std.proofs.Common.{rules}
use Rattle.std.proofs.lemmas.Iterator.Consumers.{YieldsList-at, YieldsList-from_first, YieldsList-from_filter, count_from_yields_List}
use mathlib.Core.Logic.{inl}
use mathlib.Core.Path.{ap, ap₂, ◌∙◌}
use native.Mathlib.Omega.{arith}
use lib.Dec.{leb}
use lib.ListN.{length}
use Rattle.sets.specs.Rest.{rest}
use Rattle.sets.specs.Sets.{members}
use Rattle.sets.specs.Value.{width, num}
use Rattle.sets.proofs.Held.{held}
use Rattle.percolating.specs.Model.{lacks}
use Rattle.percolating.proofs.Loops.{room_plenty, lacking_tests, same_keep, rest_few}
use Rattle.percolating.proofs.has_room.Goals as goal

pub returns-then-count-free : goal.returns-then-count-free
returns-then-count-free c = room_plenty _ _ _ _ (held c.args.q c.well_formed.1.0) (omega (arith, c.count.ensures, c.free-free.ensures, c.if-count-free.true))

pub count-lacking-requires-clause-fits : goal.count-lacking-requires-clause-fits
count-lacking-requires-clause-fits c = inl (omega (arith, rest_few c.filter.result.iter))

pub returns : goal.returns
returns c =
    let slots = c.args.slots.now in
    let test = lacks slots.tables.now.sets.now slots.used (num c.args.q) in
    ap₂ leb
    (count_from_yields_List c.filter.result c.count-lacking.result c.count-lacking.ensures.ran
    (YieldsList-from_filter _ test
    (YieldsList-at c.filter.ensures.source (YieldsList-from_first (λ x. x) rest (members width (num c.args.q)) c.parts.ensures.gives))
    c.filter.ensures.closure (λ x b f k. search rules))
    ∙ ap length (same_keep test (members width (num c.args.q)) ∙ lacking_tests _ _ _))
    c.free-free.ensures
