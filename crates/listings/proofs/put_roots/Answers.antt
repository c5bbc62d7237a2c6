use Rattle.std.proofs.Common.{eqb, ℕ, length, arith, rules, tests}
use Rattle.std.proofs.lemmas.Iterator.{YieldsList-from_range}
use Rattle.std.proofs.lemmas.Iterator.Consumers.{YieldsList-at, YieldsList-from_filter, YieldsList-from_enumerate}
use Rattle.std.proofs.lemmas.List.{length_push}
use Rattle.slots.specs.Tables.{root_of}
use Rattle.sets.proofs.Held.{held}
use Rattle.listings.specs.Model.{listed}
use Rattle.listings.proofs.Listed.{listed_length}
use Rattle.listings.proofs.Places.{listing_length}
use Rattle.listings.proofs.Filling.{filled_none, filled_room, filled_more, filled_end, given_turn, given_end, ends_turn, ends_end}
use Rattle.listings.proofs.put_roots.Goals as goal

pub loop-n-init : goal.loop-n-init
loop-n-init c = filled_none _ _ _ _

pub put-requires : goal.put-requires
put-requires c =
    let a = c.args in
    let T = a.tables in
    let es = T.entries.now in
    let ms = T.smallest.now in
    let us = T.unions.now in
    let t =
    ends_turn es a.used (length c.loop-n.yielded) c.in-Some.n c.in-Some.i
    (given_turn c.loop-n.yielded _ c.loop-n.yielded_by _ _ c.next.ensures.steps (c.in-Some.n, c.in-Some.i) c.in-Some.is
    (YieldsList-at c.into_iter-n-iterator.ensures.into_iter_gives
    (YieldsList-from_enumerate (YieldsList-at c.enumerate-n-items.ensures.source
    (YieldsList-from_filter _ (λ (i : ℕ). eqb (root_of es i) i) (YieldsList-from_range 0 a.used a.used c.filter-ends.ensures.source (omega arith))
    c.filter-ends.ensures.closure (λ x b q k. search (rules, tests)))) c.enumerate-n-items.ensures.count))) in
    let room =
    filled_room ms us _ _ _ _ c.loop-n.invariant t.0
    (omega (arith, c.requires, listing_length (listed es ms us a.used), listed_length es ms us a.used)) in
    omega (arith, room, t.1)

pub loop-n-preserved : goal.loop-n-preserved
loop-n-preserved c =
    let a = c.args in
    let T = a.tables in
    let es = T.entries.now in
    let ms = T.smallest.now in
    let us = T.unions.now in
    let t =
    ends_turn es a.used (length c.loop-n.yielded) c.in-Some.n c.in-Some.i
    (given_turn c.loop-n.yielded _ c.loop-n.yielded_by _ _ c.next.ensures.steps (c.in-Some.n, c.in-Some.i) c.in-Some.is
    (YieldsList-at c.into_iter-n-iterator.ensures.into_iter_gives
    (YieldsList-from_enumerate (YieldsList-at c.enumerate-n-items.ensures.source
    (YieldsList-from_filter _ (λ (i : ℕ). eqb (root_of es i) i) (YieldsList-from_range 0 a.used a.used c.filter-ends.ensures.source (omega arith))
    c.filter-ends.ensures.closure (λ x b q k. search (rules, tests)))) c.enumerate-n-items.ensures.count))) in
    let room =
    filled_room ms us _ _ _ _ c.loop-n.invariant t.0
    (omega (arith, c.requires, listing_length (listed es ms us a.used), listed_length es ms us a.used)) in
    filled_more ms us _ _ _ _ c.loop-n.invariant t.0 c.in-Some.i _ _ _ _ t.2 c.at-small.ensures c.at.ensures (held c.at-small.result c.at-small.type_inv) room
    (rw t.1 at c.put.ensures) c.put.auto.out (length_push c.loop-n.yielded (c.in-Some.n, c.in-Some.i))

pub returns : goal.returns
returns c =
    let a = c.args in
    let T = a.tables in
    let es = T.entries.now in
    filled_end es T.smallest.now T.unions.now _ a.used (length c.loop-n.yielded) _ c.loop-n.invariant
    (ends_end es a.used (length c.loop-n.yielded)
    (given_end c.loop-n.yielded _ c.loop-n.yielded_by _ _ c.next.ensures.steps c.in-None.is
    (YieldsList-at c.into_iter-n-iterator.ensures.into_iter_gives
    (YieldsList-from_enumerate (YieldsList-at c.enumerate-n-items.ensures.source
    (YieldsList-from_filter _ (λ (i : ℕ). eqb (root_of es i) i) (YieldsList-from_range 0 a.used a.used c.filter-ends.ensures.source (omega arith))
    c.filter-ends.ensures.closure (λ x b q k. search (rules, tests)))) c.enumerate-n-items.ensures.count))))
