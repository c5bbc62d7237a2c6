use Rattle.text.proofs.LinkLaws.{take_9, take_16, take_fine}
use Rattle.std.specs.Prelude.{Err}
use Rattle.answers.specs.declared.fault.Fault.TheVariants.{Space}
use Rattle.sets.specs.Sets.{has}
use Rattle.sets.specs.Value.{row}
use Rattle.link_order.specs.Order.{has_room}
use Rattle.link_order.specs.Lent.{link_lists_of}
use Rattle.text.proofs.PartLaws.{refusal}
use mathlib.Core.Bool.{true, false}
use mathlib.Core.Path.{◌≡◌}
use Prim.Native.Nat.{◌+◌}
use native.Mathlib.Omega.{arith}
use Rattle.text.proofs.take_link.Goals as goal

pub returns-then-has-clause-taken : goal.returns-then-has-clause-taken
returns-then-has-clause-taken c = take_9 _ _ _ _ _ _ _ (grind arith)

pub returns-in_err-n-clause-taken : goal.returns-in_err-n-clause-taken
returns-in_err-n-clause-taken c = let a = c.args in
    let other : has a.link.high (row a.seen.now a.link.low) ≡ false = grind arith in
    let full : has_room (link_lists_of a.links.now) a.m ≡ false = grind arith in
    let err : c.from_residual.result ≡ Err (refusal Space 0) = grind arith in
    rw err (take_16 _ _ _ _ _ _ _ other full)

pub returns-clause-taken : goal.returns-clause-taken
returns-clause-taken c = let a = c.args in
    let other : has a.link.high (row a.seen.now a.link.low) ≡ false = grind arith in
    let room : has_room (link_lists_of a.links.now) a.m ≡ true = grind arith in
    let count : c.in_ok-n.n ≡ a.m + 1 = grind arith in
    rw count (take_fine _ _ _ _ _ _ _ other room c.put.ensures.links_after (grind arith))
