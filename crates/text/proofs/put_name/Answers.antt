use Rattle.text.proofs.Names.{slot_none, slot_more, slot_end}
use lib.ListN.{set}
use mathlib.Core.Path.{ap, ◌∙◌}
use native.Mathlib.Omega.{arith}
use Rattle.text.proofs.put_name.Goals as goal

pub loop-i-init : goal.loop-i-init
loop-i-init c = slot_none c.args.name.now c.args.slot.now

pub loop-i-preserved : goal.loop-i-preserved
loop-i-preserved c = let l = c.loop-i in
    ap (λ v. set l.slot l.i v) c.padded.ensures ∙ slot_more c.args.name.now c.args.slot.now l.slot l.i c.loop-i-test.true l.invariant

pub returns : goal.returns
returns c = slot_end c.args.name.now c.args.slot.now c.loop-i.slot c.loop-i.i (omega (arith, c.loop-i.auto.i-end)) c.loop-i.invariant
