use mathlib.Core.Path.{sym, ◌∙◌}
use native.Mathlib.Nat.{sub-zero}
use native.Mathlib.Omega.{arith}
use borrow.Author.Tests.{eqb-true, eqb-false}
use Rattle.slots.specs.Model.{find}
use Rattle.slots.proofs.Finding.{find_hit, find_miss, find_end}
use Rattle.slots.proofs.find.Goals as goal

pub loop-slot-init : goal.loop-slot-init
unfolding find
loop-slot-init c = rw sub-zero

pub returns-then-same : goal.returns-then-same
returns-then-same c =
    let l = c.loop-slot in
    (sym (l.invariant ∙ find_hit _ _ _ l.slot (omega arith) (sym c.at.ensures ∙ eqb-true _ _ (sym c.same.ensures ∙ c.if-same.true))), omega arith)

pub loop-slot-preserved : goal.loop-slot-preserved
loop-slot-preserved c =
    let l = c.loop-slot in
    l.invariant ∙ find_miss _ _ _ _ l.slot (omega arith) (λ e. eqb-false _ _ (sym c.same.ensures ∙ c.if-same.false) (c.at.ensures ∙ e))

pub returns : goal.returns
returns c = c.loop-slot.invariant ∙ find_end _ _ _ _ (omega arith) ∙ omega arith
