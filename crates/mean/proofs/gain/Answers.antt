use mathlib.Core.Path.{ap, ◌∙◌, subst⁻¹}
use Prim.Native.Nat.{ℕ}
use Rattle.sets.specs.Sets.{union}
use Rattle.sets.specs.Value.{num}
use Rattle.sets.specs.Rest.{left_of}
use Rattle.sets.proofs.Held.{held}
use Rattle.sets.proofs.Given.{given_some, given_lowest, given_out, none_empty}
use Rattle.mean.proofs.Gaining.{Gaining, gaining_begin, gaining_next, gaining_end}
use Rattle.mean.proofs.gain.Goals as goal

pub loop-q-init : goal.loop-q-init
loop-q-init c =
    subst⁻¹ (λ (n : ℕ). Gaining c.args.covered.now (num c.args.s) n c.args.covered.now)
    (ap left_of c.into_iter-q-iterator.ensures.into_iter_gives ∙ c.parts-q-items.ensures.left) (gaining_begin _ _)

pub loop-q-preserved : goal.loop-q-preserved
loop-q-preserved c =
    let u = c.union-row in
    let h = c.in-Some.ensures.steps in
    gaining_next _ _ _ _ (given_some _ _ _ h) c.loop-q.invariant _ _ _ _ (given_lowest _ _ _ h) (held u.result u.type_inv)
    (u.ensures ∙ ap (λ (x : ℕ). union x (num c.args.s)) c.at.ensures) c.put.ensures (given_out _ _ _ h)

pub shape_of-covered : goal.shape_of-covered
shape_of-covered c = c.loop-q.invariant.long

pub returns : goal.returns
returns c = gaining_end _ _ _ _ (none_empty _ c.in-None.ensures.steps.0) c.loop-q.invariant
