use Rattle.text.specs.Walk.{rest}
use Rattle.text.proofs.Pass1.{parts_none, parts_held, parts_stop, parts_more, parts_refused, parts_empty, parts_fine}
use Rattle.std.proofs.lemmas.Result.{err_from_is_err_and}
use mathlib.Core.Path.{refl, ap, ◌∙◌}
use Rattle.text.proofs.read_parts.Goals as goal

pub loop-place-init : goal.loop-place-init
loop-place-init c = parts_none c.args.text.now c.args.names.now _ (ap rest c.into_iter-place-iterator.ensures.into_iter_gives ∙ c.new-place-items.ensures)

pub returns-in_err-p : goal.returns-in_err-p
returns-in_err-p c =
    let l = c.loop-place in
    let i = l.invariant in
    let p = err_from_is_err_and c.from_residual.result c.from_residual.ensures.1 in
    rw (p.1, p.2)
    (parts_refused _ _ _ _
    (parts_stop c.args.text.now c.args.names.now l.names _ l.p _ _ _ _ _ i c.in-Some.ensures.steps
    (c.in_err-p.ensures i.N (parts_held _ _ _ _ _ i) i.count) _ refl))

pub loop-place-preserved : goal.loop-place-preserved
loop-place-preserved c =
    let l = c.loop-place in
    let i = l.invariant in
    parts_more c.args.text.now c.args.names.now l.names _ l.p _ _ _ _ _ i c.in-Some.ensures.steps
    (c.in_ok-p.ensures i.N (parts_held _ _ _ _ _ i) i.count) _ refl c.part_line.auto.names

pub returns-in_err-require : goal.returns-in_err-require
returns-in_err-require c =
    let p = err_from_is_err_and c.from_residual-in_err-require.result c.from_residual-in_err-require.ensures.1 in
    rw (p.1, p.2)
    (parts_empty _ _ _ _ _ c.loop-place.invariant c.in-None.ensures.steps.0 _ c.in_err-require.ensures)

pub returns : goal.returns
returns c = parts_fine _ _ _ _ _ c.loop-place.invariant c.in-None.ensures.steps.0 c.in_ok-require.ensures
