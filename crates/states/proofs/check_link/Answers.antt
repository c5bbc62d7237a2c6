use mathlib.Core.Path.{sym}
use native.Mathlib.Omega.{arith}
use Rattle.std.proofs.lemmas.Result.{err_from_is_err_and}
use Rattle.states.proofs.Checking.{step_stop, step_15, step_0}
use Rattle.states.proofs.check_link.Goals as goal

pub returns-in_err-check_link : goal.returns-in_err-check_link
returns-in_err-check_link c =
    let p = err_from_is_err_and c.from_residual.result c.from_residual.ensures.1 in
    rw (p.1, p.2) (step_stop _ _ _ _ (c.in_err-check_link.ensures))

pub returns-then-room-state : goal.returns-then-room-state
returns-then-room-state c =
    step_15 _ _ _ (sym (c.in_ok-check_link.ensures)) _ c.new_slots-more.ensures
    (omega (arith, c.room.ensures, c.if-room-state.true))

pub returns : goal.returns
returns c =
    step_0 _ _ _ (sym (c.in_ok-check_link.ensures)) _ c.new_slots-more.ensures
    (omega (arith, c.room.ensures, c.if-room-state.false))
