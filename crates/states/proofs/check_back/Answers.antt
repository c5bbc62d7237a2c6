use mathlib.Core.Path.{sym}
use Rattle.std.proofs.lemmas.Result.{err_from_is_err_and}
use Rattle.states.proofs.Checking.{back_stop, back_19, back_0}
use Rattle.states.proofs.check_back.Goals as goal

pub returns-in_err-check_journal : goal.returns-in_err-check_journal
returns-in_err-check_journal c =
    let p = err_from_is_err_and c.from_residual.result c.from_residual.ensures.1 in
    rw (p.1, p.2) (back_stop _ _ _ _ c.in_err-check_journal.ensures)

pub returns-then-state-eq0 : goal.returns-then-state-eq0
returns-then-state-eq0 c = back_19 _ _ _ (sym c.in_ok-check_journal.ensures) c.if-state-eq0.true

pub returns : goal.returns
returns c = back_0 _ _ _ (sym c.in_ok-check_journal.ensures) c.if-state-eq0.false
