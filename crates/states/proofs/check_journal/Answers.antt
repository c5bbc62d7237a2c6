use mathlib.Core.Path.{sym, ◌∙◌}
use Rattle.std.proofs.lemmas.Result.{err_from_is_err_and}
use Rattle.states.proofs.Checking.{journal_stop, journal_20, journal_0}
use Rattle.states.proofs.check_journal.Goals as goal

pub returns-in_err-check_state : goal.returns-in_err-check_state
returns-in_err-check_state c =
    let p = err_from_is_err_and c.from_residual.result c.from_residual.ensures.1 in
    rw (p.1, p.2) (journal_stop _ _ _ _ c.in_err-check_state.ensures)

pub returns-then-not-whole : goal.returns-then-not-whole
returns-then-not-whole c = journal_20 _ _ _ (sym c.in_ok-check_state.ensures) (sym c.whole.ensures ∙ c.if-not-whole.true)

pub returns : goal.returns
returns c = journal_0 _ _ _ (sym c.in_ok-check_state.ensures) (sym c.whole.ensures ∙ c.if-not-whole.false)
