use mathlib.Core.Path.{sym}
use Rattle.std.proofs.lemmas.Result.{err_from_is_err_and}
use Rattle.states.proofs.Checking.{state_two, state_room, journal_good, number_stop, number_go}
use Rattle.states.proofs.check_insert.Goals as goal

pub returns-in_err-check_journal : goal.returns-in_err-check_journal
returns-in_err-check_journal c =
    let p = err_from_is_err_and c.from_residual.result c.from_residual.ensures.1 in
    rw (p.1, p.2) (number_stop _ _ _ _ _ c.in_err-check_journal.ensures)

pub check_link-requires : goal.check_link-requires
check_link-requires c = let g = journal_good _ _ _ (sym c.in_ok-check_journal.ensures) in (state_two _ _ g, state_room _ _ g)

pub returns : goal.returns
returns c = number_go _ _ _ _ _ (sym c.in_ok-check_journal.ensures) c.check_link.ensures
