use mathlib.Core.Path.{refl, sym}
use Rattle.std.proofs.lemmas.Result.{err_from_is_err_and}
use Rattle.states.proofs.Checking.{faulted}
use Rattle.sequential.proofs.NowListed.{unlisted_meets, listed_meets}
use Rattle.sequential.proofs.listing_now.Goals as goal

pub returns-in_err-check_state : goal.returns-in_err-check_state
returns-in_err-check_state c =
    let p = err_from_is_err_and c.from_residual.result c.from_residual.ensures.1 in
    rw (p.1, p.2) (unlisted_meets _ _ _ _ _ _ c.in_err-check_state.ensures (faulted _) refl refl)

pub returns : goal.returns
returns c = listed_meets _ _ _ _ _ (sym c.in_ok-check_state.ensures) c.list_roots.ensures
