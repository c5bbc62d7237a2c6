use Rattle.states.proofs.Checking.{bad_k, bad_count, bad_used, good_used}
use native.Mathlib.Omega.{arith}
use mathlib.Core.Path.{sym, ◌∙◌}
use Rattle.states.proofs.good_state.Goals as goal

pub returns-then-not-good_k : goal.returns-then-not-good_k
returns-then-not-good_k c = bad_k _ _ (sym c.good_k.ensures ∙ c.if-not-good_k.true)

pub returns-then-not-good_count : goal.returns-then-not-good_count
returns-then-not-good_count c = bad_count _ _ (sym c.good_k.ensures ∙ c.if-not-good_k.false) (sym c.good_count.ensures ∙ c.if-not-good_count.true)

pub returns-then-room-state : goal.returns-then-room-state
returns-then-room-state c =
    bad_used _ _ (sym c.good_k.ensures ∙ c.if-not-good_k.false) (sym c.good_count.ensures ∙ c.if-not-good_count.false)
    (omega (arith, c.room.ensures, c.if-room-state.true))

pub returns : goal.returns
returns c =
    good_used _ _ (sym c.good_k.ensures ∙ c.if-not-good_k.false) (sym c.good_count.ensures ∙ c.if-not-good_count.false) _
    (omega (arith, c.room.ensures, c.if-room-state.false)) c.steady.ensures
