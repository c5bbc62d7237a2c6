use mathlib.Core.Path.{sym, ◌∙◌}
use Rattle.states.proofs.Checking.{state_11, state_12, state_0}
use Rattle.states.proofs.check_state.Goals as goal

pub returns-then-not-level : goal.returns-then-not-level
returns-then-not-level c = state_11 _ c.args.tables (sym c.level.ensures ∙ c.if-not-level.true)

pub returns-then-not-good_state : goal.returns-then-not-good_state
returns-then-not-good_state c =
    state_12 _ c.args.tables (sym c.level.ensures ∙ c.if-not-level.false) (sym c.good_state.ensures ∙ c.if-not-good_state.true)

pub returns : goal.returns
returns c = state_0 _ c.args.tables (sym c.level.ensures ∙ c.if-not-level.false) (sym c.good_state.ensures ∙ c.if-not-good_state.false)
