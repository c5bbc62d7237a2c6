use mathlib.Core.Path.{sym, ◌∙◌}
use Rattle.percolating.proofs.Fitting.{took_full, took_fits}
use Rattle.percolating.proofs.take_fitting.Goals as goal

pub returns-then-not-may_take-clause-fits : goal.returns-then-not-may_take-clause-fits
returns-then-not-may_take-clause-fits c = took_full _ _ _ c.args.slots.now.fits (sym c.may_take.ensures ∙ c.if-not-may_take.true)

pub returns-clause-fits : goal.returns-clause-fits
returns-clause-fits c =
    c.take_in.ensures.slots_after ∙ took_fits _ _ _ c.args.slots.now.fits (sym c.may_take.ensures ∙ c.if-not-may_take.false)
