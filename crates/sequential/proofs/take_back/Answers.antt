use mathlib.Core.Path.{refl, sym, ap, ◌∙◌}
use lib.Seq.{length-take-le}
use Rattle.slots.specs.Tables.{Tables}
use Rattle.slots.specs.Lent.{tables_of}
use Rattle.states.specs.declared.State.{State}
use Rattle.states.specs.Model.{back_number}
use Rattle.states.proofs.Checking.{faulted, back_two, back_wide, back_within}
use Rattle.sequential.proofs.Backing.{back_refused, back_meets}
use Rattle.sequential.proofs.take_back.Goals as goal

pub returns-in-Err-clause-meets : goal.returns-in-Err-clause-meets
returns-in-Err-clause-meets c =
    let a = c.args in
    let e = c.in-Err.ensures ∙ ap (λ (T : Tables). back_number a.state T a.journal.now) (c.view.ensures a.state.used) in
    let t = ap (λ (x : State). tables_of a.tables.now x.used) c.refused.ensures.1 in
    back_refused _ _ _ _ _ _ _ e (faulted _) c.refused.ensures.0 c.refused.ensures.1 t refl

pub slice_bounds-before-end : goal.slice_bounds-before-end
slice_bounds-before-end c = back_within _ _ _ (sym c.in_default.ensures) _ c.one_less-links.ensures

pub slice_bounds-before-end-2 : goal.slice_bounds-before-end-2
slice_bounds-before-end-2 c = sym (length-take-le _ _ (back_within _ _ _ (sym c.in_default.ensures) _ c.one_less-links.ensures))

pub refill-used-requires : goal.refill-used-requires
refill-used-requires c =
    let z = sym c.in_default.ensures in
    (back_within _ _ _ z _ c.one_less-links.ensures, back_wide _ _ _ z, back_two _ _ _ z)

pub returns-clause-meets : goal.returns-clause-meets
returns-clause-meets c =
    let a = c.args in
    let z = sym (c.in_default.ensures ∙ ap (λ (T : Tables). back_number a.state T a.journal.now) (c.view.ensures a.state.used)) in
    back_meets _ _ _ z _ _ _ _ _ _ c.one_less-links.ensures c.rows_of-rows.ensures refl
    c.refill-used.ensures.tables_after c.last_weight-last.ensures c.put.ensures refl refl
