use mathlib.Core.Path.{refl, sym, ap, ◌∙◌}
use Rattle.slots.specs.Tables.{Tables}
use Rattle.sequential.specs.Steps.{check_start}
use Rattle.sequential.proofs.Starting.{not_meets, begun_meets}
use Rattle.sequential.proofs.start.Goals as goal

pub returns-in-Err-clause-meets : goal.returns-in-Err-clause-meets
returns-in-Err-clause-meets c =
    let e = sym (c.in-Err.ensures ∙ ap (λ (T : Tables). check_start c.args.p c.args.k T c.args.journal.now) (c.view.ensures 0)) in
    not_meets _ _ _ _ _ _ _ _ _ e c.not_started.ensures.0 c.not_started.ensures.1 refl refl

pub returns-clause-meets : goal.returns-clause-meets
returns-clause-meets c =
    let e = sym (c.in_default.ensures ∙ ap (λ (T : Tables). check_start c.args.p c.args.k T c.args.journal.now) (c.view.ensures 0)) in
    begun_meets _ _ _ _ _ _ _ e refl _ c.no_rows.ensures refl c.clear.ensures.tables_after c.clear-2.ensures
