use Rattle.std.proofs.Common.{rules}
use mathlib.Core.Path.{refl, sym, ap, ◌∙◌}
use native.Mathlib.Omega.{arith}
use Rattle.slots.specs.Tables.{Tables}
use Rattle.slots.specs.Lent.{tables_of}
use Rattle.states.specs.declared.State.{State}
use Rattle.states.specs.Model.{insert_number}
use Rattle.states.proofs.Checking.{faulted, insert_two, insert_room, insert_parts}
use Rattle.checks.specs.Model.{as_link}
use Rattle.sequential.proofs.Inserting.{refused_meets, taken_meets}
use Rattle.sequential.proofs.insert.Goals as goal

pub returns-in-Err-clause-meets : goal.returns-in-Err-clause-meets
returns-in-Err-clause-meets c =
    let a = c.args in
    let e = c.in-Err.ensures ∙ ap (λ (T : Tables). insert_number a.state T a.journal.now (as_link a.link)) (c.view.ensures a.state.used) in
    let t = ap (λ (x : State). tables_of a.tables.now x.used) c.refused.ensures.1 in
    refused_meets _ _ _ _ (omega arith) _ _ _ _ e (faulted _) c.refused.ensures.0 c.refused.ensures.1 t refl

pub invariant_of-slots : goal.invariant_of-slots
invariant_of-slots c =
    let a = c.args in
    let z = sym (c.in_default.ensures ∙ ap (λ (T : Tables). insert_number a.state T a.journal.now (as_link a.link)) (c.view.ensures a.state.used)) in
    record { fits = insert_room _ _ _ _ z }

pub take_link-requires : goal.take_link-requires
take_link-requires c =
    let a = c.args in
    let z = sym (c.in_default.ensures ∙ ap (λ (T : Tables). insert_number a.state T a.journal.now (as_link a.link)) (c.view.ensures a.state.used)) in
    let q = insert_parts _ _ _ _ z in
    (insert_two _ _ _ _ z, q.0, q.1)

pub add-links-requires : goal.add-links-requires
add-links-requires c = insert_parts _ _ _ _ (sym c.in_default.ensures)

pub returns-clause-meets : goal.returns-clause-meets
returns-clause-meets c =
    let a = c.args in
    let z = sym (c.in_default.ensures ∙ ap (λ (T : Tables). insert_number a.state T a.journal.now (as_link a.link)) (c.view.ensures a.state.used)) in
    taken_meets _ _ _ _ (omega arith) z _ _ _ _ _ _ (search rules)
    c.take_link.ensures.slots_after c.take_link.ensures.rows_after c.add-links.ensures.1 c.add-links.ensures.0 c.from-weight.ensures refl refl
