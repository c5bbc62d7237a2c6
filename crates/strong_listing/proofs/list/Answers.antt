use Rattle.std.proofs.Common.{rules}
use mathlib.Core.Path.{◌≡◌, sym, ◌∙◌}
use native.Mathlib.Omega.{arith}
use Rattle.std.specs.Prelude.{Some, None, Err}
use Rattle.answers.specs.declared.fault.Fault.TheVariants.{Slots}
use Rattle.answers.specs.declared.Refusal.{Refusal}
use Rattle.answers.proofs.Laws.{last_stop}
use Rattle.slots.specs.List.{slots_of}
use Rattle.runs.proofs.Calls.{run_refused, run_listing}
use Rattle.strong_listing.proofs.Families.{family_short, family_fits, family_listed, tables_listed}
use Rattle.strong_listing.proofs.list.Goals as goal

pub returns-in_err-ok_or-clause-lists : goal.returns-in_err-ok_or-clause-lists
returns-in_err-ok_or-clause-lists c =
    let refusal : Refusal = record { fault = Slots; place = 0 } in
    let none : c.percolate.result ≡ None = grind arith in
    let err : c.from_residual.result ≡ Err refusal = grind arith in
    let took = rw none at c.percolate.ensures.fits in
    let zero = c.clear.ensures in
    λ p k wide two family plenty. rw err (run_refused _ _ _ c.args.out.now _ (sym (last_stop _ 15 0
    (family_short p k wide two _ family _ c.requires.0 _ plenty _ _ zero.tables_after took
    (c.percolate.ensures.same.lent.entries_length ∙ zero.lent.entries_length) (omega arith)))))

pub returns-clause-lists : goal.returns-clause-lists
returns-clause-lists c =
    let some : c.percolate.result ≡ Some tt = grind arith in
    let took = rw some at c.percolate.ensures.fits in
    let zero = c.clear.ensures in
    let kept = c.percolate.ensures.same.lent.entries_length ∙ zero.lent.entries_length in
    let room = c.percolate.new.slots.fits in
    λ p k wide two family plenty. run_listing _ _ _ c.args.out.now _ _
    (family_fits p k wide two _ family _ c.requires.0 _ plenty _ _ zero.tables_after took kept room)
    (tables_listed {U = slots_of c.percolate.new.slots} (c.view.ensures c.percolate.new.slots.used ∙ (search rules))
    (family_listed p k wide two _ family _ c.requires.0 _ plenty _ _ zero.tables_after took kept room)) c.list_roots.ensures
