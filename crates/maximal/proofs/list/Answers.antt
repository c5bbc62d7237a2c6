use mathlib.Core.Path.{◌≡◌, sym, ap}
use native.Mathlib.Omega.{arith}
use Rattle.std.specs.Prelude.{Some, None, Err}
use Rattle.answers.specs.declared.fault.Fault.TheVariants.{Slots}
use Rattle.answers.specs.declared.Refusal.{Refusal}
use Rattle.answers.proofs.Laws.{last_stop}
use Rattle.slots.specs.Tables.{Tables}
use Rattle.runs.proofs.Calls.{run_refused, run_listing}
use Rattle.maximal.proofs.Classes.{too_many, all_fit, run_lists}
use Rattle.maximal.proofs.list.Goals as goal

pub returns-in_err-count-clause-lists : goal.returns-in_err-count-clause-lists
returns-in_err-count-clause-lists c =
    let refusal : Refusal = record { fault = Slots; place = 0 } in
    let none : c.take_maximal.result ≡ None = grind arith in
    let err : c.from_residual.result ≡ Err refusal = grind arith in
    let m = rw none at c.take_maximal.ensures.found_after in
    λ L links near. rw err (run_refused _ _ _ c.args.out.now _ (sym (last_stop _ 15 0 (too_many L _ _ _ _ _ _ _ links near c.requires.ranges.0 m (omega arith)))))

pub returns-clause-lists : goal.returns-clause-lists
returns-clause-lists c =
    let a = c.args in
    let q = c.requires in
    let some : c.take_maximal.result ≡ Some c.in_ok-count.count = grind arith in
    let m = rw some at c.take_maximal.ensures.found_after in
    let f = rw some at c.take_maximal.ensures.fits in
    let listed = rw (ap (λ (T : Tables). T.smallest) (c.view.ensures 0), ap (λ (T : Tables). T.unions) (c.view.ensures 0)) at c.list_roots.ensures in
    λ L links near. run_listing _ _ _ a.out.now _ _ (all_fit L _ _ _ _ _ _ _ links near q.ranges.0 m f)
    (run_lists L _ _ _ _ _ _ _ links near q.ranges.0 m f q.ranges.1 _ _ q.in_tables.0 q.in_tables.1 q.in_tables.2 _ _ _ _ c.classes-classes.ensures) listed
