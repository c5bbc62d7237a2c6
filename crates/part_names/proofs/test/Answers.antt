use mathlib.Core.Path.{sym}
use Prim.Native.Nat.{◌+◌, ◌*◌}
use Rattle.part_names.specs.Names.{eight_at}
use Rattle.part_names.proofs.Form.{fault_at, fault_none, all_single, first_bad, first_again}
use Rattle.part_names.proofs.test.Goals as goal

pub returns-in-Some : goal.returns-in-Some
returns-in-Some c =
    let a = c.args in
    let b = fault_at _ _ _ _ c.bad_name-bad.ensures c.in-Some.is in
    sym (first_bad (λ q. eight_at a.names.now (8 * q)) (λ q. a.first + a.step * q) a.p _ b.0 b.1 b.2)

pub returns-in-Some-again : goal.returns-in-Some-again
returns-in-Some-again c =
    let a = c.args in
    let b = fault_none _ _ _ c.bad_name-bad.ensures c.in_default.is in
    let r = fault_at _ _ _ _ c.repeated_name-again.ensures c.in-Some-again.is in
    sym (first_again (λ q. eight_at a.names.now (8 * q)) (λ q. a.first + a.step * q) a.p b _ r.0 r.1 r.2)

pub returns : goal.returns
returns c =
    let a = c.args in
    let b = fault_none _ _ _ c.bad_name-bad.ensures c.in_default.is in
    let r = fault_none _ _ _ c.repeated_name-again.ensures c.in_default-again.is in
    sym (all_single (λ q. eight_at a.names.now (8 * q)) (λ q. a.first + a.step * q) a.p b r)
