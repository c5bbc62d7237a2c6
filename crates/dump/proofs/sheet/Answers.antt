use mathlib.Core.Path.{◌≡◌, sym}
use Prim.Native.Nat.{◌+◌, ◌*◌, ◌-◌}
use native.Mathlib.Omega.{arith}
use Rattle.std.proofs.lemmas.Result.{err_from_is_err_and}
use Rattle.sheet_writer.specs.RoundTrip.{Bytes}
use Rattle.dump_theory.proofs.Counted.{counts_none}
use Rattle.dump.proofs.Accepted.{front_length, front_most, dump_front}
use Rattle.dump.proofs.MadeSheets.{make_meets, make_stopped}
use Rattle.dump.proofs.sheet.Goals as goal

pub returns-in_err-check : goal.returns-in_err-check
returns-in_err-check c = let p = err_from_is_err_and c.from_residual.result c.from_residual.ensures.1 in make_stopped _ _ _ p.0 p.1 (grind arith)

pub count_rows-requires : goal.count_rows-requires
count_rows-requires c = counts_none

pub slice_bounds-write_weighed-end : goal.slice_bounds-write_weighed-end
slice_bounds-write_weighed-end c =
    let e = sym c.in_ok-check.ensures in
    omega (arith, front_length _ (dump_front _ e), c.part_count-p.ensures.0)

pub write_weighed-requires : goal.write_weighed-requires
write_weighed-requires c =
    let e = sym c.in_ok-check.ensures in
    (omega (arith, front_most _ (dump_front _ e), c.part_count-p.ensures.0), c.count_rows.ensures.places)

pub returns : goal.returns
returns c =
    let p = c.part_count-p in
    let a = c.args in
    let small : Bytes a.dump.now = record { small = λ i. (c.type_inv.dump i).fits } in
    make_meets a.dump.now (sym c.in_ok-check.ensures) small c.count_rows.new.counts a.out.now _ _ p.result _ c.count_rows.ensures p.ensures.0
    (let l : 8 + 8 * p.result - 8 ≡ 8 * p.result = omega arith in l) c.write_weighed.ensures
