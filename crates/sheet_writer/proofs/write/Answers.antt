use mathlib.Core.Path.{◌≡◌, sym, ap, ◌∙◌}
use mathlib.Core.List.{◌++◌}
use native.Mathlib.Omega.{arith}
use Prim.Native.Nat.{ℕ}
use lib.ListN.{length, drop}
use Rattle.std.proofs.lemmas.Result.{err_from_is_err_and}
use Rattle.answers.specs.Verdict.{accepted}
use Rattle.answers.proofs.Laws.{then_go, then_stop}
use Rattle.sheet.specs.Lent.{network_in}
use Rattle.sheet_writer.specs.Writing.{sheet_of, check_write}
use Rattle.sheet_writer.proofs.Shape.{sheet_size}
use Rattle.sheet_writer.proofs.Sound.{network_few}
use Rattle.sheet_writer.proofs.Written.{write_refused, write_accepted}
use Rattle.sheet_writer.proofs.write.Goals as goal

pub returns-in_err-check_network : goal.returns-in_err-check_network
unfolding check_write
returns-in_err-check_network c =
    let p = err_from_is_err_and c.from_residual.result c.from_residual.ensures.1 in write_refused _ _ _ p.0 p.1 (grind (arith, then_stop))

pub sheet_length-size-requires : goal.sheet_length-size-requires
sheet_length-size-requires c = let w = network_few (network_in c.args.network) (sym c.in_ok-check_network.ensures) in (omega arith, omega arith)

pub returns-in_err-require : goal.returns-in_err-require
unfolding check_write
returns-in_err-require c =
    let e = sheet_size (network_in c.args.network) in
    let p = err_from_is_err_and c.from_residual-in_err-require.result c.from_residual-in_err-require.ensures.1 in
    write_refused _ _ _ p.0 p.1 (grind (arith, then_go))

pub returns : goal.returns
unfolding check_write
returns c =
    let n = network_in c.args.network in
    let e = sheet_size n in
    let v : check_write n (length c.args.out.now) ≡ accepted = grind (arith, then_go) in
    write_accepted n c.args.out.now _ _ v (c.sheet_length-size.ensures.0 ∙ sym e)
    (c.put_sheet.ensures ∙ ap (λ (k : ℕ). sheet_of n ++ drop k c.args.out.now) (sym e))
