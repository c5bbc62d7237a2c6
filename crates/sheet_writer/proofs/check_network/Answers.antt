use native.Mathlib.Omega.{arith}
use Rattle.answers.proofs.Laws.{then_go, then_stop}
use Rattle.sheet.specs.Lent.{network_in}
use Rattle.sheet_writer.specs.Writing.{check_network}
use Rattle.sheet_writer.proofs.Shape.{named_alike}
use Rattle.sheet_writer.proofs.check_network.Goals as goal

pub returns-in_err-test : goal.returns-in_err-test
unfolding check_network
returns-in_err-test c = let e = named_alike (network_in c.args.network) in grind (arith, then_go, then_stop)

pub returns : goal.returns
unfolding check_network
returns c = let e = named_alike (network_in c.args.network) in grind (arith, then_go, then_stop)
