use mathlib.Core.Path.{◌≡◌, ap}
use Prim.Native.Nat.{◌*◌}
use native.Mathlib.Omega.{arith}
use lib.Dec.{eqb}
use lib.ListN.{length}
use Rattle.sets.specs.Value.{set_words, sized}
use Rattle.sets.proofs.sized.Goals as goal

pub returns : goal.returns
unfolding sized
returns c =
    let a = c.args in
    ap (eqb (length a.table.now)) (let e : a.n ≡ a.n * set_words = omega arith in e)
