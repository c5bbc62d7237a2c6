use mathlib.Core.Path.{◌∙◌}
use Prim.Native.Nat.{◌+◌, ◌-◌}
use native.Mathlib.Omega.{arith}
use Rattle.sets.specs.Value.{bytes}
use Rattle.sets.proofs.SetBytes.{bytes_length, high_first}
use Rattle.records.proofs.Numbers.{sets_placed, put_low}
use Rattle.records.proofs.put.Goals as goal

pub returns : goal.returns
returns g c =
    let a = c.args in
    let n = g.row.N in
    sets_placed a.out.now _ (bytes n a.v) a.k (a.k + n - a.k) (omega (arith, c.requires.1)) (omega (arith, bytes_length n a.v))
    (put_low n a.v c.requires.0 _ _ (c.to_be_bytes-all.ensures ∙ high_first 8 a.v) c.copy.ensures)
