use mathlib.Core.Path.{ap}
use Prim.Native.Nat.{ℕ, ◌+◌, ◌*◌}
use native.Mathlib.Omega.{arith}
use Rattle.sets.specs.Value.{num}
use Rattle.listings.proofs.Places.{put_whole}
use Rattle.listings.proofs.put.Goals as goal

pub gap-start-requires : goal.gap-start-requires
gap-start-requires c =
    let a = c.args in
    let e = c.community_length-size.ensures in
    (omega arith, omega (arith, e, ap (λ (k : ℕ). a.n * k) e), omega arith)

pub returns : goal.returns
returns c =
    let a = c.args in
    let g = c.gap-start in
    put_whole a.out.now _ _ _ a.n _ g.result _ (num a.small) (num a.whole)
    c.community_length-size.ensures
    (ap (λ (k : ℕ). g.result + k) c.byte_count.ensures)
    g.ensures
    c.put_bytes.ensures
    c.put_bytes-2.ensures
