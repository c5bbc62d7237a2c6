use mathlib.Core.Path.{ap}
use Prim.Native.Nat.{ℕ, ◌*◌}
use native.Mathlib.Nat.{add-sub_cancel_left}
use lib.ListN.{take, drop}
use Rattle.part_names.proofs.NameList.at.Goals as goal

pub returns : goal.returns
returns c =
    let a = c.args in
    ap (λ (k : ℕ). take k (drop (8 * a.q) a.self.bytes.now)) (add-sub_cancel_left (8 * a.q) 8)
