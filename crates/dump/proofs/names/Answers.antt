use mathlib.Core.Path.{refl, ◌∙◌}
use native.Mathlib.Omega.{arith}
use Prim.Native.Nat.{◌+◌, ◌*◌, ◌-◌}
use Rattle.part_names.proofs.Form.{eight_inside, names_same}
use Rattle.dump.specs.Dump.{dump_name_at, dump_name}
use Rattle.dump.proofs.names.Goals as goal

pub returns : goal.returns
returns c =
    let a = c.args in
    c.test.ensures
    ∙ names_same _ (dump_name a.d.now) _ dump_name_at a.p (λ q h. eight_inside a.d.now 8 (8 + 8 * a.p - 8) (8 * q) (omega arith)) (λ q h. refl)
