use Rattle.text.proofs.Names.{name_then, name_else}
use Rattle.std.proofs.lemmas.Bool.Decides.{nat_tests}
use lib.ListN.{length}
use mathlib.Core.Logic.{◌⊎◌}
use mathlib.Core.Path.{◌∙◌}
use Prim.Native.Nat.{◌<◌, ◌≤◌}
use native.Mathlib.Omega.{arith}
use Rattle.text.proofs.is_name.Goals as goal

pub returns-then-contains : goal.returns-then-contains
returns-then-contains c =
    let low : 1 ≤ length c.args.name.now = grind (arith, nat_tests) in
    let high : length c.args.name.now ≤ 8 = grind (arith, nat_tests) in
    name_then _ _ low high c.all_visible.ensures

pub returns-else-contains : goal.returns-else-contains
returns-else-contains c =
    let out : (8 < length c.args.name.now) ⊎ (length c.args.name.now < 1) = grind (arith, nat_tests) in
    c.if-contains.false ∙ name_else c.args.name.now out
