use mathlib.Core.Logic.{⊎_elim}
use mathlib.Core.Path.{ap, ◌∙◌}
use Prim.Native.Nat.{ℕ, ◌+◌}
use native.Mathlib.Omega.{arith}
use Rattle.std.specs.Prelude.{Some}
use Rattle.tree_lines.proofs.LineFields.{outside, into_read}
use Rattle.tree_lines.proofs.into_at.Goals as goal

pub returns-in_err-start-clause-by_index : goal.returns-in_err-start-clause-by_index
returns-in_err-start-clause-by_index c f u X rest e l low high =
    let a = c.args in
    absurd (⊎_elim (λ z. omega arith) (λ z. omega arith) (outside f u X rest a.lines.now _ a.m e l c.in_err-start.ensures))

pub returns-clause-by_index : goal.returns-clause-by_index
returns-clause-by_index c f u X rest e l low high =
    let a = c.args in
    ap Some (c.four_at.ensures.0 ∙ into_read f u X rest a.lines.now _ a.m e l _ low high (ap (λ (k : ℕ). k + 6) c.in_ok-start.ensures.1))
