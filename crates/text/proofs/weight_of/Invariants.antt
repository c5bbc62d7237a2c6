use lib.ListN.{drop}
use Prim.Native.Nat.{◌≤◌}
use mathlib.Core.Bool.{cond}
use mathlib.Core.Path.{◌≡◌}
use Rattle.std.specs.Prelude.{Some, None}
use Rattle.text.specs.Reading.{is_weight}
use Rattle.text.proofs.Weights.{weight_from}
use Rattle.text.proofs.weight_of.Given as goal

abbrev pub invariant-loop-b : goal.invariant-loop-b
invariant-loop-b l = (l.value ≤ 65535)
    × (cond (is_weight l.word) (Some (Rattle.text.specs.Reading.value l.word)) None ≡ weight_from l.value (drop l.b-index l.word))
