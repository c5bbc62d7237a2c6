use mathlib.Core.Path.{ap}
use Prim.Native.Nat.{ℕ, ◌+◌}
use lib.ListN.{get_or, set}
use Rattle.dump_theory.specs.Model.{raised}
use Rattle.row_counts.proofs.raise.Goals as goal

pub returns : goal.returns
unfolding raised
returns c =
    let l = c.args.counts.now in ap (λ (n : ℕ). set l n (get_or l n 0 + 1)) c.number.ensures.0
