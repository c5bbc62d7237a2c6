use Rattle.sets.proofs.Held.{held}
use Rattle.sets.proofs.OneWord.{and_not}
use Rattle.sets.specs.Sets.{minus}
use Rattle.sets.specs.Value.{width, num}
use Rattle.sets.proofs.minus.Goals as goal

pub returns : goal.returns
unfolding minus num
returns c =
    let a = c.args in
    let g = c.well_formed in
    and_not width (num a.s) (num a.t) (held a.s g.0) (held a.t g.1.0)
