use borrow.Author.Rules.{rules}
use Rattle.sets.specs.Sets.{union}
use Rattle.sets.specs.Value.{num}
use Rattle.sets.proofs.union.Goals as goal

pub returns : goal.returns
unfolding union num
returns c = search rules
