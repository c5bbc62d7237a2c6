use borrow.Author.Rules.{rules}
use Rattle.sets.specs.Sets.{meet}
use Rattle.sets.specs.Value.{num}
use Rattle.sets.proofs.meet.Goals as goal

pub returns : goal.returns
unfolding meet num
returns c = search rules
