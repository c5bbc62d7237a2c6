use borrow.Author.Rules.{rules}
use Rattle.sets.specs.Value.{num}
use Rattle.sets.proofs.is_empty.Goals as goal

pub returns : goal.returns
unfolding num
returns c = search rules
