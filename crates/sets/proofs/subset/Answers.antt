use borrow.Author.Rules.{rules}
use Rattle.sets.specs.Sets.{sub, meet}
use Rattle.sets.specs.Value.{num}
use Rattle.sets.proofs.subset.Goals as goal

pub returns : goal.returns
unfolding sub meet num
returns c = search rules
