use Rattle.std.proofs.Common.{rules}
use Rattle.words.specs.Lines.{blank}
use Rattle.words.proofs.is_blank.Goals as goal

pub returns-in-32 : goal.returns-in-32
unfolding blank
returns-in-32 c = search rules

pub returns-in_default : goal.returns-in_default
unfolding blank
returns-in_default c = search rules
