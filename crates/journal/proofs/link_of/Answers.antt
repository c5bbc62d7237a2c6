use mathlib.Core.Path.{refl}
use Rattle.journal.specs.Model.{entry_link}
use Rattle.journal.proofs.link_of.Goals as goal

pub returns : goal.returns
unfolding entry_link
returns c = refl
