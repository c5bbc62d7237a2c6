use mathlib.Core.Path.{◌≡◌, ◌∙◌}
use borrow.Author.Rules.{rules}
use lib.ListN.{get_or}
use Rattle.sets.specs.Value.{num}
use Rattle.sets.proofs.Tables.{row_word}
use Rattle.sets.proofs.at.Goals as goal

pub returns : goal.returns
unfolding num
returns c = let e : c.unwrap_or.result ≡ get_or c.args.table.now c.args.i 0 = search rules in e ∙ row_word _ _
