use mathlib.Core.Path.{sym, ◌∙◌}
use Rattle.sets.proofs.RowNumbers.{number_is}
use Rattle.sets.proofs.Held.{held}
use Rattle.sets.proofs.number_at.Goals as goal

pub returns : goal.returns
returns c =
    let s = c.at in
    c.word.ensures ∙ sym (number_is _ _ _ (sym s.ensures) (held s.result s.type_inv))
