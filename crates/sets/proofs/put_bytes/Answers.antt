use mathlib.Core.Path.{sym, ◌∙◌}
use native.Mathlib.Omega.{arith}
use Rattle.sets.specs.Value.{num, set_bytes, set_length}
use Rattle.sets.proofs.SetBytes.{high_first, put_none, put_all}
use Rattle.sets.proofs.put_bytes.Goals as goal

pub returns-then-not-has_room : goal.returns-then-not-has_room
returns-then-not-has_room c = put_none _ _ _ (sym c.has_room.ensures ∙ c.if-not-has_room.true)

pub returns : goal.returns
unfolding num set_bytes
returns c =
    put_all _ _ c.args.at _ c.args.s.word (sym c.has_room.ensures ∙ c.if-not-has_room.false) (omega arith)
    (c.copy.ensures ∙ c.to_be_bytes.ensures ∙ high_first set_length c.args.s.word)
