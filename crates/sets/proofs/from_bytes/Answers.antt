use mathlib.Core.Path.{sym, ◌∙◌}
use native.Mathlib.Omega.{arith}
use Rattle.sets.specs.Value.{num}
use Rattle.sets.proofs.SetBytes.{read_all, read_few}
use Rattle.sets.proofs.from_bytes.Goals as goal

pub returns-then-not-has_room : goal.returns-then-not-has_room
returns-then-not-has_room c = read_few _ _ _ (sym c.has_room.ensures ∙ c.if-not-has_room.true) c.empty.ensures

pub returns : goal.returns
unfolding num
returns c =
    read_all c.args.src.now _ c.args.at _ _ (sym c.has_room.ensures ∙ c.if-not-has_room.false) (λ i. omega (arith, c.type_inv.src i)) (omega arith)
    c.copy.ensures c.from_be_bytes.type_inv c.from_be_bytes.ensures
