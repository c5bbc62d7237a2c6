use native.Mathlib.Omega.{arith}
use mathlib.Core.Path.{sym, subst, ◌∙◌}
use mathlib.Core.List.{List}
use Prim.Native.Nat.{ℕ}
use Rattle.std.proofs.Common.{Option}
use Rattle.sets.specs.Value.{num}
use Rattle.slots.specs.List.{Finds}
use Rattle.slots.proofs.Cases.{placed_old, placed_full, placed_new}
use Rattle.slots.proofs.place.Goals as goal

-- what find says, once it is known what it gave
abbrev Found : List ℕ → ℕ → ℕ → Option ℕ → Type 0
Found S n s r = Finds r S n s

pub returns-in-Some-clause-tables_after : goal.returns-in-Some-clause-tables_after
returns-in-Some-clause-tables_after c =
    let h = subst (Found c.args.tables.now.sets.now c.args.used (num c.args.s)) c.in-Some.is c.requires in
    sym (placed_old _ _ _ (omega (arith, h.0, h.1)))

pub returns-then-room-used-clause-tables_after : goal.returns-then-room-used-clause-tables_after
returns-then-room-used-clause-tables_after c =
    let h = subst (Found c.args.tables.now.sets.now c.args.used (num c.args.s)) c.in_default.is c.requires in
    sym (placed_full _ _ _ (omega (arith, h)) (omega arith))

pub returns-clause-tables_after : goal.returns-clause-tables_after
returns-clause-tables_after c =
    let h = subst (Found c.args.tables.now.sets.now c.args.used (num c.args.s)) c.in_default.is c.requires in
    c.append.ensures.tables_after ∙ sym (placed_new _ _ _ (omega (arith, h)) (omega arith))
