use mathlib.Core.Path.{◌≡◌, sym, ap, ◌∙◌}
use mathlib.Core.List.{List, [], ◌∷◌}
use Prim.Native.Nat.{ℕ, ◌<◌}
use native.Mathlib.Omega.{arith}
use borrow.Author.Tests.{eqb-true}
use lib.ListN.{length}
use Rattle.sets.specs.Rest.{left_of, rest}
use Rattle.sets.specs.Sets.{members}
use Rattle.sets.specs.Value.{width}
use Rattle.sets.proofs.Members.{members_none, members_answer}
use Rattle.sets.proofs.walk.IterIterator.next.Goals as goal

pub returns-then-is_empty-clause-steps : goal.returns-then-is_empty-clause-steps
unfolding rest left_of
returns-then-is_empty-clause-steps c =
    let z : rest c.args.self.now ≡ [] = ap (members width) (eqb-true _ 0 (sym c.is_empty.ensures ∙ c.if-is_empty.true)) ∙ members_none width in
    (z, z)

pub returns-clause-steps : goal.returns-clause-steps
unfolding rest left_of
returns-clause-steps c =
    members_answer width _ _ _ (sym c.is_empty.ensures ∙ c.if-is_empty.false) c.lowest-q.ensures c.args.self.now.fits
    (c.parts.ensures.left ∙ c.without.ensures)

-- an item more is an item to go
shorter : (l m : List ℕ) (q : ℕ) → l ≡ q ∷ m → length m < length l
shorter l m q e = omega (arith, ap length e)

pub returns-clause-goes : goal.returns-clause-goes
unfolding rest left_of
returns-clause-goes c =
    let e =
    members_answer width _ _ _ (sym c.is_empty.ensures ∙ c.if-is_empty.false) c.lowest-q.ensures c.args.self.now.fits
    (c.parts.ensures.left ∙ c.without.ensures) in
    record { on = λ _. (tt, tt, shorter _ _ _ e); keeps = tt; rests = λ _. tt }
