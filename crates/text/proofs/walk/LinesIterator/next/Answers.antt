use native.Mathlib.Omega.{arith}
use lib.Dec.{eqb}
use Rattle.words.proofs.Pieces.{line_end_fits}
use Rattle.text.specs.Walk.{rest}
use Rattle.text.proofs.Rest.{rest_end, rest_next, rest_less}
use Rattle.text.proofs.walk.LinesIterator.next.Goals as goal

pub returns-then-self-clause-steps : goal.returns-then-self-clause-steps
unfolding rest
returns-then-self-clause-steps c = let z = rest_end _ _ c.if-self.true in (z, z)

pub overflow_add-self : goal.overflow_add-self
overflow_add-self c =
    let s = c.args.self.now in
    record { fits = omega (arith, c.line_end-end.ensures, line_end_fits (eqb 10) s.text.now s.at c.if-self.false, c.type_inv.self) }

pub slice_bounds-result-end : goal.slice_bounds-result-end
slice_bounds-result-end c =
    let s = c.args.self.now in
    omega (arith, c.line_end-end.ensures, line_end_fits (eqb 10) s.text.now s.at c.if-self.false)

pub returns-clause-steps : goal.returns-clause-steps
unfolding rest
returns-clause-steps c = rest_next _ _ _ c.if-self.false c.line_end-end.ensures

pub returns-clause-goes : goal.returns-clause-goes
unfolding rest
returns-clause-goes c =
    let e = rest_next _ _ _ c.if-self.false c.line_end-end.ensures in
    record { on = λ _. (tt, tt, rest_less _ _ _ e); keeps = tt; rests = λ _. tt }
