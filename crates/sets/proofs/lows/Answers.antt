use mathlib.Core.Path.{◌≡◌, ap, ap₂, ◌∙◌}
use Prim.Native.Nat.{ℕ, suc}
use native.Mathlib.Omega.{arith}
use Rattle.sets.specs.Rest.{left_of}
use Rattle.sets.specs.Sets.{union, lows}
use Rattle.sets.specs.Value.{width, num}
use Rattle.sets.proofs.Given.{left_lt, none_left, given_some, given_lowest, given_out}
use Rattle.sets.proofs.Laws.{union_comm, union_empty}
use Rattle.sets.proofs.LowParts.{lows_turn, lows_over}
use Rattle.sets.proofs.lows.Goals as goal

pub loop-q-init : goal.loop-q-init
loop-q-init c =
    let i = c.into_iter-q-iterator.ensures.into_iter_gives in
    let t = c.take-q-items.ensures in
    let k = ap (λ x. x.n) i ∙ t.count in
    let r = ap (λ x. left_of x.iter) i ∙ ap left_of t.source ∙ c.parts.ensures.left in
    ap₂ union c.empty-taken.ensures (ap₂ lows k r) ∙ union_comm 0 _ ∙ union_empty _

pub loop-q-preserved : goal.loop-q-preserved
loop-q-preserved c =
    let l = c.loop-q in
    let s = c.in-Some.ensures.steps in
    let i = l.q-iterator.iter in
    let j = c.next.new.self.iter in
    let e : suc c.next.new.self.n ≡ l.q-iterator.n = omega (arith, s.1) in
    lows_turn width c.next.new.self.n (left_of i) (num l.taken) c.in-Some.q (num c.with-taken.result) (left_of j) (left_lt i) (given_some i j _ s.0)
    (given_lowest i j _ s.0) c.with-taken.ensures (given_out i j _ s.0)
    ∙ ap (λ (k : ℕ). union (num l.taken) (lows k (left_of i))) e ∙ l.invariant

pub returns : goal.returns
returns c =
    let i = c.loop-q.q-iterator in
    let s = c.in-None.ensures.steps in
    lows_over i.n (left_of i.iter) _ _ (λ h. none_left i.iter (s h).0) c.loop-q.invariant
