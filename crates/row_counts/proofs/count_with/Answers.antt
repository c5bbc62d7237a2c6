use mathlib.Core.Path.{refl, ap, ◌∙◌, subst⁻¹}
use Prim.Native.Nat.{ℕ}
use Rattle.sets.specs.Rest.{left_of}
use Rattle.sets.specs.Value.{num}
use Rattle.sets.proofs.Given.{given_some, given_low, given_out, given_part, none_empty}
use Rattle.row_counts.proofs.Peeling.{WithLeft, with_done, with_room, with_more}
use Rattle.row_counts.proofs.count_with.Goals as goal

pub loop-r-init : goal.loop-r-init
loop-r-init c =
    let q = c.requires in
    let a = c.args in
    subst⁻¹ (λ (s : ℕ). WithLeft a.counts.now a.q (num a.t) a.counts.now s)
    (ap left_of c.into_iter-r-iterator.ensures.into_iter_gives ∙ c.parts-r-items.ensures.left)
    (record { left = refl; places = q.0; fits = q.2; room = q.3 })

pub raise-requires : goal.raise-requires
raise-requires c =
    let l = c.loop-r in
    let h = c.in-Some.ensures.steps in
    (l.invariant.places, c.requires.1, (given_part _ _ _ h).0, with_room _ _ _ _ _ l.invariant _ (given_some _ _ _ h) (given_low _ _ _ h))

pub loop-r-preserved : goal.loop-r-preserved
loop-r-preserved c =
    let l = c.loop-r in
    let h = c.in-Some.ensures.steps in
    with_more _ _ _ _ _ l.invariant _ (given_some _ _ _ h) (given_low _ _ _ h) _ _ c.raise.ensures (given_out _ _ _ h)

pub returns : goal.returns
returns c = with_done _ _ _ _ _ c.loop-r.invariant (none_empty _ c.in-None.ensures.steps.0)
