use mathlib.Core.Path.{refl, sym, ap, ◌∙◌, subst⁻¹}
use Prim.Native.Nat.{ℕ}
use Rattle.sets.specs.declared.walk.WithRest.{WithRest}
use Rattle.sets.specs.Rest.{left_of}
use Rattle.sets.proofs.Given.{given_some, given_low, given_out, given_part, none_empty}
use Rattle.row_counts.proofs.Peeling.{RowLeft, row_done, rest_fits, rest_room, row_more}
use Rattle.row_counts.proofs.count_row.Goals as goal

pub loop-q-init : goal.loop-q-init
loop-q-init c =
    let q = c.requires in
    let a = c.args in
    let e = ap (λ (i : WithRest). left_of i.parts) c.into_iter-q-iterator.ensures.into_iter_gives ∙ c.parts_with_rest-q-items.ensures.left ∙ c.from_word.ensures in
    subst⁻¹ (λ (s : ℕ). RowLeft a.counts.now a.row a.counts.now s) e
    (record { left = refl; places = q.0; fits = c.ranges.row.fits; room = q.1 })

pub count_with-requires : goal.count_with-requires
count_with-requires c =
    let l = c.loop-q in
    let h = c.in-Some.ensures.steps in
    let z = given_some _ _ _ h.0 in
    let e = given_low _ _ _ h.0 in
    let g = h.1 ∙ given_out _ _ _ h.0 in
    (l.invariant.places, (given_part _ _ _ h.0).0, rest_fits _ _ _ _ l.invariant _ _ z e g, rest_room _ _ _ _ l.invariant _ _ z e g)

pub loop-q-preserved : goal.loop-q-preserved
loop-q-preserved c =
    let l = c.loop-q in
    let h = c.in-Some.ensures.steps in
    subst⁻¹ (λ (s : ℕ). RowLeft c.args.counts.now c.args.row c.count_with.new.counts s) (sym h.1)
    (row_more _ _ _ _ l.invariant _ _ (given_some _ _ _ h.0) (given_low _ _ _ h.0) (h.1 ∙ given_out _ _ _ h.0) _ c.count_with.ensures)

pub returns : goal.returns
returns c = row_done _ _ _ _ c.loop-q.invariant (none_empty _ c.in-None.ensures.steps.0)
