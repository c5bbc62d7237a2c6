use mathlib.Core.Path.{sym, ap, ◌∙◌}
use mathlib.Core.List.{foldl}
use Prim.Native.Nat.{ℕ, min}
use native.Mathlib.Omega.{arith}
use Rattle.sets.specs.Rest.{left_of}
use Rattle.sets.proofs.Given.{left_lt, given_some, given_lowest, given_out, given_part, none_empty}
use Rattle.products.specs.Products.{times_of}
use Rattle.products.specs.Model.{part_weights}
use Rattle.products.proofs.Peeling.{with_more, with_done}
use Rattle.products.proofs.strength_with.Goals as goal

pub loop-r-init : goal.loop-r-init
loop-r-init c =
    let e = ap left_of c.into_iter-r-iterator.ensures.into_iter_gives ∙ c.parts-r-items.ensures.left in (
      ap (λ (n : ℕ). foldl times_of c.args.s.product (part_weights c.args.weights.now c.args.q n)) e,
      ap (λ (n : ℕ). foldl min c.args.s.weakest (part_weights c.args.weights.now c.args.q n)) e,
    )

pub weight_at-w-requires : goal.weight_at-w-requires
weight_at-w-requires c = (c.requires, (given_part _ _ _ c.in-Some.ensures.steps).0)

pub loop-r-preserved : goal.loop-r-preserved
loop-r-preserved c =
    let l = c.loop-r in
    let h = c.in-Some.ensures.steps in
    let z = given_some _ _ _ h in
    let e = given_lowest _ _ _ h in
    let g = given_out _ _ _ h in
    let w = c.weight_at-w.ensures in (
      with_more _ _ z e (left_lt l.r-iterator) _ g times_of _ _ _ (c.times-product.ensures ∙ ap (times_of l.product) w) ∙ l.invariant.0,
      with_more _ _ z e (left_lt l.r-iterator) _ g min _ _ _ (omega (arith, w)) ∙ l.invariant.1,
    )

pub returns : goal.returns
returns c =
    let l = c.loop-r in
    let z = none_empty _ c.in-None.ensures.steps.0 in
    record { product_value = sym (with_done times_of _ _ _ z) ∙ l.invariant.0; weakest_value = sym (with_done min _ _ _ z) ∙ l.invariant.1 }
