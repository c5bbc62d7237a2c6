use mathlib.Core.Path.{sym, ap, ◌∙◌}
use mathlib.Core.List.{foldl}
use Prim.Native.Nat.{ℕ, min}
use lib.Ieee.{of_bits, of_int}
use Rattle.sets.specs.declared.walk.WithRest.{WithRest}
use Rattle.sets.specs.Rest.{left_of}
use Rattle.sets.proofs.Given.{left_lt, given_some, given_lowest, given_out, given_part, none_empty}
use Rattle.products.specs.Products.{float_of, times_of}
use Rattle.products.specs.Model.{table_weights}
use Rattle.products.proofs.Nearness.{from_one}
use Rattle.products.proofs.Peeling.{pairs_more, pairs_done, weakest_left, first_narrow}
use Rattle.products.proofs.strength_of.Goals as goal

pub loop-q-init : goal.loop-q-init
unfolding of_bits of_int
loop-q-init c =
    let e = ap (λ (i : WithRest). left_of i.parts) c.into_iter-q-iterator.ensures.into_iter_gives ∙ c.parts_with_rest-q-items.ensures.left in (
      ap (λ (n : ℕ). foldl times_of (float_of 1) (table_weights c.args.weights.now n)) e,
      ap (λ (n : ℕ). foldl min 65535 (table_weights c.args.weights.now n)) e,
    )

pub strength_with-strength-requires : goal.strength_with-strength-requires
strength_with-strength-requires c = (given_part _ _ _ c.in-Some.ensures.steps.0).0

pub loop-q-preserved : goal.loop-q-preserved
loop-q-preserved c =
    let l = c.loop-q in
    let h = c.in-Some.ensures.steps in
    let z = given_some _ _ _ h.0 in
    let e = given_lowest _ _ _ h.0 in
    let g = h.1 ∙ given_out _ _ _ h.0 in (
      ap (λ (n : ℕ). foldl times_of c.strength_with-strength.result.product (table_weights c.args.weights.now n)) (sym h.1)
          ∙ pairs_more _ _ z e (left_lt l.q-iterator.parts) _ g times_of _ _ _ c.strength_with-strength.ensures.product_value ∙ l.invariant.0,
      ap (λ (n : ℕ). foldl min c.strength_with-strength.result.weakest (table_weights c.args.weights.now n)) (sym h.1)
          ∙ pairs_more _ _ z e (left_lt l.q-iterator.parts) _ g min _ _ _ c.strength_with-strength.ensures.weakest_value ∙ l.invariant.1,
    )

pub returns : goal.returns
returns c =
    let l = c.loop-q in
    let z = none_empty _ c.in-None.ensures.steps.0 in
    let narrow = first_narrow _ _ (λ i. (c.type_inv.weights i).fits) in
    record {
      product_value = sym (pairs_done times_of _ _ _ z) ∙ l.invariant.0 ∙ from_one _ narrow;
      weakest_value = sym (pairs_done min _ _ _ z) ∙ l.invariant.1 ∙ weakest_left _;
    }
