-- Weights added up: sorting keeps the sum, and the links that a weight for each pair gives add up to the weights of all pairs. Assumes nothing.
use mathlib.Core.Path.{◌≡◌, sym, ap, ◌∙◌}
use mathlib.Core.Logic.{◌⊎◌, inl, inr}
use mathlib.Core.Bool.{true, false}
use mathlib.Core.List.{List, [], ◌∷◌, map}
use Prim.Native.Nat.{ℕ, ◌+◌}
use native.Mathlib.Omega.{arith}
use lib.Dec.{eqb}
use borrow.Author.Tests.{eqb-true}
use Rattle.sets.specs.Lists.{insert_by, insert_all}
use Rattle.sets.proofs.Tests.{split}
use Rattle.sets.proofs.Insertion.{insert_between}
use Rattle.percolation.specs.Links.{Link, link}
use Rattle.percolation.specs.Weights.{sum, weight_sum}
use Rattle.percolation.proofs.Sums.{sum_none, sum_first, weight_none, weight_first, weight_append}
use Rattle.link_order.specs.Order.{precedes, sort_links}
use Rattle.made.specs.Made.{pairs, weighed_of, weighed}
use Rattle.made.proofs.Weighed.{weighed_none, weighed_skip, weighed_take}

-- ---- links

insert_sum : (x : Link) (K : List Link) → weight_sum (insert_by precedes x K) ≡ x.weight + weight_sum K
insert_sum x K =
    let b = insert_between precedes x K in
    omega (
      arith,
      ap weight_sum b.new,
      ap weight_sum b.old,
      weight_append b.front (x ∷ b.back),
      weight_append b.front b.back,
      weight_first x b.back,
    )

all_sum : (L K : List Link) → weight_sum (insert_all precedes L K) ≡ weight_sum L + weight_sum K
unfolding insert_all
all_sum L [] = omega (arith, weight_none)
all_sum L (x ∷ K) = omega (arith, all_sum (insert_by precedes x L) K, insert_sum x L, weight_first x K)

-- sorting keeps the sum
pub sort_sum : (K : List Link) → weight_sum (sort_links K) ≡ weight_sum K
unfolding sort_links
sort_sum K = omega (arith, all_sum [] K, weight_none)

-- ---- a weight for each pair

module _ (f : ℕ → ℕ → ℕ) where
  abbrev weight : ℕ × ℕ → ℕ
  weight e = f e.0 e.1

  over : (P : List (ℕ × ℕ)) → weight_sum (weighed_of f P) ≡ sum (map weight P)
  over [] = ap weight_sum (weighed_none f) ∙ weight_none ∙ sym sum_none
  over (e ∷ P) = go (split (eqb (weight e) 0)) (over P)
    where
      go : (eqb (weight e) 0 ≡ true) ⊎ (eqb (weight e) 0 ≡ false) → weight_sum (weighed_of f P) ≡ sum (map weight P)
          → weight_sum (weighed_of f (e ∷ P)) ≡ sum (weight e ∷ map weight P)
      go (inl z) r = omega (arith, ap weight_sum (weighed_skip f e P z), eqb-true (weight e) 0 z, sum_first (weight e) (map weight P))
      go (inr z) r =
          omega (arith, ap weight_sum (weighed_take f e P z), weight_first (link e.0 e.1 (weight e)) (weighed_of f P), sum_first (weight e) (map weight P))

  -- the links add up to the weights of all pairs
  pub weighed_sum : (p : ℕ) → weight_sum (weighed f p) ≡ sum (map (λ (e : ℕ × ℕ). f e.0 e.1) (pairs p))
  unfolding weighed
  weighed_sum p = over (pairs p)
