-- The products of the k-cliques of legal links, k from 2 to 4; and a table of weights by pair that has the weights of the links. Assumes nothing.
use mathlib.Core.Path.{◌≡◌, ap, ◌∙◌}
use mathlib.Core.Bool.{true}
use mathlib.Core.List.{List, map}
use Prim.Native.Nat.{ℕ, ◌≤◌, ◌<◌}
use native.Mathlib.Omega.{arith}
use lib.Dec.{ltb}
use Rattle.sets.specs.Lists.{◌∈◌}
use Rattle.sets.specs.Sets.{members, sets_of}
use Rattle.sets.specs.Value.{width}
use Rattle.sets.proofs.ListLaws.{number_order, rising_same, map_on}
use Rattle.sets.proofs.Members.{member_in, in_member, members_rising}
use Rattle.percolation.specs.Links.{Link, cliques, listing}
use Rattle.percolation.specs.Steps.{legal}
use Rattle.percolation.specs.Strength.{weight_between, each_pair, pairs_of, weights_in, by_weakest, strong_listing}
use Rattle.percolation.proofs.Accepted.{legal_positive}
use Rattle.percolation.proofs.Families.{cliques_of, clique_at, in_sets, sets_part}
use Rattle.percolation.proofs.Strength.{pair_of, weights_of, weights_few, weakest_listing}
use Rattle.products.specs.Products.{product_of, whole_product, Near}
use Rattle.products.specs.Measures.{strong_enough, strong_with, reaches}
use Rattle.products.specs.Model.{pair_weight, table_weights}
use Rattle.products.specs.declared.Measure.{Measure}
use Rattle.products.specs.declared.Measure.TheVariants.{Weakest}
use Rattle.products.proofs.Nearness.{product_near}

-- the float product of a clique is near to the whole product of its weights
pub clique_near : (L : List Link) (p k s : ℕ) → legal p L ≡ true → ((l : Link) → l ∈ L → l.weight ≤ 65535) → 2 ≤ k → k ≤ 4 → s ∈ cliques L p k
    → Near (product_of (weights_in L p s)) (whole_product (weights_in L p s))
clique_near L p k s ok narrow two four m =
    let c = cliques_of L p k m in
    let few = weights_few L p s (in_sets p s c.fits) (omega (arith, c.sized)) (omega (arith, c.sized)) in
    let each = clique_at L p s (λ q r h g a b. c.each q r (λ e. omega arith) a b) in
    product_near (weights_in L p s) few.0 few.1 (λ w i.
    let l = weights_of L p s w each i in
    (omega (arith, l.2, legal_positive p L ok l.0 l.1), omega (arith, l.2, narrow l.0 l.1)))

-- a set of parts below p has the same members below any higher number
members_wide : (p w s : ℕ) → p ≤ w → s ∈ sets_of p → members w s ≡ members p s
members_wide p w s h i =
    rising_same ltb number_order (members w s) (members p s) (members_rising w s) (members_rising p s)
    (λ q m. let a = in_member w s q m in member_in p s q (sets_part p s i q a.1) a.1)
    (λ q m. let a = in_member p s q m in member_in w s q (omega (arith, a.0)) a.1)

-- where the table has the weight of each pair, it gives the weights of each set
pub table_weights_lem : (L : List Link) (T : List ℕ) (p s : ℕ) → p ≤ width → s ∈ sets_of p
    → ((q r : ℕ) → q < r → r < p → pair_weight T q r ≡ weight_between L q r) → table_weights T s ≡ weights_in L p s
unfolding table_weights weights_in pairs_of
table_weights_lem L T p s h i same =
    ap (λ (l : List ℕ). map (λ e. pair_weight T e.0 e.1) (each_pair l)) (members_wide p width s h i)
    ∙ map_on (λ e. pair_weight T e.0 e.1) (λ e. weight_between L e.0 e.1) (each_pair (members p s))
    (λ e m. let f = pair_of p s e.0 e.1 m in same e.0 e.1 f.0 f.1)

-- so that the table tells whether a set reaches a measure's threshold
pub table_reaches : (L : List Link) (T : List ℕ) (p s : ℕ) (M : Measure) → p ≤ width → s ∈ sets_of p
    → ((q r : ℕ) → q < r → r < p → pair_weight T q r ≡ weight_between L q r)
    → strong_with M (table_weights T s) ≡ reaches L p M s
unfolding reaches
table_reaches L T p s M h i same = ap (strong_with M) (table_weights_lem L T p s h i same)

-- by the weakest link at t the listing is the listing at t
pub weakest_same : (L : List Link) (p k t : ℕ) → legal p L ≡ true → t ≤ 65535 → strong_listing L p k (reaches L p (Weakest t)) ≡ listing L p k t
unfolding reaches strong_with strong_enough by_weakest
weakest_same L p k t ok narrow = weakest_listing L p k t ok narrow
