-- Closed values that the checker computes: the pairs of four parts, and as the numbers of a loop give them; a pair of weight 0, links that are to be sorted,
-- the sheet's bytes; lists with and without room for a pair's link. Assumes nothing.
use mathlib.Core.Path.{◌≡◌, refl}
use mathlib.Core.List.{List, [], ◌∷◌}
use Prim.Native.Nat.{ℕ, ◌+◌, ◌-◌}
use Rattle.percolation.specs.Links.{link}
use Rattle.link_order.specs.Order.{link_lists}
use Rattle.percolation.specs.Weights.{weight_sum}
use Rattle.made.specs.Made.{pairs, weighed, made_sheet}
use Rattle.made.specs.Model.{pairs_before, pair_lists, pair_count}

pub pairs_of_four : pairs 4 ≡ (0, 1) ∷ (0, 2) ∷ (0, 3) ∷ (1, 2) ∷ (1, 3) ∷ (2, 3) ∷ []
unfolding pairs
pairs_of_four = refl

-- 66 stands for 1 and 2
pub pairs_by_number : pairs_before 3 67 ≡ (0, 1) ∷ (0, 2) ∷ (1, 2) ∷ []
unfolding pairs_before
pairs_by_number = refl

-- the pair of 0 and 1 has weight 0
pub weighed_three : weighed (λ q r. q + r - 1) 3 ≡ link 0 2 1 ∷ link 1 2 2 ∷ []
unfolding weighed
weighed_three = refl

pub summed_three : weight_sum (weighed (λ q r. q + r - 1) 3) ≡ 3
unfolding weight_sum weighed
summed_three = refl

-- the heavier link first
pub made_two : made_sheet (65 ∷ 32 ∷ 32 ∷ 32 ∷ 32 ∷ 32 ∷ 32 ∷ 32 ∷ []) (link 0 2 1 ∷ link 1 2 258 ∷ [])
    ≡ 80 ∷ 76 ∷ 83 ∷ 0 ∷ 1 ∷ 1 ∷ 0 ∷ 2 ∷ 65 ∷ 32 ∷ 32 ∷ 32 ∷ 32 ∷ 32 ∷ 32 ∷ 32 ∷ 1 ∷ 2 ∷ 1 ∷ 2 ∷ 0 ∷ 2 ∷ 0 ∷ 1 ∷ []
unfolding made_sheet
made_two = refl

abbrev two_lists : ℕ → List ℕ
two_lists a = a ∷ 60 ∷ []

-- weight 0: nothing is written
pub zero_kept_out : pair_lists (link 0 1 0) (link_lists (two_lists 0) (two_lists 2) (two_lists 5)) 1 ≡ link_lists (two_lists 0) (two_lists 2) (two_lists 5)
unfolding pair_lists
zero_kept_out = refl

pub zero_uncounted : pair_count (link 0 1 0) (link_lists (two_lists 0) (two_lists 2) (two_lists 5)) 1 ≡ 1
unfolding pair_count
zero_uncounted = refl

-- heavier than the one there
pub pair_put : pair_lists (link 0 1 7) (link_lists (two_lists 0) (two_lists 2) (two_lists 5)) 1 ≡ link_lists (0 ∷ 0 ∷ []) (1 ∷ 2 ∷ []) (7 ∷ 5 ∷ [])
unfolding pair_lists
pair_put = refl

pub pair_counted : pair_count (link 0 1 7) (link_lists (two_lists 0) (two_lists 2) (two_lists 5)) 1 ≡ 2
unfolding pair_count
pair_counted = refl

pub full_uncounted : pair_count (link 0 1 7) (link_lists (two_lists 0) (two_lists 2) (two_lists 5)) 2 ≡ 2
unfolding pair_count
full_uncounted = refl
