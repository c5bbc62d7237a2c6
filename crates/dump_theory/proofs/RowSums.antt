-- How many rows hold two parts, and double counting: the weights of all pairs add up to the pairs of each row. Assumes nothing.
use mathlib.Core.Bool.{true, ◌&&◌, cond}
use mathlib.Core.List.{List, [], ◌∷◌, ◌++◌, map}
use mathlib.Core.Path.{◌≡◌, refl, ap, ◌∙◌}
use Prim.Native.Nat.{ℕ, ◌+◌, ◌≤◌}
use lib.ListN.{length}
use Rattle.sets.specs.Lists.{◌∈◌, keep}
use Rattle.sets.specs.Sets.{has, full, sub}
use Rattle.sets.proofs.Members.{within_lt}
use Rattle.sets.proofs.ListLaws.{map_on}
use Rattle.percolation.specs.Weights.{sum, weight_sum}
use Rattle.made.specs.Made.{pairs, weighed}
use Rattle.made.proofs.Sums.{weighed_sum}
use Rattle.dump_theory.specs.Rows.{together, pairs_in}
use Rattle.dump_theory.proofs.Sums.{count_last, count_most, sum_swap}
use Rattle.dump_theory.proofs.PairCounts.{held_pairs}

-- ---- how many rows hold two parts

pub together_none : (q r : ℕ) → together [] q r ≡ 0
unfolding together
together_none q r = refl

-- one row more
pub together_more : (R : List ℕ) (s q r : ℕ) → together (R ++ (s ∷ [])) q r ≡ together R q r + cond (has q s && has r s) 1 0
unfolding together
together_more R s q r = count_last (λ t. has q t && has r t) R s

pub together_most : (R : List ℕ) (q r : ℕ) → together R q r ≤ length R
unfolding together
together_most R q r = count_most (λ t. has q t && has r t) R

-- ---- the sum of the weights

pub rows_sum : (R : List ℕ) (p : ℕ) → ((s : ℕ) → s ∈ R → sub s (full p) ≡ true)
    → weight_sum (weighed (together R) p) ≡ sum (map pairs_in R)
unfolding together
rows_sum R p within =
    weighed_sum (together R) p
    ∙ sum_swap (λ (e : ℕ × ℕ) (s : ℕ). has e.0 s && has e.1 s) (pairs p) R
    ∙ ap sum (map_on (λ s. length (keep (λ (e : ℕ × ℕ). has e.0 s && has e.1 s) (pairs p))) pairs_in R
    (λ s m. held_pairs s p (within_lt p s (within s m))))
