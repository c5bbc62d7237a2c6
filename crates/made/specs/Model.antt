-- Model of the code: the pairs as the numbers of one loop give them; three lists with the link of one pair more, and how many links they then hold. What
-- that means is proved of it (proofs/PairNumbers.antt, Standing.antt, Turns.antt). Assumes nothing.
use Rattle.std.specs.Prelude.{◌≡◌, Bool, true, false, not, cond, ◌&&◌, List, [], ◌∷◌, ◌++◌, map, ℕ, ◌+◌, ◌-◌, ◌/◌, ◌%◌, eqb, ltb, length}
use Rattle.sets.specs.Lists.{keep, from, below}
use Rattle.percolation.specs.Links.{Link}
use Rattle.link_order.specs.Order.{LinkLists, has_room, with_links, sort_links, put_link}

-- ---- pairs by number

-- One loop over the numbers below 64 * 64 takes the pairs of at most 64 parts by lower then higher part: number i stands for i / 64 and i % 64, if these are
-- a pair of parts below p.
abbrev pub pair_at : ℕ → ℕ × ℕ
pair_at i = (i / 64, i % 64)

unfoldable pub is_pair : ℕ → ℕ × ℕ → Bool
is_pair p e = ltb e.0 e.1 && ltb e.1 p

-- the pairs at the numbers below i, and those at the numbers from i on
unfoldable pub pairs_before : ℕ → ℕ → List (ℕ × ℕ)
unfolding keep below is_pair
pairs_before p i = keep (is_pair p) (map pair_at (below i))

unfoldable pub pairs_from : ℕ → ℕ → List (ℕ × ℕ)
unfolding keep from is_pair
pairs_from p i = keep (is_pair p) (map pair_at (from i (4096 - i)))

-- ---- one pair

-- a link of weight 0 is none; where a list has no room for another nothing is written
unfoldable pub pair_lists : Link → LinkLists → ℕ → LinkLists
unfolding put_link
pair_lists x t m = cond (eqb x.weight 0) t (put_link x t m)

unfoldable pub pair_count : Link → LinkLists → ℕ → ℕ
unfolding has_room
pair_count x t m = cond (not (eqb x.weight 0) && has_room t m) (m + 1) m

-- what putting the link x among the first m of the lists t must do: r is the answer, u what is left
pub record PairMeets (x : Link) (t : LinkLists) (m r : ℕ) (u : LinkLists) : Type 0 where
  pub count : r ≡ pair_count x t m
  pub lists : u ≡ pair_lists x t m

-- ---- what a loop over the pairs keeps

-- the links K and that of one pair more, none where its weight is 0
unfoldable pub with_pair : List Link → Link → List Link
with_pair K x = elim (eqb x.weight 0) [ true ↦ K | false ↦ K ++ (x ∷ []) ]

-- the links K stand in order at the start of the lists u, and behind them what stood in t; m is their number
pub record LinksStand (K : List Link) (t u : LinkLists) (m : ℕ) : Type 0 where
  pub lists : u ≡ with_links (sort_links K) t
  pub count : m ≡ length K
