-- Model of the code: which parts stand together in the slots of a family, and what is added up. What that means is proved of it (proofs/Covering.antt).
-- Assumes nothing.
use Rattle.std.specs.Prelude.{◌≡◌, Bool, cond, ◌&&◌, ◌||◌, List, ℕ, ◌<◌, eqb, length}
use Rattle.sets.specs.Lists.{any, below}
use Rattle.sets.specs.Sets.{has}
use Rattle.sets.specs.Value.{width, rows, row}
use Rattle.percolation.specs.Links.{Link}
use Rattle.percolation.specs.Weights.{weight_sum}
use Rattle.slots.specs.Tables.{root_of}
use Rattle.mean.specs.declared.Tally.{Tally}

-- the rows D are the rows C, with s more in the row of each part of s
pub record Gained (C : List ℕ) (s : ℕ) (D : List ℕ) : Type 0 where
  pub count : rows D ≡ rows C
  pub holds : (q z : ℕ) → q < rows C → has z (row D q) ≡ has z (row C q) || has q s && has z s

-- slot i ends at slot r and its set has both q and z
unfoldable pub stands_together : List ℕ → List ℕ → ℕ → ℕ → ℕ → ℕ → Bool
unfolding root_of has row
stands_together sets es r q z i = eqb (root_of es i) r && (has q (row sets i) && has z (row sets i))

-- row q of C has z exactly when both stand in one of the first n slots that end at r
pub record Covered (sets es : List ℕ) (n r : ℕ) (C : List ℕ) : Type 0 where
  pub count : rows C ≡ width
  pub together : (q z : ℕ) → q < width → has z (row C q) ≡ any (stands_together sets es r q z) (below n)

-- whether a link is counted by such rows: both its ends stand in one slot; for k 2, where a slot has one part and a link is a clique, its lower end does
unfoldable pub counts : ℕ → List ℕ → Link → Bool
unfolding has row
counts k C l = has (cond (eqb k 2) l.low l.high) (row C l.low)

-- a is the sum of the weights of the links K and their number
pub record Adds (a : Tally) (K : List Link) : Type 0 where
  pub sum : a.sum ≡ weight_sum K
  pub links : a.links ≡ length K
