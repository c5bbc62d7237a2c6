-- The levels of a sheet, and the meeting weight of two k-cliques. Assumes nothing.
use Rattle.std.specs.Prelude.{◌≡◌, ◌⊎◌, Bool, true, ℕ, max, ◌≤◌, ltb}
use mathlib.Core.List.{List, [], ◌∷◌, map, foldr}
use Rattle.sets.specs.Lists.{◌∈◌, keep, sorted}
use Rattle.sets.specs.Sets.{has}
use Rattle.percolation.specs.Percolate.{adjacent, Chain, joined}
use Rattle.percolation.specs.Links.{Link, family}

-- the distinct weights, falling
unfoldable pub levels : List Link → List ℕ
unfolding sorted
levels L = sorted (λ v w. ltb w v) (map (λ l. l.weight) L)

-- a and b are joined at the threshold t
unfoldable pub joined_at : List Link → ℕ → ℕ → ℕ → ℕ → ℕ → Bool
unfolding joined family
joined_at L p k t a b = joined k (family L p k t) a b

-- The meeting weight, by the field's name the height at which single linkage merges the two: a weight, or never.
pub data Meeting : Type 0 where
  met : ℕ → Meeting
  never : Meeting

unfoldable pub largest : List ℕ → Meeting
largest [] = never
largest (t ∷ T) = met (foldr max t T)

-- the largest level at which they are joined (`meeting_of_lem`, `never_of` of proofs/Meet.antt: as `MeetsAt` says)
unfoldable pub meeting : List Link → ℕ → ℕ → ℕ → ℕ → Meeting
unfolding keep levels joined_at largest
meeting L p k a b = largest (keep (λ t. joined_at L p k t a b) (levels L))

-- never counts as 0
unfoldable pub weight_of : Meeting → ℕ
weight_of (met w) = w
weight_of never = 0

-- w is the largest threshold from 1 at which a chain joins them
pub record MeetsAt (L : List Link) (p k a b w : ℕ) : Type 0 where
  pub positive : 1 ≤ w
  pub joined : Chain (adjacent k) (family L p k w) a b
  pub top : (t : ℕ) → 1 ≤ t → Chain (adjacent k) (family L p k t) a b → t ≤ w

-- w is the weight of the weakest link inside a
pub record Weakest (L : List Link) (a w : ℕ) : Type 0 where
  pub bond : Link
  pub member : bond ∈ L
  pub lower : has bond.low a ≡ true
  pub higher : has bond.high a ≡ true
  pub weighs : w ≡ bond.weight
  pub least : (m : Link) → m ∈ L → has m.low a ≡ true → has m.high a ≡ true → w ≤ m.weight

-- of three numbers the two lowest are equal
abbrev pub TwoLowest : ℕ → ℕ → ℕ → Type 0
TwoLowest x y z = ((x ≡ y) × (x ≤ z)) ⊎ (((y ≡ z) × (y ≤ x)) ⊎ ((x ≡ z) × (x ≤ y)))
