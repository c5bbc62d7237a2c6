-- What the range tests say. Assumes nothing.
use mathlib.Core.Bool.{true}
use mathlib.Core.Path.{◌≡◌}
use Prim.Native.Nat.{ℕ, ◌≤◌}
use borrow.Author.Tests.{leb-true}
use lib.Dec.{leb}
use Rattle.sets.specs.Value.{width}
use Rattle.sets.proofs.Tests.{and_left, and_right}
use Rattle.percolation.specs.Ranges.{in_range, good_count, narrow_count, good_k}

pub range_low : (a b x : ℕ) → in_range a b x ≡ true → a ≤ x
range_low a b x e = leb-true a x (and_left (leb a x) (leb x b) e)

pub range_high : (a b x : ℕ) → in_range a b x ≡ true → x ≤ b
range_high a b x e = leb-true x b (and_right (leb a x) (leb x b) e)

pub good_count_lem : (p : ℕ) → good_count p ≡ true → (1 ≤ p) × (p ≤ width)
unfolding good_count
good_count_lem p e = (range_low 1 width p e, range_high 1 width p e)

pub narrow_count_lem : (p : ℕ) → narrow_count p ≡ true → (1 ≤ p) × (p ≤ 64)
unfolding narrow_count
narrow_count_lem p e = (range_low 1 64 p e, range_high 1 64 p e)

pub good_k_lem : (k : ℕ) → good_k k ≡ true → (2 ≤ k) × (k ≤ 6)
unfolding good_k
good_k_lem k e = (range_low 2 6 k e, range_high 2 6 k e)
