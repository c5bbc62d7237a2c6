-- A clique's product: its link weights multiplied from left to right as 64-bit floats, each product rounded once; the exact whole product, and how near the
-- two are. Assumes nothing.
use Rattle.std.specs.Prelude.{false, ℕ, ◌+◌, ◌-◌, ◌*◌, ◌^◌, ◌≤◌, ◌<◌, pos, Float}
use mathlib.Core.List.{List, [], ◌∷◌, foldl}
use Rattle.std.specs.Float.{binary64}
use Rattle.std.specs.Float.Ieee.{mul, of_int}
use Rattle.std.specs.Float.Ieee.Exact.{HasValue}
use Rattle.sets.specs.Lists.{◌∈◌}

-- a whole number as a float
abbrev pub float_of : ℕ → Float
float_of w = of_int binary64 (pos w)

-- one product, rounded once
abbrev pub times_of : Float → ℕ → Float
times_of v w = mul binary64 v (float_of w)

-- from the first weight on, so that n weights have n - 1 products; of no weight it is 1
unfoldable pub product_of : List ℕ → Float
product_of [] = float_of 1
product_of (w ∷ W) = foldl times_of (float_of w) W

unfoldable pub whole_product : List ℕ → ℕ
whole_product [] = 1
whole_product (w ∷ W) = w * whole_product W

-- weights that a link can have
abbrev pub Weight : ℕ → Type 0
Weight w = (1 ≤ w) × (w ≤ 65535)

abbrev pub Weights : List ℕ → Type 0
Weights W = (w : ℕ) → w ∈ W → Weight w

abbrev pub distance : ℕ → ℕ → ℕ
distance a b = (a - b) + (b - a)

-- v is finite and positive, a whole number in fact, and 2 ^ 53 times its distance from e is at most 6 times e
pub record Near (v : Float) (e : ℕ) : Type 0 where
  pub whole : ℕ
  pub value : HasValue v false whole 1
  pub positive : 0 < whole
  pub near : 2 ^ 53 * distance whole e ≤ 6 * e
