-- A number below 2 ^ 64 kept in a row that holds no set: it fits a row and is read back, and the other rows keep theirs. Assumes nothing.
use mathlib.Core.Path.{◌≡◌, ap, ◌∙◌}
use mathlib.Core.List.{List}
use Prim.Native.Nat.{ℕ, ◌%◌, ◌^◌, ◌≤◌, ◌<◌}
use native.Mathlib.Nat.{mod-eq_of_lt, mod-lt, lt_of_lt_of_le}
use native.Mathlib.Omega.{arith}
use lib.Pow.{pow_mono, pow_pos}
use Rattle.sets.specs.Value.{width, rows, row, store, number_at}
use Rattle.sets.proofs.Tables.{row_store, row_other}

-- a number below 2 ^ 64 is one that a set can have, and 0 is
pub small_fits : (n : ℕ) → n < 2 ^ 64 → n < 2 ^ width
small_fits n h = lt_of_lt_of_le h (pow_mono (let l : 64 ≤ width = omega arith in l))

pub none_fits : 0 < 2 ^ width
none_fits = pow_pos width

pub number_lt : (xs : List ℕ) (i : ℕ) → number_at xs i < 2 ^ 64
unfolding number_at
number_lt xs i = mod-lt (row xs i) (pow_pos 64)

-- what the row says, where that is such a number
pub number_is : (xs : List ℕ) (i n : ℕ) → row xs i ≡ n → n < 2 ^ 64 → number_at xs i ≡ n
unfolding number_at
number_is xs i n e h = ap (λ (x : ℕ). x % 2 ^ 64) e ∙ mod-eq_of_lt h

-- it goes by the row
pub number_same : (xs ys : List ℕ) (i j : ℕ) → row xs i ≡ row ys j → number_at xs i ≡ number_at ys j
unfolding number_at
number_same xs ys i j e = ap (λ (x : ℕ). x % 2 ^ 64) e

-- what was put is read back, and rows elsewhere keep theirs
pub number_put : (xs : List ℕ) (i n : ℕ) → i < rows xs → n < 2 ^ 64 → number_at (store xs i n) i ≡ n
number_put xs i n l h = number_is (store xs i n) i n (row_store xs i n l (small_fits n h)) h

pub number_other : (xs : List ℕ) (i j n : ℕ) → (j ≡ i → ⊥) → number_at (store xs i n) j ≡ number_at xs j
number_other xs i j n h = number_same (store xs i n) xs j j (row_other xs i j n h)
