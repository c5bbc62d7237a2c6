-- What a call left of an output that was lent full of dots, and of tables. Assumes nothing.
use Rattle.std.specs.Prelude.{◌≡◌, ℕ, ◌<◌, ◌≤◌, List, length, ◌≢◌, slice_index}

-- the first n bytes are dots, and the byte behind them, where there is one, is none
pub record Dots (out : List ℕ) (n : ℕ) : Type 0 where
  pub within : n ≤ length out
  pub each : (i : ℕ) → i < n → slice_index out i ≡ 46
  pub stops : n < length out → slice_index out n ≢ 46

-- two lists hold the same numbers at the first n places
abbrev pub Alike : List ℕ → List ℕ → ℕ → Type 0
Alike l m n = (i : ℕ) → i < n → slice_index l i ≡ slice_index m i
