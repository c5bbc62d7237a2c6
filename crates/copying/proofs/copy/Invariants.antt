use Rattle.std.proofs.Common.{◌≡◌, ℕ, ◌<◌, get_or, length}
use Rattle.copying.proofs.copy.Given as goal

-- the bytes below i are those of src
abbrev pub invariant-loop-i : goal.invariant-loop-i
invariant-loop-i l = (length l.dst ≡ length l.src) × ((k : ℕ) → k < l.i → get_or l.dst k 0 ≡ get_or l.src k 0)
