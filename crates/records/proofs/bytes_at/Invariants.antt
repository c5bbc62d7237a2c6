use Rattle.std.proofs.Common.{◌≡◌, ℕ, ◌+◌, ◌<◌, length, get_or}
use Rattle.records.proofs.bytes_at.Given as goal

-- The invariant: the bytes below j are there. Assumes nothing.
abbrev pub invariant-loop-j : goal.invariant-loop-j
invariant-loop-j g l = (length l.byte-items ≡ g.row.N) × ((k : ℕ) → k < l.j → get_or l.byte-items k 0 ≡ get_or l.s (l.i + k) 0)
