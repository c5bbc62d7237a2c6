-- The journal of the steps: the links that remain, in order, then zeros. Assumes nothing.
use Rattle.std.specs.Prelude.{Bool, List, ◌++◌, map, ℕ, ◌+◌, ◌-◌, ◌*◌, eqb, length, replicate}
use Rattle.percolation.specs.Links.{Link}

-- one entry for each possible link
abbrev pub journal_length : ℕ
journal_length = 2016

-- a journal has that many entries
abbrev pub whole : List ℕ → Bool
whole J = eqb (length J) journal_length

-- lower × 2^32 + higher × 2^16 + weight
unfoldable pub journal_entry : Link → ℕ
journal_entry l = l.low * 4294967296 + l.high * 65536 + l.weight

-- the journal of the links L
unfoldable pub journal_of : List Link → List ℕ
unfolding journal_entry
journal_of L = map journal_entry L ++ replicate (journal_length - length L) 0
