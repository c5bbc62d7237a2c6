-- Model of the code: a table of counts, at q * 64 + r for each two parts q < r below 64, with one row of a dump counted in. What the counts are is
-- proved of it (proofs/Counting.antt, proofs/Counted.antt). Assumes nothing.
use Rattle.std.specs.Prelude.{◌≡◌, true, List, [], ◌∷◌, ℕ, ◌+◌, ◌*◌, ◌<◌, length, get_or, set}
use Rattle.sets.specs.Sets.{has, members}
use Rattle.dump_theory.specs.Rows.{together}

-- one more at the pair of q and r
unfoldable pub raised : List ℕ → ℕ → ℕ → List ℕ
raised C q r = set C (q * 64 + r) (get_or C (q * 64 + r) 0 + 1)

-- at the pairs of q and each of a list
unfoldable pub raised_all : List ℕ → ℕ → List ℕ → List ℕ
unfolding raised
raised_all C q [] = C
raised_all C q (r ∷ l) = raised_all (raised C q r) q l

-- at the pairs of each of a list and each after it
unfoldable pub raised_pairs : List ℕ → List ℕ → List ℕ
unfolding raised_all
raised_pairs C [] = C
raised_pairs C (q ∷ l) = raised_pairs (raised_all C q l) l

-- the pairs of q and each part of t, and the pairs of parts of s
unfoldable pub counted_with : List ℕ → ℕ → ℕ → List ℕ
unfolding raised_all members
counted_with C q t = raised_all C q (members 64 t)

unfoldable pub counted : List ℕ → ℕ → List ℕ
unfolding raised_pairs members
counted C s = raised_pairs C (members 64 s)

-- the table counts the rows R
pub record Counts (R C : List ℕ) : Type 0 where
  pub places : length C ≡ 4096
  pub counts : (q r : ℕ) → q < r → r < 64 → get_or C (q * 64 + r) 0 ≡ together R q r

-- the counts of q and each part of t, and those of each two parts of s, are below n
abbrev pub RoomWith : ℕ → List ℕ → ℕ → ℕ → Type 0
RoomWith n C q t = (r : ℕ) → has r t ≡ true → get_or C (q * 64 + r) 0 < n

abbrev pub Room : ℕ → List ℕ → ℕ → Type 0
Room n C s = (q r : ℕ) → q < r → has q s ≡ true → has r s ≡ true → get_or C (q * 64 + r) 0 < n
