-- What the round trips speak of: lists as machine words hold them, the network at the start of lent lists, and lists filled with one. Assumes nothing.
use Rattle.std.specs.Prelude.{◌≡◌, List, ℕ, ◌*◌, ◌<◌, length, get_or, take, drop}
use Rattle.sheet.specs.Network.{Network, network}
use Rattle.sheet_writer.specs.Writing.{links_in}

-- every element is a byte
pub record Bytes (s : List ℕ) : Type 0 where
  pub small : (i : ℕ) → get_or s i 0 < 256

-- a network that lists of bytes and of 16-bit weights hold; the part numbers of an accepted network are below its part count
pub record Held (n : Network) : Type 0 where
  pub small : (i : ℕ) → get_or n.names i 0 < 256
  pub short : (j : ℕ) → get_or n.weights j 0 < 65536

-- the first p names and m links of a lent network
abbrev pub front : ℕ → ℕ → Network → Network
front p m n = network (take (8 * p) n.names) (take m n.lower) (take m n.higher) (take m n.weights)

-- l stands in the first k of the list `new`, and the rest is as in `old`
pub record Stands (k : ℕ) (l old new : List ℕ) : Type 0 where
  pub first : take k new ≡ l
  pub rest : drop k new ≡ drop k old

-- so for the four lists of the network n
pub record Filled (n old new : Network) : Type 0 where
  pub names : Stands (length n.names) n.names old.names new.names
  pub lower : Stands (links_in n) n.lower old.lower new.lower
  pub higher : Stands (links_in n) n.higher old.higher new.higher
  pub weights : Stands (links_in n) n.weights old.weights new.weights
