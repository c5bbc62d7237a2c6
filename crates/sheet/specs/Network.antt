-- The network in a sheet: the bytes of its names, and its links as three lists. Assumes nothing.
use Rattle.std.specs.Prelude.{List, map, ℕ, ◌*◌, take, drop}
use Rattle.sheet.specs.Sheet.{parts, head_length, links_of}

-- the names' bytes, and three lists of one length, in link order
pub record Network : Type 0 where
  pub names : List ℕ
  pub lower : List ℕ
  pub higher : List ℕ
  pub weights : List ℕ

abbrev pub network : List ℕ → List ℕ → List ℕ → List ℕ → Network
network a b c d = record { names = a; lower = b; higher = c; weights = d }

-- the network in a sheet
unfoldable pub network_of : List ℕ → Network
unfolding links_of
network_of s =
    network (take (8 * parts s) (drop head_length s))
    (map (λ l. l.low) (links_of s)) (map (λ l. l.high) (links_of s)) (map (λ l. l.weight) (links_of s))
