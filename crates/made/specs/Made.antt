-- A sheet made from names and a weight for each pair of parts: the pairs in order, the links that they get, the network and its sheet. Assumes nothing.
use Rattle.std.specs.Prelude.{◌≡◌, Bool, true, not, ◌&&◌, ◌||◌, ℕ, ◌+◌, ◌*◌, ◌≤◌, ◌<◌, eqb, ltb, length, get_or}
use mathlib.Core.List.{List, [], ◌∷◌, map, flatten}
use Rattle.answers.specs.Verdict.{accepted}
use Rattle.sets.specs.Lists.{◌∈◌, keep, each_two, below}
use Rattle.percolation.specs.Links.{Link, link, joins}
use Rattle.percolation.specs.Ranges.{narrow_count}
use Rattle.link_order.specs.Order.{sort_links}
use Rattle.part_names.specs.Names.{eight_at, check_names}
use Rattle.sheet.specs.Network.{Network, network}
use Rattle.sheet_writer.specs.Writing.{sheet_of}

-- ---- pairs

-- the pairs of the lower part l with the parts below p
unfoldable pub pairs_of : ℕ → ℕ → List (ℕ × ℕ)
unfolding keep below
pairs_of p l = map (λ h. (l, h)) (keep (ltb l) (below p))

-- the pairs of parts below p, by lower then higher part
unfoldable pub pairs : ℕ → List (ℕ × ℕ)
unfolding flatten pairs_of below
pairs p = flatten (map (pairs_of p) (below p))

-- the pair e comes before d: by lower, then higher part
unfoldable pub pair_first : ℕ × ℕ → ℕ × ℕ → Bool
pair_first e d = ltb e.0 d.0 || eqb e.0 d.0 && ltb e.1 d.1

-- ---- links

-- the pair of a link
abbrev pub ends : Link → ℕ × ℕ
ends l = (l.low, l.high)

-- the links that a weight for each of the pairs P gives: none where it is 0
unfoldable pub weighed_of : (ℕ → ℕ → ℕ) → List (ℕ × ℕ) → List Link
unfolding keep
weighed_of f P = keep (λ l. not (eqb l.weight 0)) (map (λ e. link e.0 e.1 (f e.0 e.1)) P)

-- those of all pairs of parts below p
unfoldable pub weighed : (ℕ → ℕ → ℕ) → ℕ → List Link
unfolding weighed_of pairs
weighed f p = weighed_of f (pairs p)

-- the weight of the pair q, h in a table: it stands at q * 64 + h
abbrev pub weight_at : List ℕ → ℕ → ℕ → ℕ
weight_at C q h = get_or C (q * 64 + h) 0

-- K are links of some of the pairs P, in their order, with weights 1 to 65,535
pub data Picked : List (ℕ × ℕ) → List Link → Type 0 where
  picks_none : Picked [] []
  leaves_out : {e : ℕ × ℕ} {P : List (ℕ × ℕ)} {K : List Link} → Picked P K → Picked (e ∷ P) K
  picks : {e : ℕ × ℕ} {P : List (ℕ × ℕ)} {K : List Link} (w : ℕ) → 1 ≤ w → w ≤ 65535 → Picked P K → Picked (e ∷ P) (link e.0 e.1 w ∷ K)

-- a link of two parts below p, the lower first, of weight 1 to 65,535
pub record GoodLink (p : ℕ) (l : Link) : Type 0 where
  pub lower : l.low < l.high
  pub higher : l.high < p
  pub some : 1 ≤ l.weight
  pub most : l.weight ≤ 65535

-- such links, in any order, no pair twice
pub record Proper (p : ℕ) (K : List Link) : Type 0 where
  pub each : (l : Link) → l ∈ K → GoodLink p l
  pub once : each_two (λ l m. not (joins l.low l.high m)) K ≡ true

-- ---- names, the network and its sheet

-- the bytes of p names that pass 5 and 21, for a part count of 1 to 64
pub record Named (names : List ℕ) (p : ℕ) : Type 0 where
  pub count : narrow_count p ≡ true
  pub long : length names ≡ 8 * p
  pub passed : check_names (λ q. eight_at names (8 * q)) (λ q. 0) p ≡ accepted

-- the network of names and links, in the order of link_order
unfoldable pub made_network : List ℕ → List Link → Network
unfolding sort_links
made_network names K = network names (map (λ l. l.low) (sort_links K)) (map (λ l. l.high) (sort_links K)) (map (λ l. l.weight) (sort_links K))

unfoldable pub made_sheet : List ℕ → List Link → List ℕ
unfolding sheet_of made_network
made_sheet names K = sheet_of (made_network names K)
