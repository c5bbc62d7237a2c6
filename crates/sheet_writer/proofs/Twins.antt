-- A sheet and a network that say the same: they are accepted together, and the network is the one in the sheet. Assumes nothing.
use mathlib.Core.Path.{◌≡◌, refl, sym, ap, ap₂, ◌∙◌}
use mathlib.Core.Bool.{true}
use mathlib.Core.List.{List, map}
use Prim.Native.Nat.{ℕ, ◌*◌, ◌<◌}
use native.Mathlib.Omega.{arith}
use lib.ListN.{length, get_or, take, drop}
use lib.Seq.{ext_get_or}
use Rattle.answers.specs.Verdict.{accepted}
use Rattle.percolation.specs.Links.{Link}
use Rattle.percolation.specs.Ranges.{narrow_count}
use Rattle.percolation.specs.Steps.{legal}
use Rattle.sheet.specs.Sheet.{parts, links, head_length, name_at, name_of, list_of, link_of, links_of, check_head, check_sheet}
use Rattle.part_names.specs.Names.{eight_at, check_names}
use Rattle.sheet.specs.Network.{Network, network, network_of}
use Rattle.sheet_writer.specs.Writing.{parts_of, links_in, eight_in, link_in, has_shape, check_network}
use Rattle.sheet.proofs.Lists.{list_of_length, list_of_ext, list_of_at, list_of_map}
use Rattle.part_names.proofs.Form.{names_again, eight_inside}
use Rattle.sheet_writer.proofs.Shape.{shape_parts}
use Rattle.sheet.proofs.Sound.{sheet_names, sheet_count, sheet_legal, sheet_passes}
use Rattle.sheet_writer.proofs.Sound.{network_names, network_legal, network_passes}

-- a list, by its elements
all_of_list : (l : List ℕ) (m : ℕ) → length l ≡ m → list_of (λ j. get_or l j 0) m ≡ l
all_of_list l m e =
    let f : ℕ → ℕ = λ j. get_or l j 0 in
    ext_get_or 0 (list_of f m) l (list_of_length f m ∙ sym e) (λ i h. list_of_at f m i 0 (omega (arith, list_of_length f m)))

pub record Twin (s : List ℕ) (n : Network) : Type 0 where
  pub count : parts s ≡ parts_of n
  pub number : links s ≡ links_in n
  pub named : take (8 * parts s) (drop head_length s) ≡ n.names
  pub each : (j : ℕ) → j < links s → link_of s j ≡ link_in n j

module _ (s : List ℕ) (n : Network) (t : Twin s n) where
  pub twin_links : links_of s ≡ list_of (link_in n) (links_in n)
  unfolding links_of
  twin_links = list_of_ext (link_of s) (link_in n) (links s) t.each ∙ ap (list_of (link_in n)) t.number

  twin_legal : legal (parts s) (links_of s) ≡ legal (parts_of n) (list_of (link_in n) (links_in n))
  twin_legal = ap₂ legal t.count twin_links

  twin_eight : (q : ℕ) → q < parts s → name_of s q ≡ eight_in n q
  twin_eight q h = sym (eight_inside s head_length (8 * parts s) (8 * q) (omega arith)) ∙ ap (λ (l : List ℕ). eight_at l (8 * q)) t.named

  twin_in : check_names (name_of s) (name_at s) (parts s) ≡ accepted → check_names (eight_in n) (λ q. 0) (parts_of n) ≡ accepted
  twin_in e = ap (check_names (eight_in n) (λ q. 0)) (sym t.count) ∙ names_again (name_of s) (eight_in n) (name_at s) (λ q. 0) (parts s) twin_eight e

  twin_at : check_names (eight_in n) (λ q. 0) (parts_of n) ≡ accepted → check_names (name_of s) (name_at s) (parts s) ≡ accepted
  twin_at e =
      names_again (eight_in n) (name_of s) (λ q. 0) (name_at s) (parts s) (λ q h. sym (twin_eight q h)) (ap (check_names (eight_in n) (λ q. 0)) t.count ∙ e)

  pub twin_network : has_shape n ≡ true → check_sheet s ≡ accepted → check_network n ≡ accepted
  twin_network h e =
      network_passes n h (ap narrow_count (sym t.count) ∙ sheet_count s e) (twin_in (sheet_names s e)) (sym twin_legal ∙ sheet_legal s e)

  pub twin_sheet : check_head s ≡ accepted → check_network n ≡ accepted → check_sheet s ≡ accepted
  twin_sheet h e = sheet_passes s h (twin_at (network_names n e)) (twin_legal ∙ network_legal n e)

  -- ---- the network in the sheet

  twin_field : (g : Link → ℕ) (l : List ℕ) → length l ≡ links_in n → ((j : ℕ) → g (link_in n j) ≡ get_or l j 0) → map g (links_of s) ≡ l
  twin_field g l e h =
      ap (map g) twin_links ∙ list_of_map g (link_in n) (links_in n)
      ∙ list_of_ext (λ j. g (link_in n j)) (λ j. get_or l j 0) (links_in n) (λ j _. h j) ∙ all_of_list l (links_in n) e

  pub twin_read : has_shape n ≡ true → network_of s ≡ n
  unfolding network_of link_in
  twin_read h =
      let c = shape_parts n h in
      let lower = twin_field (λ l. l.low) n.lower refl (λ j. refl) in
      let higher = twin_field (λ l. l.high) n.higher c.1 (λ j. refl) in
      let weights = twin_field (λ l. l.weight) n.weights c.2 (λ j. refl) in
      ap₂ (λ (x y : List ℕ). network x y (network_of s).higher (network_of s).weights) t.named lower ∙ ap₂ (network n.names n.lower) higher weights
