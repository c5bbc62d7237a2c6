-- The links of a sheet: a list given by the link's number, and the first ones of a checked sheet. Assumes nothing.
use mathlib.Core.Path.{◌≡◌, sym, ap, ◌∙◌, subst}
use mathlib.Core.Bool.{true}
use mathlib.Core.List.{List}
use Prim.Native.Nat.{ℕ, ◌*◌, ◌≤◌, ◌<◌}
use native.Mathlib.Omega.{arith}
use lib.ListN.{length, get_or, take}
use lib.Seq.{take_all}
use Rattle.answers.specs.Verdict.{accepted}
use Rattle.sets.specs.Value.{width, no_rows}
use Rattle.percolation.specs.Links.{Link}
use Rattle.percolation.specs.Steps.{legal}
use Rattle.percolation.proofs.Accepted.{legal_most}
use Rattle.percolation.proofs.Ranges.{narrow_count_lem}
use Rattle.sheet.specs.Sheet.{parts, links, link_of, links_of, check_sheet}
use Rattle.sheet.proofs.Sound.{sheet_count, sheet_legal}
use Rattle.checks.specs.Neighbours.{Neighbours}
use Rattle.runs.specs.Model.{rows_with}
use Rattle.runs.proofs.LinkList.{Given, given_list, ends_below}
use Rattle.runs.proofs.Ran.{take_legal, run_near}

pub sheet_given : (s : List ℕ) → Given (links_of s) (link_of s) (links s)
unfolding links_of
sheet_given s = given_list (link_of s) (links s)

pub links_length : (s : List ℕ) → length (links_of s) ≡ links s
links_length s = (sheet_given s).count

pub link_at_lem : (s : List ℕ) (j : ℕ) (d : Link) → j < links s → get_or (links_of s) j d ≡ link_of s j
link_at_lem s = (sheet_given s).link_at_lem

-- all links
pub first_all : (s : List ℕ) (n : ℕ) → n ≡ links s → take n (links_of s) ≡ links_of s
first_all s n e = take_all n (links_of s) (omega (arith, links_length s))

module _ (s : List ℕ) (e : check_sheet s ≡ accepted) where
  pub parts_width : parts s ≤ width
  parts_width = (narrow_count_lem (parts s) (sheet_count s e)).1

  pub links_few : links s ≤ width * width
  links_few = omega (arith, links_length s, legal_most (parts s) (links_of s) parts_width (sheet_legal s e))

  pub link_ends : (j : ℕ) → j < links s → ((link_of s j).low < width) × ((link_of s j).high < width)
  link_ends j h =
      let b = ends_below (links_of s) (link_of s) (links s) (sheet_given s) (parts s) (sheet_legal s e) j h in
      (omega (arith, b, parts_width), omega (arith, b, parts_width))

  -- the first n links are L: they are legal, and rows of neighbours made of them hold them
  module _ (n : ℕ) (L : List Link) (first : take n (links_of s) ≡ L) where
    pub first_legal : legal (parts s) L ≡ true
    first_legal = ap (legal (parts s)) (sym first) ∙ take_legal (parts s) n (links_of s) (sheet_legal s e)

    pub first_near : (R : List ℕ) → R ≡ rows_with no_rows (take n (links_of s)) → Neighbours L R
    first_near R f = subst (Neighbours L) (sym (f ∙ ap (rows_with no_rows) first)) (run_near (parts s) L parts_width first_legal)
