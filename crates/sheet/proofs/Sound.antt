-- What an accepted sheet has: a right head, distinct names and legal links. Assumes nothing.
use mathlib.Core.Path.{◌≡◌}
use mathlib.Core.Bool.{true}
use mathlib.Core.List.{List}
use Prim.Native.Nat.{ℕ}
use lib.ListN.{length}
use Rattle.answers.specs.Verdict.{Verdict, accepted, ◌then◌, unless, in_order}
use Rattle.answers.proofs.Laws.{then_left, then_right, then_both, last_go}
use Rattle.percolation.specs.Links.{Link}
use Rattle.percolation.specs.Ranges.{narrow_count}
use Rattle.percolation.specs.Steps.{check_link, legal}
use Rattle.percolation.proofs.Accepted.{legal_checks, checks_legal}
use Rattle.part_names.specs.Names.{check_names, AllDiffer}
use Rattle.part_names.proofs.Form.{names_distinct}
use Rattle.sheet.specs.Sheet.{parts, links, name_at, link_at, name_of, list_of, link_of, links_of, has_mark, has_version, has_length, check_head, check_link_at, check_sheet}
use Rattle.sheet.proofs.Lists.{list_of_none, list_of_more}
use Rattle.sheet.proofs.Heading.{head_length_lem, head_count}

-- ---- links in order: they are accepted exactly when they are legal, whatever the places

module _ (p : ℕ) (f : ℕ → Link) (place : ℕ → ℕ) (m : ℕ) where
  pub order_legal : in_order (λ j. check_link p (list_of f j) (f j) (place j)) m ≡ accepted → legal p (list_of f m) ≡ true
  order_legal e = legal_checks p f (list_of f) (list_of_none f) (list_of_more f) place m e

  pub legal_order : legal p (list_of f m) ≡ true → in_order (λ j. check_link p (list_of f j) (f j) (place j)) m ≡ accepted
  legal_order ok = checks_legal p f (list_of f) (list_of_none f) (list_of_more f) place m ok

-- ---- the sheet

-- the checks from 5 on
abbrev from_names : List ℕ → Verdict
from_names s = check_names (name_of s) (name_at s) (parts s) then in_order (check_link_at s) (links s)

module _ (s : List ℕ) (e : check_sheet s ≡ accepted) where
  pub sheet_head : check_head s ≡ accepted
  unfolding check_sheet
  sheet_head = then_left (check_head s) (from_names s) e

  past_head : from_names s ≡ accepted
  unfolding check_sheet
  past_head = then_right (check_head s) (from_names s) e

  pub sheet_names : check_names (name_of s) (name_at s) (parts s) ≡ accepted
  sheet_names = then_left (check_names (name_of s) (name_at s) (parts s)) (in_order (check_link_at s) (links s)) past_head

  -- no two parts have one name
  pub sheet_distinct : AllDiffer (name_of s) (parts s)
  sheet_distinct = names_distinct (name_of s) (name_at s) (parts s) sheet_names

  pub sheet_links : in_order (check_link_at s) (links s) ≡ accepted
  sheet_links = then_right (check_names (name_of s) (name_at s) (parts s)) (in_order (check_link_at s) (links s)) past_head

  pub sheet_length_lem : has_length (link_at s (links s)) s ≡ true
  sheet_length_lem = head_length_lem s sheet_head

  pub sheet_count : narrow_count (parts s) ≡ true
  sheet_count = head_count s sheet_head

  pub sheet_legal : legal (parts s) (links_of s) ≡ true
  unfolding links_of check_link_at
  sheet_legal = order_legal (parts s) (link_of s) _ (links s) sheet_links

-- and the other way
pub head_passes : (s : List ℕ) → has_mark 80 76 83 s ≡ true → has_version 1 s ≡ true → has_length (link_at s (links s)) s ≡ true → narrow_count (parts s) ≡ true → check_head s ≡ accepted
unfolding check_head
head_passes s a b c d =
    then_both (unless (has_mark 80 76 83 s) 1 0) _ (last_go (has_mark 80 76 83 s) 1 0 a)
    (then_both (unless (has_version 1 s) 2 3) _ (last_go (has_version 1 s) 2 3 b)
    (then_both (unless (has_length (link_at s (links s)) s) 3 (length s)) _ (last_go (has_length (link_at s (links s)) s) 3 (length s) c) (last_go (narrow_count (parts s)) 4 5 d)))

pub sheet_passes : (s : List ℕ) → check_head s ≡ accepted → check_names (name_of s) (name_at s) (parts s) ≡ accepted → legal (parts s) (links_of s) ≡ true
    → check_sheet s ≡ accepted
unfolding check_sheet links_of check_link_at
sheet_passes s h n l =
    then_both (check_head s) (from_names s) h
    (then_both (check_names (name_of s) (name_at s) (parts s)) (in_order (check_link_at s) (links s)) n (legal_order (parts s) (link_of s) _ (links s) l))
