-- The tree of a sheet is never refused on a page with the names of that sheet, while it has 999,999 lines or fewer. Assumes nothing.
use mathlib.Core.Path.{◌≡◌, sym, ap, ◌∙◌}
use mathlib.Core.Logic.{◌⊎◌, inl, inr}
use mathlib.Core.Bool.{true}
use mathlib.Core.List.Memᴰ
use mathlib.Core.List.{List, [], ◌∷◌, ◌++◌, append-nil}
use Prim.Native.Nat.{ℕ, suc, ◌*◌, ◌%◌, ◌≤◌, ◌<◌, ◌^◌}
use native.Mathlib.Omega.{arith}
use lib.Dec.{eqb, leb}
use lib.ListN.{length, get_or}
use borrow.Author.Tests.{eq-eqb, le-leb, lt-ltb}
use Rattle.answers.specs.Verdict.{accepted, unless}
use Rattle.answers.proofs.Laws.{then_go, last_go}
use Rattle.sets.specs.Lists.{◌∈◌, below}
use Rattle.sets.specs.Sets.{has, full, sub}
use Rattle.sets.specs.Value.{width}
use Rattle.sets.proofs.Tests.{and_intro}
use Rattle.sets.proofs.ListLaws.{all_at, below_of, get_d_member}
use Rattle.sets.proofs.Laws.{has_sub, parts_lt}
use Rattle.sets.proofs.Members.{has_full}
use Rattle.percolation.specs.Links.{Link, heavy, family}
use Rattle.percolation.specs.Tree.{Start, Line, line, goes_into, last_level, whole_of, lines_from, starts_from, tree, line_length, whole_place, tree_bytes}
use Rattle.percolation.specs.Levels.{levels}
use Rattle.percolation.proofs.Ranges.{narrow_count_lem}
use Rattle.percolation.proofs.Chains.{last_in}
use Rattle.percolation.proofs.Communities.{at_part}
use Rattle.percolation.proofs.Families.{cliques_of}
use Rattle.sheet.specs.Sheet.{parts, links_of, check_sheet}
use Rattle.sheet.proofs.Sound.{sheet_count}
use Rattle.tree_lines.proofs.LinePlaces.{tree_length}
use Rattle.sets.proofs.SetBytes.{set_behind}
use Rattle.tree_lines.proofs.LineRead.{whole_read as union_read}
use Rattle.page.specs.Page.{line_count, line_union, known, good_lines, check_page}

-- ---- the unions of a tree have parts below p only

module _ (L : List Link) (p k : ℕ) where
  -- each part of a line's union is below p
  abbrev Below : Line → Type 0
  Below y = (q : ℕ) → has q y.whole ≡ true → q < p

  whole_below : (W : List ℕ) (S : List Start) (i s q : ℕ) → has q (whole_of L p k W S i s) ≡ true → q < p
  unfolding whole_of family
  whole_below W S i s q h =
      let r = at_part k (family L p k (last_level W S i)) s q h in
      (cliques_of (heavy (last_level W S i) L) p k (last_in r.1)).fits q r.2

  lines_below : (W : List ℕ) (S : List Start) (n : ℕ) (X : List Start) (y : Line) → y ∈ lines_from L p k W S n X → Below y
  unfolding lines_from
  lines_below W S n [] y m = absurd (Memᴰ.not-nil m)
  lines_below W S n (x ∷ X) y m = go (Memᴰ.cases_cons m) (lines_below W S (suc n) X y)
    where
      go : (y ≡ line x.weight (length x.joins) (goes_into n 1 S) x.small (whole_of L p k W S n x.small)) ⊎ y ∈ lines_from L p k W S (suc n) X
          → (y ∈ lines_from L p k W S (suc n) X → Below y) → Below y
      go (inl e) f q h = whole_below W S n x.small q (sym (ap (λ (z : Line). has q z.whole) e) ∙ h)
      go (inr j) f q h = f j q h

  pub tree_below : (y : Line) → y ∈ tree L p k → Below y
  unfolding tree
  tree_below y m = let S = starts_from L p k [] 0 (levels L) in lines_below (levels L) S 1 S y m

-- ---- the union of a line, read from the bytes of the lines

module _ (X : List Line) (d : Line) (j : ℕ) (h : j < length X) where
  abbrev x : Line
  x = get_or X j d

  pub whole_read : x.whole < 2 ^ width → line_union (tree_bytes X) j ≡ x.whole
  whole_read l =
      ap (λ (b : List ℕ). line_union b j) (sym (append-nil (tree_bytes X))) ∙ sym (set_behind (tree_bytes X ++ []) (j * line_length) whole_place)
      ∙ union_read X d j h [] l

-- ---- the page of a tree

module _ (p : ℕ) (X : List Line) (narrow : p ≤ width) (few : length X ≤ 999999) (within : (y : Line) → y ∈ X → (q : ℕ) → has q y.whole ≡ true → q < p) where
  abbrev none : Line
  none = line 0 0 0 0 0

  count_lines : line_count (tree_bytes X) ≡ length X
  count_lines = omega (arith, tree_length X)

  knows : (j : ℕ) → j < length X → known p (tree_bytes X) j ≡ true
  unfolding known
  knows j h =
      let f = within (get_or X j none) (get_d_member X j none h) in
      ap (λ (u : ℕ). sub u (full p)) (whole_read X none j h (parts_lt width (get_or X j none).whole (λ q t. let l = f q t in omega (arith, narrow, l))))
      ∙ has_sub (get_or X j none).whole (full p) (λ q t. has_full q p ∙ lt-ltb q p (f q t))

  lines_good : good_lines p (tree_bytes X) ≡ true
  unfolding good_lines
  lines_good =
      and_intro (eqb (length (tree_bytes X) % line_length) 0) _ (eq-eqb (length (tree_bytes X) % line_length) 0 (omega (arith, tree_length X)))
      (and_intro (leb (line_count (tree_bytes X)) 999999) _ (le-leb (line_count (tree_bytes X)) 999999 (omega (arith, few, count_lines)))
      (all_at (known p (tree_bytes X)) (below (line_count (tree_bytes X)))
      (λ j m. knows j (let l = below_of (line_count (tree_bytes X)) m in omega (arith, count_lines, l)))))

pub tree_pages : (s : List ℕ) (k : ℕ) → check_sheet s ≡ accepted → length (tree (links_of s) (parts s) k) ≤ 999999
    → check_page s (tree_bytes (tree (links_of s) (parts s) k)) ≡ accepted
unfolding check_page
tree_pages s k e few =
    let X : List Line = tree (links_of s) (parts s) k in
    then_go (check_sheet s) (unless (good_lines (parts s) (tree_bytes X)) 24 0) e
    ∙ last_go (good_lines (parts s) (tree_bytes X)) 24 0
    (lines_good (parts s) X (let n = (narrow_count_lem (parts s) (sheet_count s e)).1 in omega (arith, n)) few (tree_below (links_of s) (parts s) k))
