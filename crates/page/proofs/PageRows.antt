-- The page of lines that pass every check: 73 bytes a row, each row 72 columns and a newline, and the count told before is that of its rows. Assumes nothing.
use mathlib.Core.Path.{◌≡◌, refl, sym, ap, ap₂, ◌∙◌, subst}
use mathlib.Core.Logic.{◌⊎◌, inl, inr}
use mathlib.Core.Bool.{Bool, true, false, cond, ◌&&◌}
use mathlib.Core.List.Memᴰ
use mathlib.Core.List.{
  List,
  [],
  ◌∷◌,
  ◌++◌,
  map,
  flatten,
}
use Prim.Native.Nat.{ℕ, zero, suc, ◌+◌, ◌*◌, ◌/◌, ◌%◌, ◌≤◌, ◌<◌}
use native.Mathlib.Omega.{arith}
use lib.Dec.{eqb, leb, ltb}
use lib.ListN.{length, get_or, drop, length-append, drop_of_length-le, get_or-append}
use lib.Seq.{get_or_at}
use borrow.Author.Tests.{eqb-true, leb-true}
use Rattle.answers.specs.Verdict.{accepted, unless}
use Rattle.answers.proofs.Laws.{then_left, then_right, unless_passed}
use Rattle.sets.specs.Lists.{◌∈◌, all, below}
use Rattle.sets.specs.Value.{width}
use Rattle.sets.proofs.Tests.{split, and_left, and_right}
use Rattle.sets.proofs.ListLaws.{all_of, get_d_member, flat_of}
use Rattle.percolation.proofs.Ranges.{narrow_count_lem}
use Rattle.part_names.specs.Names.{visible, spaces, visible_then_spaces, is_name}
use Rattle.part_names.proofs.Form.{visible_range, each_name}
use Rattle.sheet.specs.Sheet.{parts, name_at, name_of, check_sheet}
use Rattle.sheet.proofs.Heading.{length_is}
use Rattle.sheet.proofs.Sound.{sheet_length_lem, sheet_count, sheet_names}
use Rattle.percolation.specs.Tree.{line_length}
use Rattle.page.specs.Page.{
  blanks,
  column,
  six_columns,
  cell,
  cells,
  page_row,
  IsRow,
  blank_rows,
  further_rows,
  rows_for,
  line_rows,
  line_count,
  line_weight,
  line_union,
  rows_at,
  page_rows,
  page_of,
  known,
  good_lines,
  check_page,
}
use Rattle.page.specs.Model.{Named, parts_in, rows_from}
use Rattle.page.proofs.Names.{Listed, parts_listed, drop_listed, cells_length}
use Rattle.page.proofs.Sizes.{wide_length, six_length, row_length, from_count}

-- ---- bytes that are not the newline

abbrev Plain : List ℕ → Type 0
Plain l = (x : ℕ) → x ∈ l → x ≡ 10 → ⊥

plain_append : (l m : List ℕ) → Plain l → Plain m → Plain (l ++ m)
plain_append l m f g x h e = go (Memᴰ.append_cases l h)
  where
    go : x ∈ l ⊎ x ∈ m → ⊥
    go (inl k) = f x k e
    go (inr k) = g x k e

plain_cons : (b : ℕ) (l : List ℕ) → (b ≡ 10 → ⊥) → Plain l → Plain (b ∷ l)
plain_cons b l f g x h e = go (Memᴰ.cases_cons h)
  where
    go : (x ≡ b) ⊎ x ∈ l → ⊥
    go (inl k) = f (sym k ∙ e)
    go (inr k) = g x k e

plain_none : Plain []
plain_none x h e = Memᴰ.not-nil h

plain_blanks : (n : ℕ) → Plain (blanks n)
plain_blanks zero = plain_none
plain_blanks (suc n) = plain_cons 32 (blanks n) (λ e. omega (arith, e)) (plain_blanks n)

plain_column : (n unit : ℕ) → column n unit ≡ 10 → ⊥
unfolding column
plain_column n unit e = go (ltb n unit && ltb 1 unit) e
  where
    go : (b : Bool) → cond b 32 (48 + n / unit % 10) ≡ 10 → ⊥
    go true f = omega (arith, f)
    go false f = omega (arith, f)

plain_six : (n : ℕ) → Plain (six_columns n)
unfolding six_columns
plain_six n =
    plain_cons (column n 100000) _ (plain_column n 100000) (plain_cons (column n 10000) _ (plain_column n 10000)
    (plain_cons (column n 1000) _ (plain_column n 1000) (plain_cons (column n 100) _ (plain_column n 100)
    (plain_cons (column n 10) _ (plain_column n 10) (plain_cons (column n 1) _ (plain_column n 1) plain_none)))))

plain_spaces : (l : List ℕ) → spaces l ≡ true → Plain l
unfolding spaces
plain_spaces [] e = plain_none
plain_spaces (b ∷ l) e =
    plain_cons b l (λ z. omega (arith, z, eqb-true b 32 (and_left (eqb b 32) (spaces l) e))) (plain_spaces l (and_right (eqb b 32) (spaces l) e))

plain_visible : (b : ℕ) → visible b ≡ true → b ≡ 10 → ⊥
plain_visible b e z = omega (arith, z, (visible_range b e).0)

plain_rest : (l : List ℕ) → visible_then_spaces l ≡ true → Plain l
unfolding visible_then_spaces
plain_rest [] e = plain_none
plain_rest (b ∷ l) e = go (split (visible b)) (plain_rest l)
  where
    go : (visible b ≡ true) ⊎ (visible b ≡ false) → (visible_then_spaces l ≡ true → Plain l) → Plain (b ∷ l)
    go (inl v) f = plain_cons b l (plain_visible b v) (f (sym (ap (λ (t : Bool). cond t (visible_then_spaces l) (spaces (b ∷ l))) v) ∙ e))
    go (inr v) f = plain_spaces (b ∷ l) (sym (ap (λ (t : Bool). cond t (visible_then_spaces l) (spaces (b ∷ l))) v) ∙ e)

plain_name : (l : List ℕ) → is_name l ≡ true → Plain l
unfolding is_name
plain_name [] e = plain_none
plain_name (b ∷ l) e =
    plain_cons b l (plain_visible b (and_left (visible b) (visible_then_spaces l) e)) (plain_rest l (and_right (visible b) (visible_then_spaces l) e))

-- ---- each row

-- the names of the sheet s are names
abbrev NamesOf : List ℕ → Type 0
NamesOf s = (q : ℕ) → q < parts s → is_name (name_of s q) ≡ true

module _ (s : List ℕ) (long : name_at s (parts s) ≤ length s) (names : NamesOf s) where
  plain_cell : (Q : List ℕ) → Listed s Q → Plain (cell s Q)
  unfolding cell
  plain_cell [] h = plain_blanks 10
  plain_cell (q ∷ Q) h = plain_append (name_of s q) (blanks 2) (plain_name (name_of s q) (names q (h q (Memᴰ.head refl)))) (plain_blanks 2)

  plain_cells : (n : ℕ) (Q : List ℕ) → Listed s Q → Plain (cells s n Q)
  unfolding cells
  plain_cells zero Q h = plain_none
  plain_cells (suc n) Q h = plain_append (cell s Q) (cells s n (drop 1 Q)) (plain_cell Q h) (plain_cells n (drop 1 Q) (drop_listed s 1 Q h))

  row_is : (front Q : List ℕ) → length front ≡ 12 → Plain front → Listed s Q → IsRow (page_row s front Q)
  unfolding page_row
  row_is front Q f p h =
      let columns : List ℕ = front ++ cells s 6 Q in
      let size : length columns ≡ 72 = omega (arith, f, length-append front (cells s 6 Q), cells_length s long 6 Q h) in
      record {
        long = row_length s long front Q f h;
        ends = get_or_at columns 10 [] 0 72 size;
        columns = λ i l e.
            let inside : i < length columns = omega (arith, size, l) in
            plain_append front (cells s 6 Q) p (plain_cells 6 Q h) (get_or columns i 0) (get_d_member columns i 0 inside)
            (sym (get_or-append columns (10 ∷ []) 0 i inside) ∙ e);
      }

  blank_is : (n : ℕ) (Q r : List ℕ) → Listed s Q → r ∈ blank_rows s n Q → IsRow r
  unfolding blank_rows
  blank_is zero Q r h m = absurd (Memᴰ.not-nil m)
  blank_is (suc n) Q r h m = go (Memᴰ.cases_cons m) (blank_is n (drop 6 Q) r (drop_listed s 6 Q h))
    where
      go : (r ≡ page_row s (blanks 12) Q) ⊎ r ∈ blank_rows s n (drop 6 Q) → (r ∈ blank_rows s n (drop 6 Q) → IsRow r) → IsRow r
      go (inl e) f = subst IsRow (sym e) (row_is (blanks 12) Q refl (plain_blanks 12) h)
      go (inr k) f = f k

  line_is : (n w : ℕ) (Q r : List ℕ) → Listed s Q → r ∈ line_rows s n w Q → IsRow r
  unfolding line_rows
  line_is n w Q r h m = go (Memᴰ.cases_cons m)
    where
      twelve : length (six_columns n ++ six_columns w) ≡ 12
      twelve = length-append (six_columns n) (six_columns w) ∙ ap₂ ◌+◌ (six_length n) (six_length w)

      go : (r ≡ page_row s (six_columns n ++ six_columns w) Q) ⊎ r ∈ blank_rows s (further_rows (length Q)) (drop 6 Q) → IsRow r
      go (inl e) =
          subst IsRow (sym e) (row_is (six_columns n ++ six_columns w) Q twelve (plain_append (six_columns n) (six_columns w) (plain_six n) (plain_six w)) h)
      go (inr k) = blank_is (further_rows (length Q)) (drop 6 Q) r (drop_listed s 6 Q h) k

-- ---- lines that pass every check

module _ (s b : List ℕ) (ok : check_page s b ≡ accepted) where
  pub page_sheet : check_sheet s ≡ accepted
  unfolding check_page
  page_sheet = then_left (check_sheet s) (unless (good_lines (parts s) b) 24 0) ok

  pub page_good : good_lines (parts s) b ≡ true
  unfolding check_page
  page_good = unless_passed (good_lines (parts s) b) 24 0 (then_right (check_sheet s) (unless (good_lines (parts s) b) 24 0) ok)

  abbrev few_and_known : Bool
  few_and_known = leb (line_count b) 999999 && all (known (parts s) b) (below (line_count b))

  past_whole : few_and_known ≡ true
  unfolding good_lines
  past_whole = and_right (eqb (length b % line_length) 0) few_and_known page_good

  pub page_few : line_count b ≤ 999999
  page_few = leb-true (line_count b) 999999 (and_left (leb (line_count b) 999999) (all (known (parts s) b) (below (line_count b))) past_whole)

  pub page_known : (j : ℕ) → j ∈ below (line_count b) → known (parts s) b j ≡ true
  page_known j m =
      all_of (known (parts s) b) (below (line_count b)) (and_right (leb (line_count b) 999999) (all (known (parts s) b) (below (line_count b))) past_whole) m

  pub page_narrow : parts s ≤ width
  page_narrow = omega (arith, (narrow_count_lem (parts s) (sheet_count s page_sheet)).1)

  pub page_names : name_at s (parts s) ≤ length s
  page_names = omega (arith, length_is _ s (sheet_length_lem s page_sheet))

  pub page_named : (j : ℕ) → j ∈ below (line_count b) → Named s (line_union b j)
  unfolding known
  page_named j m = record { within = page_known j m; narrow = page_narrow; long = page_names }

  -- the rows of the line at place j
  at_shape : (j : ℕ) (r : List ℕ) → r ∈ rows_at s b j → IsRow r
  unfolding rows_at
  at_shape j r m =
      line_is s page_names (each_name (name_of s) (name_at s) (parts s) (sheet_names s page_sheet))
      (suc j) (line_weight b j) (parts_in s (line_union b j)) r (parts_listed s (line_union b j)) m

  pub at_length : (j : ℕ) → length (flatten (rows_at s b j)) ≡ 73 * length (rows_at s b j)
  at_length j = wide_length (rows_at s b j) (λ r m. (at_shape j r m).long)

  -- each row has 72 columns and a newline
  pub row_shape : (r : List ℕ) → r ∈ page_rows s b → IsRow r
  unfolding page_rows
  row_shape r m =
      let f = flat_of (map (rows_at s b) (below (line_count b))) m in
      let g = Memᴰ.of_map (rows_at s b) (below (line_count b)) f.1 in
      at_shape g.0 r (subst (λ (R : List (List ℕ)). r ∈ R) (sym g.2) f.2)

  -- the page has 73 bytes for each of its rows
  pub page_length : length (page_of s b) ≡ 73 * length (page_rows s b)
  unfolding page_of
  page_length = wide_length (page_rows s b) (λ r m. (row_shape r m).long)

  -- the rows counted line by line are those of the page
  pub page_count : length (page_rows s b) ≡ rows_from b 0 (line_count b)
  unfolding page_rows below
  page_count = from_count s b 0 (line_count b) page_known

-- ---- the rows of a line are as many as its names take

-- no name is left out
pub names_all : (Q : List ℕ) → drop (6 * rows_for (length Q)) Q ≡ []
names_all Q = drop_of_length-le Q (let l : length Q ≤ 6 * rows_for (length Q) = omega arith in l)

-- and each row but the first has a name
pub row_needed : (Q : List ℕ) (i : ℕ) → 0 < i → i < rows_for (length Q) → 6 * i < length Q
row_needed Q i h l = omega arith
