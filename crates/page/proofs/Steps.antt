-- The three loops that fill lent space: names in a row, rows of a line, lines of the page. What holds before each turn, and that a turn keeps it.
-- Assumes nothing.
use mathlib.Core.Path.{◌≡◌, refl, sym, ap, ap₂, ◌∙◌, subst}
use mathlib.Core.List.{List, [], ◌++◌, flatten}
use Prim.Native.Nat.{ℕ, suc, ◌+◌, ◌-◌, ◌*◌, ◌≤◌, ◌<◌}
use native.Mathlib.Omega.{arith}
use lib.ListN.{length, take, drop, length-append}
use lib.Seq.{drop-drop}
use Rattle.sets.specs.Lists.{◌∈◌, below}
use Rattle.sets.specs.Sets.{size}
use Rattle.answers.specs.Verdict.{accepted}
use Rattle.sets.proofs.ListLaws.{below_at}
use Rattle.sets.proofs.Members.{members_length, within_lt}
use Rattle.sheet.specs.Sheet.{parts}
use Rattle.page.specs.Page.{
  blanks,
  cell,
  cells,
  page_row,
  blank_rows,
  rows_for,
  line_rows,
  line_count,
  line_weight,
  line_union,
  rows_at,
  page_rows,
  page_of,
  check_page,
}
use Rattle.page.specs.Model.{Named, Leaves, parts_in}
use Rattle.page.proofs.Filling.{replaced, replaced_length, fill_step, fill_end}
use Rattle.page.proofs.Names.{parts_listed, cell_length, cells_next, cells_none}
use Rattle.page.proofs.Sizes.{row_length, blank_next, blank_none, bytes_from, from_next, from_none, at_count}
use Rattle.page.proofs.PageRows.{page_known, page_named, at_length}

-- ---- names in a row

-- i of the parts Q have their names in `out`, and `left` has the others
pub record NamesTo (s Q out : List ℕ) (left i : ℕ) : Type 0 where
  pub few : i ≤ 6
  pub long : length out ≡ 60
  pub named : Named s left
  pub rest : parts_in s left ≡ drop i Q
  pub done : cells s 6 Q ≡ take (10 * i) out ++ cells s (6 - i) (drop i Q)

pub names_step : (s Q out names : List ℕ) (left next i : ℕ) → NamesTo s Q out left i → i < 6 → names ≡ cell s (parts_in s left)
    → Leaves s left 1 next → NamesTo s Q (replaced out (10 * i) (10 * i + 10) names) next (i + 1)
names_step s Q out names left next i I h e N =
    let size : length names ≡ 10 * i + 10 - 10 * i =
    ap length e ∙ cell_length s I.named.long (parts_in s left) (parts_listed s left) ∙ (let z : 10 ≡ 10 * i + 10 - 10 * i = omega arith in z) in
    let here : cell s (parts_in s left) ≡ cell s (drop i Q) = ap (cell s) I.rest in
    let next-parts : drop 1 (drop i Q) ≡ drop (i + 1) Q = drop-drop 1 i Q in
    record {
      few = omega arith;
      long = replaced_length out names (10 * i) (10 * i + 10) (omega arith) (omega (arith, I.long, h)) size ∙ I.long;
      named = N.named;
      rest = N.rest ∙ ap (drop 1) I.rest ∙ next-parts;
      done =
          fill_step (cells s 6 Q) out names (cell s (drop i Q)) (cells s (6 - i) (drop i Q)) (cells s (6 - (i + 1)) (drop (i + 1) Q))
          (10 * i) (10 * i + 10) (10 * (i + 1))
          (omega arith) (omega (arith, I.long, h)) (sym (ap length (e ∙ here)) ∙ size) I.done
          (cells_next s (6 - i) (6 - (i + 1)) (drop i Q) (drop (i + 1) Q) (let z : 6 - i ≡ suc (6 - (i + 1)) = omega arith in z) next-parts)
          (e ∙ here) (let z : 10 * i + 10 ≡ 10 * (i + 1) = omega arith in z);
    }

pub names_end : (s out : List ℕ) (u left i : ℕ) → NamesTo s (parts_in s u) out left i → 6 ≤ i → (out ≡ cells s 6 (parts_in s u)) × Leaves s u 6 left
names_end s out u left i I h =
    let Q : List ℕ = parts_in s u in
    let six : i ≡ 6 = omega (arith, I.few, h) in (
      fill_end (cells s 6 Q) out (cells s (6 - i) (drop i Q)) (10 * i) I.done
          (cells_none s (6 - i) (drop i Q) (let z : 6 - i ≡ 0 = omega arith in z)) (omega (arith, I.long, h)),
      record { rest = I.rest ∙ ap (λ (n : ℕ). drop n Q) six; named = I.named },
    )

-- ---- rows of a line

-- i of n rows for the parts Q stand in `out`, and `left` has the parts that they do not name
pub record RowsTo (s Q out : List ℕ) (n left i : ℕ) : Type 0 where
  pub few : i ≤ n
  pub long : length out ≡ 73 * n
  pub named : Named s left
  pub rest : parts_in s left ≡ drop (6 * i) Q
  pub done : flatten (blank_rows s n Q) ≡ take (73 * i) out ++ flatten (blank_rows s (n - i) (drop (6 * i) Q))

pub rows_step : (s Q out new : List ℕ) (n left next i : ℕ) → RowsTo s Q out n left i → i < n → new ≡ page_row s (blanks 12) (parts_in s left)
    → Leaves s left 6 next → RowsTo s Q (replaced out (73 * i) (73 * i + 73) new) n next (i + 1)
rows_step s Q out new n left next i I h e N =
    let size : length new ≡ 73 * i + 73 - 73 * i =
    ap length e ∙ row_length s I.named.long (blanks 12) (parts_in s left) refl (parts_listed s left)
    ∙ (let z : 73 ≡ 73 * i + 73 - 73 * i = omega arith in z) in
    let here : page_row s (blanks 12) (parts_in s left) ≡ page_row s (blanks 12) (drop (6 * i) Q) = ap (page_row s (blanks 12)) I.rest in
    let next-parts : drop 6 (drop (6 * i) Q) ≡ drop (6 * (i + 1)) Q =
    drop-drop 6 (6 * i) Q ∙ ap (λ (k : ℕ). drop k Q) (let z : 6 * i + 6 ≡ 6 * (i + 1) = omega arith in z) in
    record {
      few = omega arith;
      long = replaced_length out new (73 * i) (73 * i + 73) (omega arith) (omega (arith, I.long, h)) size ∙ I.long;
      named = N.named;
      rest = N.rest ∙ ap (drop 6) I.rest ∙ next-parts;
      done =
          fill_step (flatten (blank_rows s n Q)) out new (page_row s (blanks 12) (drop (6 * i) Q)) (flatten (blank_rows s (n - i) (drop (6 * i) Q)))
          (flatten (blank_rows s (n - (i + 1)) (drop (6 * (i + 1)) Q))) (73 * i) (73 * i + 73) (73 * (i + 1))
          (omega arith) (omega (arith, I.long, h)) (sym (ap length (e ∙ here)) ∙ size) I.done
          (blank_next s (n - i) (n - (i + 1)) (drop (6 * i) Q) (drop (6 * (i + 1)) Q) (let z : n - i ≡ suc (n - (i + 1)) = omega arith in z) next-parts)
          (e ∙ here) (let z : 73 * i + 73 ≡ 73 * (i + 1) = omega arith in z);
    }

pub rows_end : (s Q out : List ℕ) (n left i : ℕ) → RowsTo s Q out n left i → n ≤ i → out ≡ flatten (blank_rows s n Q)
rows_end s Q out n left i I h =
    fill_end (flatten (blank_rows s n Q)) out (flatten (blank_rows s (n - i) (drop (6 * i) Q))) (73 * i) I.done
    (blank_none s (n - i) (drop (6 * i) Q) (let z : n - i ≡ 0 = omega arith in z)) (omega (arith, I.long, h))

-- ---- lines of the page

-- the rows of j of n lines stand in the first `at` bytes of `out`
pub record LinesTo (s b out : List ℕ) (n at j : ℕ) : Type 0 where
  pub few : j ≤ n
  pub room : at + length (bytes_from s b j (n - j)) ≡ length out
  pub done : page_of s b ≡ take at out ++ bytes_from s b j (n - j)

pub lines_start : (s b out : List ℕ) (n : ℕ) → n ≡ line_count b → length out ≡ length (page_of s b) → LinesTo s b out n 0 0
unfolding page_of page_rows below
lines_start s b out n e l =
    let whole : page_of s b ≡ bytes_from s b 0 (n - 0) = ap (bytes_from s b 0) (let z : line_count b ≡ n - 0 = omega (arith, e) in z) in
    record { few = omega arith; room = omega (arith, ap length whole, l); done = whole }

module _ (s b : List ℕ) (ok : check_page s b ≡ accepted) (out : List ℕ) (n at j : ℕ) (I : LinesTo s b out n at j) (count : n ≡ line_count b) (h : j < n) where
  inside : j ∈ below (line_count b)
  inside = below_at j (line_count b) (omega (arith, h, count))

  next : bytes_from s b j (n - j) ≡ flatten (rows_at s b j) ++ bytes_from s b (suc j) (n - (j + 1))
  next = from_next s b j (n - j) (n - (j + 1)) (let z : n - j ≡ suc (n - (j + 1)) = omega arith in z)

  -- the bytes of the rows of line j
  pub line_bytes_lem : (k : ℕ) → k ≡ rows_for (size (line_union b j)) → length (flatten (rows_at s b j)) ≡ 73 * k
  line_bytes_lem k e = omega (arith, at_length s b ok j, at_count s b j (page_known s b ok j inside), e)

  pub line_room : (k : ℕ) → k ≡ rows_for (size (line_union b j)) → at + 73 * k ≤ length out
  line_room k e = omega (arith, I.room, ap length next, length-append (flatten (rows_at s b j)) (bytes_from s b (suc j) (n - (j + 1))), line_bytes_lem k e)

  -- what its union shows of it
  pub line_named : (u : ℕ) → u ≡ line_union b j → Named s u
  line_named u e = subst (Named s) (sym e) (page_named s b ok j inside)

  pub line_rows_lem : (u c k : ℕ) → u ≡ line_union b j → c ≡ size u → k ≡ rows_for c → k ≡ rows_for (length (parts_in s u))
  line_rows_lem u c k e f g = g ∙ ap rows_for (f ∙ sym (members_length (parts s) u (within_lt (parts s) u (line_named u e).within)))

  pub line_same : (m w u : ℕ) → m ≡ j + 1 → w ≡ line_weight b j → u ≡ line_union b j → flatten (line_rows s m w (parts_in s u)) ≡ flatten (rows_at s b j)
  unfolding rows_at
  line_same m w u e f g =
      ap₂ (λ (x y : ℕ). flatten (line_rows s x y (parts_in s u))) (let z : m ≡ suc j = omega (arith, e) in z) f
      ∙ ap (λ (x : ℕ). flatten (line_rows s (suc j) (line_weight b j) (parts_in s x))) g

  pub lines_step : (rows : List ℕ) (k end : ℕ) → k ≡ rows_for (size (line_union b j)) → end ≡ at + 73 * k → rows ≡ flatten (rows_at s b j)
      → LinesTo s b (replaced out at end rows) n end (j + 1) × (length (replaced out at end rows) ≡ length out)
  lines_step rows k end e z r =
      let size : length rows ≡ end - at = omega (arith, ap length r, line_bytes_lem k e, z) in
      let high : end ≤ length out = omega (arith, line_room k e, z) in
      let kept : length (replaced out at end rows) ≡ length out = replaced_length out rows at end (omega (arith, z)) high size in
      let sum : length (bytes_from s b j (n - j)) ≡ 73 * k + length (bytes_from s b (suc j) (n - (j + 1))) =
      omega (arith, ap length next, length-append (flatten (rows_at s b j)) (bytes_from s b (suc j) (n - (j + 1))), line_bytes_lem k e) in
      let one : suc j ≡ j + 1 = omega arith in
      let same : bytes_from s b (suc j) (n - (j + 1)) ≡ bytes_from s b (j + 1) (n - (j + 1)) = ap (λ (i : ℕ). bytes_from s b i (n - (j + 1))) one in (
        record {
          few = omega arith;
          room = omega (arith, kept, I.room, sum, ap length same, z);
          done =
              fill_step (page_of s b) out rows (flatten (rows_at s b j)) (bytes_from s b j (n - j)) (bytes_from s b (j + 1) (n - (j + 1))) at end end
              (omega (arith, z)) high (sym (ap length r) ∙ size) I.done (next ∙ ap (λ (l : List ℕ). flatten (rows_at s b j) ++ l) same) r refl;
        },
        kept,
      )

pub lines_end : (s b out : List ℕ) (n at j : ℕ) → LinesTo s b out n at j → n ≤ j → out ≡ page_of s b
lines_end s b out n at j I h =
    let none : bytes_from s b j (n - j) ≡ [] = from_none s b j (n - j) (let z : n - j ≡ 0 = omega arith in z) in
    fill_end (page_of s b) out (bytes_from s b j (n - j)) at I.done none (omega (arith, I.room, ap length none))
