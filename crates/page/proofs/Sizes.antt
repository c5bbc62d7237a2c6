-- The rows of a line and of the page: how many there are, how long each is, and how they follow each other. Assumes nothing.
use mathlib.Core.Path.{◌≡◌, refl, sym, ap, ap₂, ◌∙◌}
use mathlib.Core.Bool.{true}
use mathlib.Core.List.Memᴰ
use mathlib.Core.List.{List, [], ◌∷◌, ◌++◌, map, flatten, append_assoc}
use Prim.Native.Nat.{ℕ, zero, suc, ◌+◌, ◌-◌, ◌*◌, ◌≤◌, ◌<◌}
use native.Mathlib.Omega.{arith}
use lib.ListN.{length, get_or, take, drop, set, length-append, length-drop, get_or-append}
use lib.Seq.{get_or-append-add, set_at, sets}
use Rattle.sets.specs.Lists.{◌∈◌, from}
use Rattle.sets.specs.Sets.{size}
use Rattle.sets.proofs.Members.{members_length, within_lt}
use Rattle.sets.proofs.ListLaws.{flat_append}
use Rattle.percolation.proofs.Sums.{sum_none, sum_first}
use Rattle.sheet.specs.Sheet.{parts, name_at}
use Rattle.page.specs.Page.{blanks, six_columns, cells, page_row, blank_rows, further_rows, rows_for, line_rows, line_weight, line_union, rows_at, known}
use Rattle.page.specs.Model.{parts_in, rows_from}
use Rattle.page.proofs.Filling.{replaced}
use Rattle.page.proofs.Names.{Listed, cells_length}

-- rows of 73 bytes each
abbrev pub Wide : List (List ℕ) → Type 0
Wide R = (r : List ℕ) → r ∈ R → length r ≡ 73

pub wide_length : (R : List (List ℕ)) → Wide R → length (flatten R) ≡ 73 * length R
unfolding flatten
wide_length [] h = refl
wide_length (r ∷ R) h = omega (arith, length-append r (flatten R), h r (Memᴰ.head refl), wide_length R (λ x m. h x (Memᴰ.tail m)))

-- byte c of row i
pub wide_at : (R : List (List ℕ)) → Wide R → (i c : ℕ) → i < length R → c < 73 → get_or (flatten R) (73 * i + c) 0 ≡ get_or (get_or R i []) c 0
unfolding flatten
wide_at [] h i c l k = absurd (omega arith)
wide_at (r ∷ R) h zero c l k =
    ap (λ (n : ℕ). get_or (r ++ flatten R) n 0) (let z : 73 * 0 + c ≡ c = omega arith in z)
    ∙ get_or-append r (flatten R) 0 c (omega (arith, h r (Memᴰ.head refl), k))
wide_at (r ∷ R) h (suc i) c l k =
    ap (λ (n : ℕ). get_or (r ++ flatten R) n 0) (let z : 73 * suc i + c ≡ length r + (73 * i + c) = omega (arith, h r (Memᴰ.head refl)) in z)
    ∙ get_or-append-add r (flatten R) (73 * i + c) 0 ∙ wide_at R (λ x m. h x (Memᴰ.tail m)) i c (omega arith) k

-- ---- a row, and the rows of a line

pub six_length : (n : ℕ) → length (six_columns n) ≡ 6
unfolding six_columns
six_length n = refl

-- the last byte is v
set_last : (l m : List ℕ) (v n : ℕ) → length l ≡ n → length m ≡ 1 → set (l ++ m) n v ≡ l ++ (v ∷ [])
set_last l [] v n e f = absurd (omega (arith, f))
set_last l (x ∷ []) v n e f = set_at l x [] v n e
set_last l (x ∷ y ∷ m) v n e f = absurd (omega (arith, f))

module _ (s : List ℕ) (long : name_at s (parts s) ≤ length s) where
  pub row_length : (front Q : List ℕ) → length front ≡ 12 → Listed s Q → length (page_row s front Q) ≡ 73
  unfolding page_row
  row_length front Q f h =
      omega (arith, f, length-append (front ++ cells s 6 Q) (10 ∷ []), length-append front (cells s 6 Q), cells_length s long 6 Q h)

  -- what blank columns, names and the newline in the last column make
  pub row_put : (Q out front names : List ℕ) → Listed s Q → length out ≡ 73 → front ≡ blanks 12 → names ≡ cells s 6 Q
      → set (replaced (replaced out 0 12 front) 12 72 names) 72 10 ≡ page_row s (blanks 12) Q
  unfolding page_row
  row_put Q out front names h o f n =
      ap (λ (l : List ℕ). set l 72 10)
      (ap₂ (λ (x y : List ℕ). replaced (replaced out 0 12 x) 12 72 y) f n ∙ sym (append_assoc (blanks 12) (cells s 6 Q) (drop 60 (drop 12 out))))
      ∙ set_last (blanks 12 ++ cells s 6 Q) (drop 60 (drop 12 out)) 10 72
      (omega (arith, length-append (blanks 12) (cells s 6 Q), cells_length s long 6 Q h)) (omega (arith, o, length-drop 60 (drop 12 out), length-drop 12 out))

pub blank_count : (s : List ℕ) (n : ℕ) (Q : List ℕ) → length (blank_rows s n Q) ≡ n
unfolding blank_rows
blank_count s zero Q = refl
blank_count s (suc n) Q = ap suc (blank_count s n (drop 6 Q))

pub line_count_lem : (s : List ℕ) (n w : ℕ) (Q : List ℕ) → length (line_rows s n w Q) ≡ rows_for (length Q)
unfolding line_rows
line_count_lem s n w Q = ap suc (blank_count s (further_rows (length Q)) (drop 6 Q))

pub blank_next : (s : List ℕ) (n m : ℕ) (Q R : List ℕ) → n ≡ suc m → drop 6 Q ≡ R
    → flatten (blank_rows s n Q) ≡ page_row s (blanks 12) Q ++ flatten (blank_rows s m R)
unfolding blank_rows flatten
blank_next s n m Q R e f =
    ap (λ (k : ℕ). flatten (blank_rows s k Q)) e ∙ ap (λ (l : List ℕ). page_row s (blanks 12) Q ++ flatten (blank_rows s m l)) f

pub blank_none : (s : List ℕ) (n : ℕ) (Q : List ℕ) → n ≡ 0 → flatten (blank_rows s n Q) ≡ []
unfolding blank_rows flatten
blank_none s n Q e = ap (λ (k : ℕ). flatten (blank_rows s k Q)) e

-- both numbers over the first twelve columns
pub line_put : (s : List ℕ) (n w k : ℕ) (Q out one two : List ℕ) → k ≡ rows_for (length Q) → out ≡ flatten (blank_rows s k Q)
    → one ≡ sets (take (6 - 0) (drop 0 out)) 0 (six_columns n) → two ≡ sets (take (12 - 6) (drop 6 (replaced out 0 6 one))) 0 (six_columns w)
    → replaced (replaced out 0 6 one) 6 12 two ≡ flatten (line_rows s n w Q)
unfolding line_rows blank_rows page_row flatten six_columns
line_put s n w k Q out one two e o f g =
    let rest : List ℕ = flatten (blank_rows s (further_rows (length Q)) (drop 6 Q)) in
    let first : out ≡ blanks 12 ++ cells s 6 Q ++ (10 ∷ []) ++ rest = o ∙ ap (λ (j : ℕ). flatten (blank_rows s j Q)) e in
    let number : one ≡ six_columns n = f ∙ ap (λ (x : List ℕ). sets (take 6 (drop 0 x)) 0 (six_columns n)) first in
    let mid : replaced out 0 6 one ≡ six_columns n ++ (blanks 6 ++ (cells s 6 Q ++ (10 ∷ []) ++ rest)) =
    ap₂ (λ (x y : List ℕ). replaced x 0 6 y) first number in
    let weight : two ≡ six_columns w = g ∙ ap (λ (x : List ℕ). sets (take 6 (drop 6 x)) 0 (six_columns w)) mid in
    ap₂ (λ (x y : List ℕ). replaced x 6 12 y) mid weight

-- ---- the rows of the lines from place j on

pub rows_first : (b : List ℕ) (j n m : ℕ) → n ≡ suc m → rows_from b j n ≡ rows_for (size (line_union b j)) + rows_from b (suc j) m
unfolding rows_from from
rows_first b j n m e = ap (rows_from b j) e ∙ sum_first (rows_for (size (line_union b j))) (map (λ i. rows_for (size (line_union b i))) (from (suc j) m))

pub rows_none : (b : List ℕ) (j n : ℕ) → n ≡ 0 → rows_from b j n ≡ 0
unfolding rows_from from
rows_none b j n e = ap (rows_from b j) e ∙ sum_none

-- the bytes of the rows of n lines from place j on
abbrev pub bytes_from : List ℕ → List ℕ → ℕ → ℕ → List ℕ
bytes_from s b j n = flatten (flatten (map (rows_at s b) (from j n)))

module _ (s b : List ℕ) where
  pub from_next : (j n m : ℕ) → n ≡ suc m → bytes_from s b j n ≡ flatten (rows_at s b j) ++ bytes_from s b (suc j) m
  unfolding flatten from
  from_next j n m e = ap (bytes_from s b j) e ∙ flat_append (rows_at s b j) (flatten (map (rows_at s b) (from (suc j) m)))

  pub from_none : (j n : ℕ) → n ≡ 0 → bytes_from s b j n ≡ []
  unfolding flatten from
  from_none j n e = ap (bytes_from s b j) e

  pub at_count : (j : ℕ) → known (parts s) b j ≡ true → length (rows_at s b j) ≡ rows_for (size (line_union b j))
  unfolding rows_at known
  at_count j h =
      line_count_lem s (suc j) (line_weight b j) (parts_in s (line_union b j))
      ∙ ap rows_for (members_length (parts s) (line_union b j) (within_lt (parts s) (line_union b j) h))

  pub from_count : (j n : ℕ) → ((i : ℕ) → i ∈ from j n → known (parts s) b i ≡ true) → length (flatten (map (rows_at s b) (from j n))) ≡ rows_from b j n
  unfolding flatten from
  from_count j zero h = sym (rows_none b j 0 refl)
  from_count j (suc n) h =
      length-append (rows_at s b j) (flatten (map (rows_at s b) (from (suc j) n)))
      ∙ ap₂ ◌+◌ (at_count j (h j (Memᴰ.head refl))) (from_count (suc j) n (λ i m. h i (Memᴰ.tail m)))
      ∙ sym (rows_first b j (suc n) n refl)
