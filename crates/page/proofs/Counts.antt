-- Lines tested one after the other, and the tests before that loop. Assumes nothing.
use mathlib.Core.Path.{◌≡◌, refl, sym, ap, ap₂, ◌∙◌}
use mathlib.Core.Bool.{Bool, true, false, ◌&&◌}
use mathlib.Core.List.{List, [], ◌∷◌, map}
use Prim.Native.Nat.{ℕ, zero, suc, ◌+◌, ◌*◌, ◌%◌, ◌≤◌, ◌<◌, min}
use native.Mathlib.Omega.{arith}
use native.Mathlib.Numerals.{add-one}
use lib.Dec.{eqb, leb}
use lib.ListN.{length}
use borrow.Author.Tests.{le-leb, lt-leb}
use Rattle.std.specs.List.{list_all, range_with_len, sum_by}
use Rattle.std.proofs.lemmas.List.FromFn.{length-range_with_len}
use Rattle.std.proofs.lemmas.List.Sums.{sum_by-cons}
use Rattle.sets.specs.Lists.{all, from, below}
use Rattle.sets.specs.Sets.{full, sub, size}
use Rattle.sets.specs.Value.{width}
use Rattle.sets.proofs.Tests.{and_stop, and_go}
use Rattle.percolation.specs.Tree.{line_length}
use Rattle.percolation.specs.Weights.{sum}
use Rattle.page.specs.Page.{rows_for, line_count, line_union, known, good_lines}
use Rattle.page.specs.Model.{rows_from}

-- ---- all of a list of numbers

all_range : (f : ℕ → Bool) (a n : ℕ) → list_all f (range_with_len a n) ≡ all f (from a n)
unfolding all from
all_range f a zero = refl
all_range f a (suc n) = ap (λ (t : Bool). f a && t) (ap (λ (i : ℕ). list_all f (range_with_len i n)) (add-one a) ∙ all_range f (suc a) n)

pub all_below : (f : ℕ → Bool) (n : ℕ) → list_all f (range_with_len 0 n) ≡ all f (below n)
unfolding below
all_below f n = all_range f 0 n

-- ---- one line, and all

pub known_test : (b : List ℕ) (p j u w : ℕ) (t : Bool) → p ≤ width → w ≡ full (min p width) → u ≡ line_union b j → t ≡ sub u w → t ≡ known p b j
unfolding known
known_test b p j u w t h e f g = g ∙ ap₂ sub f (e ∙ ap full (let m : min p width ≡ p = omega arith in m))

module _ (p : ℕ) (b : List ℕ) where
  pub good_broken : (t : Bool) → t ≡ eqb (length b % line_length) 0 → t ≡ false → false ≡ good_lines p b
  unfolding good_lines
  good_broken t e f = and_stop (eqb (length b % line_length) 0) _ (sym e ∙ f)

  module _ (t : Bool) (e : t ≡ eqb (length b % line_length) 0) (whole : t ≡ true) (n : ℕ) (c : n ≡ line_count b) where
    pub good_many : 999999 < n → false ≡ good_lines p b
    unfolding good_lines
    good_many h =
        and_go (eqb (length b % line_length) 0) _ (sym e ∙ whole)
        (and_stop (leb (line_count b) 999999) _ (lt-leb (line_count b) 999999 (let l : 999999 < line_count b = omega (arith, h, c) in l)))

    pub good_known : (r : Bool) → n ≤ 999999 → r ≡ all (known p b) (below n) → r ≡ good_lines p b
    unfolding good_lines
    good_known r h k =
        and_go (eqb (length b % line_length) 0) _ (sym e ∙ whole)
        (and_go (leb (line_count b) 999999) _ (le-leb (line_count b) 999999 (let l : line_count b ≤ 999999 = omega (arith, h, c) in l))
        (k ∙ ap (λ (m : ℕ). all (known p b) (below m)) c))

-- ---- rows counted

pub range_from : (a n : ℕ) → range_with_len a n ≡ from a n
unfolding from
range_from a zero = refl
range_from a (suc n) = ap (λ (l : List ℕ). a ∷ l) (ap (λ (i : ℕ). range_with_len i n) (add-one a) ∙ range_from (suc a) n)

summed : (h : ℕ → ℕ) (l : List ℕ) → sum_by h l ≡ sum (map h l)
unfolding sum
summed h [] = refl
summed h (x ∷ l) = sum_by-cons h x l ∙ ap (λ (n : ℕ). h x + n) (summed h l)

module _ (b : List ℕ) where
  -- the rows of line j, and no more than that many
  abbrev pub rows_line : ℕ → ℕ
  rows_line j = rows_for (size (line_union b j))

  abbrev pub rows_few : ℕ → ℕ
  rows_few j = min (rows_line j) width

  pub rows_least : (j r : ℕ) → r ≡ rows_line j → r ≤ width → r ≡ rows_few j
  rows_least j r e h = omega (arith, e)

  pub rows_summed : (n : ℕ) → sum_by rows_line (range_with_len 0 n) ≡ rows_from b 0 n
  unfolding rows_from
  rows_summed n = ap (sum_by rows_line) (range_from 0 n) ∙ summed rows_line (from 0 n)

  few_sum : (l : List ℕ) → sum_by rows_few l ≤ width * length l
  few_sum [] = omega arith
  few_sum (x ∷ l) = omega (arith, sum_by-cons rows_few x l, few_sum l)

  pub rows_bound : (n : ℕ) → sum_by rows_few (range_with_len 0 n) ≤ width * n
  rows_bound n = omega (arith, few_sum (range_with_len 0 n), length-range_with_len 0 n)
