-- A table of sets: what is read after a store, and a cleared table. Assumes nothing.
use mathlib.Core.Bool.{Bool, true, cond}
use mathlib.Core.List.{List}
use mathlib.Core.Path.{◌≡◌, sym, ap, ap₂, ◌∙◌}
use mathlib.Core.Logic.{◌⊎◌, inl, inr}
use Prim.Native.Nat.{ℕ, ◌+◌, ◌*◌, ◌/◌, ◌≤◌, ◌<◌, ◌^◌}
use native.Mathlib.Omega.{arith}
use borrow.Author.Tests.{lt-ltb, le-ltb, eqb-true}
use lib.Dec.{eqb}
use lib.ListN.{length, get_or, replicate, length-replicate, get_or-replicate, get_or-eq_default}
use lib.Seq.{sets, length-sets}
use Rattle.sets.specs.Words.{number, words, words_at}
use Rattle.sets.specs.Value.{set_words, width, rows, row, store, sized, no_rows}
use Rattle.sets.proofs.Tests.{lt_or_le}
use Rattle.sets.proofs.WordLists.{words_length, number_one, number_back, sets_other, at_sets, at_same, at_zero}

-- as many words as these rows have
pub rows_fit : (xs : List ℕ) (i : ℕ) → i < rows xs → i * set_words + set_words ≤ length xs
unfolding rows
rows_fit xs i h = omega arith

pub row_in : (xs : List ℕ) (i : ℕ) → i < rows xs → row xs i ≡ number (words_at set_words xs (i * set_words))
unfolding row
row_in xs i h = ap (λ (b : Bool). cond b (number (words_at set_words xs (i * set_words))) 0) (lt-ltb i (rows xs) h)

pub row_past : (xs : List ℕ) (i : ℕ) → rows xs ≤ i → row xs i ≡ 0
unfolding row
row_past xs i h = ap (λ (b : Bool). cond b (number (words_at set_words xs (i * set_words))) 0) (le-ltb i (rows xs) h)

-- a row of one word
pub row_word : (xs : List ℕ) (i : ℕ) → get_or xs i 0 ≡ row xs i
unfolding rows words_at
row_word xs i = go (lt_or_le i (rows xs))
  where
    first : get_or xs i 0 ≡ number (words_at set_words xs (i * set_words))
    first = ap (λ (k : ℕ). get_or xs k 0) (let e : i ≡ i * set_words = omega arith in e) ∙ sym (number_one (get_or xs (i * set_words) 0))

    go : (i < rows xs) ⊎ (rows xs ≤ i) → get_or xs i 0 ≡ row xs i
    go (inl l) = first ∙ sym (row_in xs i l)
    go (inr l) = get_or-eq_default xs 0 (let e : length xs ≤ i = omega arith in e) ∙ sym (row_past xs i l)

pub store_in : (xs : List ℕ) (i n : ℕ) → i < rows xs → store xs i n ≡ sets xs (i * set_words) (words set_words n)
unfolding store
store_in xs i n h = ap (λ (b : Bool). cond b (sets xs (i * set_words) (words set_words n)) xs) (lt-ltb i (rows xs) h)

pub store_past : (xs : List ℕ) (i n : ℕ) → rows xs ≤ i → store xs i n ≡ xs
unfolding store
store_past xs i n h = ap (λ (b : Bool). cond b (sets xs (i * set_words) (words set_words n)) xs) (le-ltb i (rows xs) h)

pub length_store : (xs : List ℕ) (i n : ℕ) → length (store xs i n) ≡ length xs
length_store xs i n = go (lt_or_le i (rows xs))
  where
    go : (i < rows xs) ⊎ (rows xs ≤ i) → length (store xs i n) ≡ length xs
    go (inl l) = ap length (store_in xs i n l) ∙ length-sets xs (i * set_words) (words set_words n)
    go (inr l) = ap length (store_past xs i n l)

-- tables of one length have as many rows
pub rows_length : (xs ys : List ℕ) → length xs ≡ length ys → rows xs ≡ rows ys
unfolding rows
rows_length xs ys e = ap (λ (n : ℕ). n / set_words) e

pub rows_store : (xs : List ℕ) (i n : ℕ) → rows (store xs i n) ≡ rows xs
rows_store xs i n = rows_length (store xs i n) xs (length_store xs i n)

-- a table of n sets and no word more has n rows
pub rows_exact : (xs : List ℕ) (n : ℕ) → length xs ≡ n * set_words → rows xs ≡ n
unfolding rows
rows_exact xs n e = omega arith

pub sized_rows : (xs : List ℕ) (n : ℕ) → sized xs n ≡ true → rows xs ≡ n
unfolding sized
sized_rows xs n e = rows_exact xs n (eqb-true (length xs) (n * set_words) e)

-- it goes by the length
pub sized_same : (xs ys : List ℕ) (m n : ℕ) → length xs ≡ length ys → m ≡ n → sized xs m ≡ sized ys n
unfolding sized
sized_same xs ys m n e f = ap₂ (λ (x y : ℕ). eqb x (y * set_words)) e f

-- a set that the code can hold is read back; the other rows stay
pub row_store : (xs : List ℕ) (i n : ℕ) → i < rows xs → n < 2 ^ width → row (store xs i n) i ≡ n
unfolding words_at number words
row_store xs i n h l =
    let inside : i < rows (store xs i n) = omega (arith, rows_store xs i n) in
    row_in (store xs i n) i inside ∙ ap (λ (t : List ℕ). number (words_at set_words t (i * set_words))) (store_in xs i n h)
    ∙ ap number (at_sets (words set_words n) xs (i * set_words) (omega (arith, rows_fit xs i h, words_length set_words n))) ∙ number_back set_words n l

pub row_other : (xs : List ℕ) (i j n : ℕ) → (j ≡ i → ⊥) → row (store xs i n) j ≡ row xs j
row_other xs i j n h = go (lt_or_le i (rows xs)) (lt_or_le j (rows xs))
  where
    apart : (p : ℕ) → j * set_words ≤ p → p < j * set_words + set_words → (j < i) ⊎ (i ≤ j) → (p < i * set_words) ⊎ (i * set_words + length (words set_words n) ≤ p)
    apart p a b (inl l) = inl (omega arith)
    apart p a b (inr l) = let m : i < j = omega (arith, h) in inr (omega (arith, words_length set_words n))

    go : (i < rows xs) ⊎ (rows xs ≤ i) → (j < rows xs) ⊎ (rows xs ≤ j) → row (store xs i n) j ≡ row xs j
    go (inr l) b = ap (λ (t : List ℕ). row t j) (store_past xs i n l)
    go (inl l) (inr b) = row_past (store xs i n) j (omega (arith, rows_store xs i n)) ∙ sym (row_past xs j b)
    go (inl l) (inl b) =
        row_in (store xs i n) j (omega (arith, rows_store xs i n)) ∙ ap (λ (t : List ℕ). number (words_at set_words t (j * set_words))) (store_in xs i n l)
        ∙ ap number (at_same set_words (sets xs (i * set_words) (words set_words n)) xs (j * set_words)
        (λ p a c. sets_other (words set_words n) xs (i * set_words) p (apart p a c (lt_or_le j i))))
        ∙ sym (row_in xs j b)

-- ---- a cleared table: as many rows, and each is the empty set

pub sized_clear : (xs : List ℕ) (m n : ℕ) → m ≡ n → sized (replicate (length xs) 0) m ≡ sized xs n
sized_clear xs m n e = sized_same (replicate (length xs) 0) xs m n (length-replicate (length xs) 0) e

zero_at : (n p : ℕ) → get_or (replicate {A = ℕ} n 0) p 0 ≡ 0
zero_at n p = go (lt_or_le p n)
  where
    go : (p < n) ⊎ (n ≤ p) → get_or (replicate {A = ℕ} n 0) p 0 ≡ 0
    go (inl l) = get_or-replicate n p 0 0 l
    go (inr l) = get_or-eq_default (replicate n 0) 0 (omega (arith, length-replicate {A = ℕ} n 0))

pub row_clear : (n i : ℕ) → row (replicate n 0) i ≡ 0
row_clear n i = go (lt_or_le i (rows (replicate n 0)))
  where
    go : (i < rows (replicate n 0)) ⊎ (rows (replicate n 0) ≤ i) → row (replicate n 0) i ≡ 0
    go (inl l) = row_in (replicate n 0) i l ∙ at_zero set_words (replicate n 0) (i * set_words) (zero_at n)
    go (inr l) = row_past (replicate n 0) i l

-- ---- a table with an empty row for each part

-- as many words as the code's array has
pub length_none : length no_rows ≡ 64
unfolding no_rows
length_none = length-replicate {A = ℕ} (width * set_words) 0

pub rows_none : rows no_rows ≡ width
rows_none = rows_exact no_rows width length_none

pub row_none : (i : ℕ) → row no_rows i ≡ 0
unfolding no_rows
row_none i = row_clear (width * set_words) i
