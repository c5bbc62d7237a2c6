-- The two fields that are written into a line by its number, for the line that it goes into and for its union: read, and written. Assumes nothing.
use mathlib.Core.Path.{◌≡◌, refl, sym, ap, ap₂, ◌∙◌}
use mathlib.Core.Logic.{◌⊎◌, inl, inr}
use mathlib.Core.Bool.{Bool, false, cond}
use mathlib.Core.List.{List, [], ◌∷◌, ◌++◌, append_assoc}
use Prim.Native.Nat.{ℕ, zero, suc, ◌+◌, ◌-◌, ◌*◌, ◌/◌, ◌%◌, ◌^◌, ◌≤◌, ◌<◌}
use native.Mathlib.Omega.{arith}
use lib.ListN.{length, get_or, set, length-append}
use lib.Seq.{sets}
use borrow.Author.Tests.{eq-eqb, ne_eqb}
use Rattle.sets.specs.Value.{bytes, set_bytes, with_set}
use Rattle.sets.proofs.SetBytes.{bytes_length, set_length_lem}
use Rattle.percolation.specs.Tree.{Start, Line, line, whole_place, tree_bytes}
use Rattle.percolation.proofs.Growth.{no_start, start_of}
use Rattle.tree_lines.specs.LineModel.{line_length, line_bytes, lines_with, changed, holding, has_line}
use Rattle.records.specs.Numbers.{four_at}
use Rattle.records.proofs.Numbers.{Field, Writes, writes_sets, writes_set, field_four}
use Rattle.records.proofs.InBytes.{record_field, record_written}
use Rattle.tree_lines.proofs.LinePlaces.{head_of, tree_length, line_bytes_lem, whole_at, no_line}

-- ---- lines by what they go into and by their unions

-- the line of the start x that goes into i and has the union v
abbrev pub line_as : Start → ℕ → ℕ → Line
line_as x i v = line x.weight (length x.joins) i x.small v

pub lines_length : (f u : ℕ → ℕ) (n : ℕ) (X : List Start) → length (lines_with f u n X) ≡ length X
unfolding lines_with
lines_length f u n [] = refl
lines_length f u n (x ∷ X) = ap suc (lines_length f u (suc n) X)

pub lines_same : (f u g v : ℕ → ℕ) (n : ℕ) (X : List Start) → ((i : ℕ) → n ≤ i → i < n + length X → (f i ≡ g i) × (u i ≡ v i))
    → lines_with f u n X ≡ lines_with g v n X
unfolding lines_with
lines_same f u g v n [] h = refl
lines_same f u g v n (x ∷ X) h =
    let e = h n (omega arith) (omega arith) in
    ap₂ (λ (y : Line) (Y : List Line). y ∷ Y) (ap₂ (line_as x) e.0 e.1) (lines_same f u g v (suc n) X (λ i l m. h i (omega arith) (omega arith)))

pub lines_append : (f u : ℕ → ℕ) (n : ℕ) (X Y : List Start) → lines_with f u n (X ++ Y) ≡ lines_with f u n X ++ lines_with f u (n + length X) Y
unfolding lines_with
lines_append f u n [] Y = ap (λ (m : ℕ). lines_with f u m Y) (let e : n ≡ n + 0 = omega arith in e)
lines_append f u n (x ∷ X) Y =
    ap (λ (Z : List Line). line_as x (f n) (u n) ∷ Z)
    (lines_append f u (suc n) X Y
    ∙ ap (λ (m : ℕ). lines_with f u (suc n) X ++ lines_with f u m Y) (let e : suc n + length X ≡ n + suc (length X) = omega arith in e))

pub changed_at : (f : ℕ → ℕ) (m v : ℕ) → changed f m v m ≡ v
unfolding changed
changed_at f m v = ap (λ (b : Bool). cond b v (f m)) (eq-eqb m m refl)

pub changed_other : (f : ℕ → ℕ) (m v i : ℕ) → (i ≡ m → ⊥) → changed f m v i ≡ f i
unfolding changed
changed_other f m v i h = ap (λ (b : Bool). cond b v (f i)) (ne_eqb i m h)

-- g and v are f and u, but for line m
abbrev But : ℕ → (ℕ → ℕ) → (ℕ → ℕ) → (ℕ → ℕ) → (ℕ → ℕ) → Type 0
But m f u g v = (i : ℕ) → (i ≡ m → ⊥) → (f i ≡ g i) × (u i ≡ v i)

-- line j of them, and another in its place

lines_at : (f u : ℕ → ℕ) (n : ℕ) (X : List Start) (j : ℕ) (d : Line) → j < length X
    → get_or (lines_with f u n X) j d ≡ line_as (get_or X j no_start) (f (n + j)) (u (n + j))
unfolding lines_with
lines_at f u n [] j d h = absurd (omega arith)
lines_at f u n (x ∷ X) zero d h = ap (λ (k : ℕ). line_as x (f k) (u k)) (let z : n ≡ n + 0 = omega arith in z)
lines_at f u n (x ∷ X) (suc j) d h =
    lines_at f u (suc n) X j d (omega arith) ∙ ap (λ (k : ℕ). line_as (get_or X j no_start) (f k) (u k)) (let z : suc n + j ≡ n + suc j = omega arith in z)

lines_changed : (f u g v : ℕ → ℕ) (n m : ℕ) (X : List Start) (j : ℕ) → m ≡ n + j → j < length X → But m f u g v
    → lines_with g v n X ≡ set (lines_with f u n X) j (line_as (get_or X j no_start) (g m) (v m))
unfolding lines_with
lines_changed f u g v n m [] j e l h = absurd (omega arith)
lines_changed f u g v n m (x ∷ X) zero e l h =
    let z : n ≡ m = omega arith in
    ap₂ (λ (y : Line) (Y : List Line). y ∷ Y) (ap (λ (i : ℕ). line_as x (g i) (v i)) z)
    (sym (lines_same f u g v (suc n) X (λ i a b. h i (λ y. omega (arith, y)))))
lines_changed f u g v n m (x ∷ X) (suc j) e l h =
    let y = h n (λ z. omega (arith, z)) in
    ap₂ (λ (y : Line) (Y : List Line). y ∷ Y) (sym (ap₂ (line_as x) y.0 y.1)) (lines_changed f u g v (suc n) m X j (omega arith) (omega arith) h)

-- the field for the line that it goes into
pub into_field : (y : Line) → Field (line_bytes y) (bytes 4 y.into) 6
into_field y = record {
  front = bytes 2 y.weight ++ bytes 4 y.joins;
  back = set_bytes y.small ++ set_bytes y.whole;
  parts = append_assoc (head_of y.weight y.joins y.into) (set_bytes y.small) (set_bytes y.whole);
  long = omega (arith, length-append (bytes 2 y.weight) (bytes 4 y.joins), bytes_length 2 y.weight, bytes_length 4 y.joins);
}

-- ---- line m of X, numbered from 1

module _ (f u : ℕ → ℕ) (X : List Start) (rest old : List ℕ) (n m : ℕ) (e : old ≡ holding f u X rest) (l : length X ≡ n) where
  abbrev lines : List Line
  lines = lines_with f u 1 X

  -- as it is
  abbrev own : Line
  own = line_as (start_of X m) (f m) (u m)

  size_of : length old ≡ n * line_length + length rest
  size_of = omega (arith, ap length e, length-append (tree_bytes lines) rest, tree_length lines, ap (λ (k : ℕ). k * line_length) (lines_length f u 1 X ∙ l))

  -- the output has not line m: there is no such line of X
  pub outside : has_line (length old) n m ≡ false → (m < 1) ⊎ (n < m)
  outside t = go (no_line (length old) n m t)
    where
      go : (m < 1) ⊎ ((n < m) ⊎ (length old / line_length < m)) → (m < 1) ⊎ (n < m)
      go (inl a) = inl a
      go (inr (inl b)) = inr b
      go (inr (inr c)) = inr (omega (arith, size_of))

  -- the bytes `was` stand from o on in line m
  module _ (k o : ℕ) (was : List ℕ) (F : Field (line_bytes own) was o) (low : 1 ≤ m) (high : m ≤ n) (at : k ≡ (m - 1) * line_length + o) where
    inside : m - 1 < length lines
    inside = omega (arith, lines_length f u 1 X)

    within : Field (line_bytes (get_or lines (m - 1) (line_as no_start 0 0))) was o
    within = record {
      front = F.front;
      back = F.back;
      parts =
          ap line_bytes (lines_at f u 1 X (m - 1) (line_as no_start 0 0) (omega arith)
          ∙ ap (λ (i : ℕ). line_as (start_of X m) (f i) (u i)) (let z : 1 + (m - 1) ≡ m = omega arith in z))
          ∙ F.parts;
      long = F.long;
    }

    field_there : Field (holding f u X rest) was ((m - 1) * line_length + o)
    unfolding tree_bytes
    field_there = record_field line_bytes line_length line_bytes_lem lines (line_as no_start 0 0) (m - 1) o inside was within rest

    -- others are written over them: line m goes where g says and has the union that v says
    field_written : (g v : ℕ → ℕ) (is new : List ℕ) → But m f u g v → length was ≡ length is
        → line_bytes (line_as (start_of X m) (g m) (v m)) ≡ F.front ++ is ++ F.back → Writes old new k is → new ≡ holding g v X rest
    unfolding tree_bytes within
    field_written g v is new but s y w =
        record_written line_bytes line_length line_bytes_lem lines (line_as no_start 0 0) (m - 1) o inside was within rest old new is k
        (line_as (start_of X m) (g m) (v m)) e at s y w
        ∙ ap (λ (Y : List Line). tree_bytes Y ++ rest) (sym (lines_changed f u g v 1 m X (m - 1) (omega arith) (omega arith) but))

  -- no line m is there: nothing is written
  field_none : (g v : ℕ → ℕ) → But m f u g v → has_line (length old) n m ≡ false → old ≡ holding g v X rest
  field_none g v but t =
      e ∙ ap (λ (Y : List Line). tree_bytes Y ++ rest) (lines_same f u g v 1 X (λ i a b. but i (λ z. other (outside t) i a b z)))
    where
      other : (m < 1) ⊎ (n < m) → (i : ℕ) → 1 ≤ i → i < 1 + length X → i ≡ m → ⊥
      other (inl z) i a b y = omega (arith, y)
      other (inr z) i a b y = omega (arith, y, l)

  -- ---- the two fields

  module _ (v : ℕ) where
    but_into : But m f u (changed f m v) u
    but_into i h = (sym (changed_other f m v i h), refl)

    but_whole : But m f u f (changed u m v)
    but_whole i h = (refl, sym (changed_other u m v i h))

    pub into_none : has_line (length old) n m ≡ false → old ≡ holding (changed f m v) u X rest
    into_none = field_none (changed f m v) u but_into

    pub whole_none : has_line (length old) n m ≡ false → old ≡ holding f (changed u m v) X rest
    whole_none = field_none f (changed u m v) but_whole

  module _ (k : ℕ) (low : 1 ≤ m) (high : m ≤ n) where
    pub into_read : k ≡ (m - 1) * line_length + 6 → four_at old k ≡ f m % 2 ^ 32
    into_read at = ap₂ four_at e at ∙ field_four _ _ (f m) (field_there k 6 (bytes 4 (f m)) (into_field own) low high at)

    pub into_written : k ≡ (m - 1) * line_length + 6 → (v : ℕ) (new : List ℕ) → new ≡ sets old k (bytes 4 v) → new ≡ holding (changed f m v) u X rest
    unfolding into_field
    into_written at v new h =
        field_written k 6 (bytes 4 (f m)) (into_field own) low high at (changed f m v) u (bytes 4 v) new (but_into v)
        (bytes_length 4 (f m) ∙ sym (bytes_length 4 v))
        (ap (λ (i : ℕ). line_bytes (line_as (start_of X m) i (u m))) (changed_at f m v) ∙ (into_field (line_as (start_of X m) v (u m))).parts)
        (writes_sets old new (bytes 4 v) k k refl h)

    pub whole_written : k ≡ (m - 1) * line_length + whole_place → (v : ℕ) (new : List ℕ) → new ≡ with_set old k v → new ≡ holding f (changed u m v) X rest
    unfolding whole_at
    whole_written at v new h =
        field_written k whole_place (set_bytes (u m)) (whole_at own) low high at f (changed u m v) (set_bytes v) new (but_whole v)
        (set_length_lem (u m) ∙ sym (set_length_lem v))
        (ap (λ (w : ℕ). line_bytes (line_as (start_of X m) (f m) w)) (changed_at u m v) ∙ (whole_at (line_as (start_of X m) (f m) v)).parts)
        (writes_set old new k k v refl h)
