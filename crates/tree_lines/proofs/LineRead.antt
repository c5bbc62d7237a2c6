-- A line read from its bytes: each field is what was written there, and so is the whole line where its numbers fit their fields. Assumes nothing.
use mathlib.Core.Path.{◌≡◌, refl, ap, ap₂, ◌∙◌}
use mathlib.Core.List.{List, [], ◌++◌, append_assoc}
use Prim.Native.Nat.{ℕ, ◌+◌, ◌*◌, ◌%◌, ◌^◌, ◌<◌}
use native.Mathlib.Omega.{arith}
use lib.ListN.{length, get_or, drop}
use Rattle.std.proofs.lemmas.List.{get_or-drop}
use Rattle.sets.specs.Value.{width, bytes, set_bytes}
use Rattle.sets.proofs.SetBytes.{bytes_length, set_behind}
use Rattle.percolation.specs.Tree.{Line, line, whole_place, tree_bytes}
use Rattle.records.specs.Numbers.{two_at, four_at}
use Rattle.records.proofs.Numbers.{Field, field_two, field_four, field_set}
use Rattle.records.proofs.InBytes.{record_field}
use Rattle.tree_lines.specs.LineModel.{line_length, line_bytes, line_of}
use Rattle.tree_lines.proofs.LinePlaces.{line_bytes_lem, small_at, whole_at}
use Rattle.tree_lines.proofs.LineFields.{into_field}

-- ---- read behind the first n bytes

module _ (b : List ℕ) (n : ℕ) where
  pub two_behind : (i : ℕ) → two_at (drop n b) i ≡ two_at b (n + i)
  two_behind i =
      ap₂ (λ (x y : ℕ). x * 256 + y) (get_or-drop n b i 0)
      (get_or-drop n b (i + 1) 0 ∙ ap (λ (k : ℕ). get_or b k 0) (let z : n + (i + 1) ≡ n + i + 1 = omega arith in z))

  pub four_behind : (i : ℕ) → four_at (drop n b) i ≡ four_at b (n + i)
  four_behind i =
      ap₂ (λ (x y : ℕ). x * 65536 + y) (two_behind i) (two_behind (i + 2) ∙ ap (two_at b) (let z : n + (i + 2) ≡ n + i + 2 = omega arith in z))

-- ---- the fields of line j of X

-- the numbers of a line fit their fields
pub record Narrow (x : Line) : Type 0 where
  pub weight : x.weight < 2 ^ 16
  pub joins : x.joins < 2 ^ 32
  pub into : x.into < 2 ^ 32
  pub small : x.small < 2 ^ width
  pub whole : x.whole < 2 ^ width

module _ (X : List Line) (d : Line) (j : ℕ) (h : j < length X) (rest : List ℕ) where
  abbrev x : Line
  x = get_or X j d

  abbrev b : List ℕ
  b = tree_bytes X ++ rest

  at_field : (o : ℕ) (v : List ℕ) → Field (line_bytes x) v o → Field b v (j * line_length + o)
  unfolding tree_bytes
  at_field o v F = record_field line_bytes line_length line_bytes_lem X d j o h v F rest

  weight_field : Field (line_bytes x) (bytes 2 x.weight) 0
  weight_field = record {
    front = [];
    back = bytes 4 x.joins ++ bytes 4 x.into ++ set_bytes x.small ++ set_bytes x.whole;
    parts = simp append_assoc;
    long = refl;
  }

  joins_field : Field (line_bytes x) (bytes 4 x.joins) 2
  joins_field = record {
    front = bytes 2 x.weight;
    back = bytes 4 x.into ++ set_bytes x.small ++ set_bytes x.whole;
    parts = simp append_assoc;
    long = bytes_length 2 x.weight;
  }

  pub weight_read : (line_of (drop (j * line_length) b)).weight ≡ x.weight % 65536
  weight_read = two_behind b (j * line_length) 0 ∙ field_two b (j * line_length + 0) x.weight (at_field 0 (bytes 2 x.weight) weight_field)

  pub joins_read : (line_of (drop (j * line_length) b)).joins ≡ x.joins % 2 ^ 32
  joins_read = four_behind b (j * line_length) 2 ∙ field_four b (j * line_length + 2) x.joins (at_field 2 (bytes 4 x.joins) joins_field)

  pub into_field_read : (line_of (drop (j * line_length) b)).into ≡ x.into % 2 ^ 32
  into_field_read = four_behind b (j * line_length) 6 ∙ field_four b (j * line_length + 6) x.into (at_field 6 (bytes 4 x.into) (into_field x))

  pub small_read : x.small < 2 ^ width → (line_of (drop (j * line_length) b)).small ≡ x.small
  small_read l = set_behind b (j * line_length) 10 ∙ field_set b (j * line_length + 10) x.small (at_field 10 (set_bytes x.small) (small_at x)) l

  pub whole_read : x.whole < 2 ^ width → (line_of (drop (j * line_length) b)).whole ≡ x.whole
  whole_read l =
      set_behind b (j * line_length) whole_place
      ∙ field_set b (j * line_length + whole_place) x.whole (at_field whole_place (set_bytes x.whole) (whole_at x)) l

  -- what was written is read back
  pub line_read : Narrow x → line_of (drop (j * line_length) b) ≡ x
  line_read f =
      let e : x.weight % 65536 ≡ x.weight = omega (arith, f.weight) in
      let g : x.joins % 2 ^ 32 ≡ x.joins = omega (arith, f.joins) in
      let i : x.into % 2 ^ 32 ≡ x.into = omega (arith, f.into) in
      ap₂ (λ (w n : ℕ). line w n (line_of (drop (j * line_length) b)).into (line_of (drop (j * line_length) b)).small
      (line_of (drop (j * line_length) b)).whole) (weight_read ∙ e) (joins_read ∙ g)
      ∙ ap (λ (n : ℕ). line x.weight x.joins n (line_of (drop (j * line_length) b)).small (line_of (drop (j * line_length) b)).whole) (into_field_read ∙ i)
      ∙ ap₂ (λ (s u : ℕ). line x.weight x.joins x.into s u) (small_read f.small) (whole_read f.whole)
