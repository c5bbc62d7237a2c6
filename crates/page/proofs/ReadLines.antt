-- What a page shows of a line that was read: its weight and its union. Assumes nothing.
use mathlib.Core.Path.{◌≡◌, ap, ◌∙◌}
use mathlib.Core.List.{List}
use Prim.Native.Nat.{ℕ, ◌+◌, ◌*◌}
use native.Mathlib.Omega.{arith}
use lib.ListN.{drop}
use Rattle.sets.specs.Value.{num}
use Rattle.percolation.specs.Tree.{Line, line_length, whole_place}
use Rattle.records.specs.Numbers.{two_at}
use Rattle.tree_lines.specs.LineModel.{line_in, line_of}
use Rattle.tree_lines.specs.declared.Line as declared
use Rattle.sets.proofs.SetBytes.{set_behind}
use Rattle.tree_lines.proofs.LineRead.{two_behind}
use Rattle.page.specs.Page.{line_weight, line_union}

module _ (b : List ℕ) (j : ℕ) (l : declared.Line) (e : line_in l ≡ line_of (drop (j * line_length) b)) where
  pub read_union : num l.whole ≡ line_union b j
  read_union = ap (λ (y : Line). y.whole) e ∙ set_behind b (j * line_length) whole_place

  pub read_weight : l.weight ≡ line_weight b j
  read_weight =
      ap (λ (y : Line). y.weight) e ∙ two_behind b (j * line_length) 0
      ∙ ap (two_at b) (let z : j * line_length + 0 ≡ j * line_length = omega arith in z)
