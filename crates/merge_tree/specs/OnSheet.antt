-- The merge tree of a sheet, and what the call must do. Assumes nothing.
use Rattle.std.specs.Prelude.{List, ℕ, length}
use Rattle.answers.specs.Answers.{Answer}
use Rattle.percolation.specs.Steps.{enough}
use Rattle.percolation.specs.Tree.{Line, tree, tree_bytes}
use Rattle.sheet.specs.Sheet.{parts, links_of}
use Rattle.slots.specs.Tables.{Tables}
use Rattle.runs.specs.Lent.{check_call}
use Rattle.runs.specs.OnSheet.{CallMeets, slots_of}

-- the merge tree of a sheet
unfoldable pub tree_of : List ℕ → ℕ → List Line
unfolding tree links_of
tree_of s k = tree (links_of s) (parts s) k

-- what the call must do: 15 counts the slots of all links
abbrev pub TreeMeets : List ℕ → ℕ → Tables → List ℕ → Answer → Tables → List ℕ → Type 0
TreeMeets s k T old r U out =
    CallMeets (check_call s k T) (enough (length T.entries) (slots_of s k)) (length (tree_of s k)) (tree_bytes (tree_of s k)) T old r U out
