-- The lines that the call wrote stand on a page with the names of the same sheet, whatever programs meet the contracts: up to 999,999 lines 24 is never told.
-- Assumes nothing.
use mathlib.Core.Path.{◌≡◌, ap, ◌∙◌}
use mathlib.Core.List.{List, ◌++◌}
use Prim.Native.Nat.{ℕ, ◌*◌, ◌≤◌, ◌<◌}
use native.Mathlib.Omega.{arith}
use lib.ListN.{length, take, drop}
use lib.Seq.{take_at}
use Rattle.answers.specs.Verdict.{accepted}
use Rattle.answers.specs.Answers.{counts, refuses, says}
use Rattle.answers.specs.Answers.{Answer}
use Rattle.percolation.specs.Tree.{line_length, tree_bytes}
use Rattle.slots.specs.Tables.{Tables}
use Rattle.tree_lines.proofs.LinePlaces.{tree_length}
use Rattle.runs.proofs.Admitted.{call_sheet}
use Rattle.page.specs.Page.{page_rows, page_of, check_page, RowsMeets, PageMeets}
use Rattle.page.proofs.TreePages.{tree_pages}
use Rattle.page.proofs.Answered.{rows_told, page_told, short_told}
use Rattle.merge_tree.specs.OnSheet.{tree_of, TreeMeets}
use Rattle.merge_tree.proofs.GrownLines.{told_lines}

module _ (s : List ℕ) (k : ℕ) (T : Tables) (old : List ℕ) (r : Answer) (U : Tables) (out : List ℕ) (meets : TreeMeets s k T old r U out) where
  module _ (n : ℕ) (e : says r ≡ counts n) (few : n ≤ 999999) (lines : List ℕ) (z : lines ≡ take (n * line_length) out) where
    lines_whole : lines ≡ tree_bytes (tree_of s k)
    lines_whole =
        let t = told_lines s k T old r U out meets n e in
        let size : length (tree_bytes (tree_of s k)) ≡ n * line_length = omega (arith, tree_length (tree_of s k), t.1) in
        z ∙ ap (take (n * line_length)) t.2 ∙ take_at (tree_bytes (tree_of s k)) (drop (length (tree_bytes (tree_of s k))) old) (n * line_length) size

    -- the lines written pass every check of a page
    pub told_good : check_page s lines ≡ accepted
    unfolding tree_of
    told_good =
        let t = told_lines s k T old r U out meets n e in
        ap (check_page s) lines_whole ∙ tree_pages s k (call_sheet s k T t.0) (omega (arith, few, t.1))

    -- so their rows are counted
    pub told_rows : (q : Answer) → RowsMeets s lines q → says q ≡ counts (length (page_rows s lines))
    told_rows q Q = rows_told s lines told_good q Q

    -- and written where there is room for them; 16 is told where there is not
    pub told_pages : (room : List ℕ) (q : Answer) (page : List ℕ) → PageMeets s lines room q page
        → (73 * length (page_rows s lines) ≤ length room
        → (says q ≡ counts (length (page_rows s lines))) × (page ≡ page_of s lines ++ drop (73 * length (page_rows s lines)) room))
        × (length room < 73 * length (page_rows s lines) → (says q ≡ refuses 16 0) × (page ≡ room))
    told_pages room q page P = (page_told s lines told_good room q page P, short_told s lines told_good room q page P)
