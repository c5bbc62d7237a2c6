-- What the call writes, whatever program meets its contract: lines whose unions hold those at their starts and lie within those of the lines that they go
-- into. Assumes nothing.
use mathlib.Core.Path.{◌≡◌, sym, ◌∙◌}
use mathlib.Core.Bool.{true}
use mathlib.Core.List.{List, ◌++◌}
use Prim.Native.Nat.{ℕ, suc, ◌<◌}
use native.Mathlib.Omega.{arith}
use lib.ListN.{length, get_or, drop}
use Rattle.answers.specs.Verdict.{accepted}
use Rattle.answers.specs.Answers.{counts, says}
use Rattle.answers.specs.Answers.{Answer}
use Rattle.answers.proofs.Laws.{then_left, said_count, written_accepted}
use Rattle.sets.specs.Sets.{sub}
use Rattle.percolation.specs.Percolate.{union_at}
use Rattle.percolation.specs.Links.{family}
use Rattle.percolation.specs.Steps.{legal}
use Rattle.percolation.specs.Tree.{Line, tree_bytes}
use Rattle.percolation.proofs.Growth.{whole_holds, whole_into}
use Rattle.sheet.specs.Sheet.{parts, links_of}
use Rattle.sheet.proofs.Sound.{sheet_legal}
use Rattle.slots.specs.Tables.{Tables}
use Rattle.runs.specs.Lent.{check_call}
use Rattle.runs.proofs.Admitted.{call_sheet}
use Rattle.merge_tree.specs.OnSheet.{tree_of, TreeMeets}

module _ (s : List ℕ) (k : ℕ) (T : Tables) (old : List ℕ) (r : Answer) (U : Tables) (out : List ℕ)
    (meets : TreeMeets s k T old r U out) (n : ℕ) (e : says r ≡ counts n) where
  -- where lines are counted every check has passed, and they are the definition's
  pub told_lines : (check_call s k T ≡ accepted) × (n ≡ length (tree_of s k)) × (out ≡ tree_bytes (tree_of s k) ++ drop (length (tree_bytes (tree_of s k))) old)
  told_lines =
      let q = said_count _ (length (tree_of s k)) n (sym e ∙ meets.writes.answer) in
      (then_left (check_call s k T) _ q.0, q.1, meets.writes.bytes ∙ written_accepted _ (tree_bytes (tree_of s k)) old q.0)

  lawful : legal (parts s) (links_of s) ≡ true
  lawful = sheet_legal s (call_sheet s k T told_lines.0)

  -- a line's union holds the union of its class at its start
  pub told_holds : (j : ℕ) (d : Line) → j < n
      → sub (union_at k (family (links_of s) (parts s) k (get_or (tree_of s k) j d).weight) (get_or (tree_of s k) j d).small)
      (get_or (tree_of s k) j d).whole ≡ true
  unfolding tree_of
  told_holds j d l = whole_holds (links_of s) (parts s) k lawful j d (omega (arith, l, told_lines.1))

  -- and lies within the union of the line that it goes into
  pub told_into : (i j : ℕ) (d : Line) → i < n → (get_or (tree_of s k) i d).into ≡ suc j
      → (j < n) × (sub (get_or (tree_of s k) i d).whole (get_or (tree_of s k) j d).whole ≡ true)
  unfolding tree_of
  told_into i j d l z =
      let q = whole_into (links_of s) (parts s) k lawful i j d (omega (arith, l, told_lines.1)) z in
      (omega (arith, q.0, told_lines.1), q.1)
