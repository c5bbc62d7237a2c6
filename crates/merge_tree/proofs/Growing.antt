-- The merge tree of a sheet: 16 by the lines counted, and the lines written. Assumes nothing.
use mathlib.Core.Path.{◌≡◌, refl, sym, ap, ◌∙◌}
use mathlib.Core.Bool.{Bool, true}
use mathlib.Core.List.{List}
use Prim.Native.Nat.{ℕ, ◌*◌, ◌≤◌}
use native.Mathlib.Omega.{arith}
use lib.Dec.{leb}
use lib.ListN.{length, take}
use borrow.Author.Tests.{le-leb, leb-true}
use Rattle.std.specs.Prelude.{Ok, Err}
use Rattle.answers.specs.declared.Refusal.{Refusal}
use Rattle.answers.specs.Faults.{number_of}
use Rattle.answers.specs.Verdict.{accepted, refused, unless, written}
use Rattle.answers.specs.Answers.{counts}
use Rattle.answers.proofs.Laws.{last_go, unless_passed}
use Rattle.sets.proofs.Tests.{iff}
use Rattle.percolation.specs.Links.{cliques, slots}
use Rattle.percolation.specs.Steps.{enough}
use Rattle.percolation.specs.Tree.{tree_bytes}
use Rattle.sheet.specs.Sheet.{parts, links, links_of}
use Rattle.slots.specs.declared.Lent.{Lent}
use Rattle.slots.specs.Tables.{Tables}
use Rattle.slots.specs.Lent.{SameLent, tables_of}
use Rattle.listings.specs.Listing.{check_out}
use Rattle.listings.proofs.Outputs.{writes_refused, writes_all}
use Rattle.runs.specs.Lent.{level, check_call}
use Rattle.runs.specs.OnSheet.{RunMeets, slots_of}
use Rattle.runs.proofs.Admitted.{call_sheet, call_k, call_level, call_past}
use Rattle.runs.proofs.Calls.{run_whole, slots_all}
use Rattle.runs.proofs.Left.{level_kept}
use Rattle.merge_tree.specs.OnSheet.{tree_of}
use Rattle.tree_lines.specs.LineModel.{line_length, line_count}
use Rattle.tree_lines.proofs.LinePlaces.{tree_length}

-- the call would be let through with the lent tables as they are later
pub grow_again : (s : List ℕ) (k : ℕ) (l m : Lent) → SameLent l m → check_call s k (tables_of l 0) ≡ accepted → check_call s k (tables_of m 0) ≡ accepted
grow_again s k l m h ok =
    call_past s k (tables_of m 0) (call_sheet s k (tables_of l 0) ok) (last_go _ 10 0 (call_k s k (tables_of l 0) ok)) accepted
    (last_go (level (tables_of m 0)) 11 0
    (level_kept (tables_of l 0) (tables_of m 0) record {
      entries = h.entries_length;
      sets = h.sets_length;
      smallest = h.smallest_length;
      unions = h.unions_length;
      more = omega arith;
      fits = λ i. omega arith;
    }
    ∙ call_level s k (tables_of l 0) ok))

-- 15, by a view of the tables
pub told_slots : (s : List ℕ) (k : ℕ) (T V : Tables) → V ≡ T → (m : ℕ) → m ≡ links s → (f : Bool)
    → f ≡ enough (length V.entries) (slots (parts s) k (cliques (take m (links_of s)) (parts s) k)) → f ≡ enough (length T.entries) (slots_of s k)
told_slots s k T V v m all f e = slots_all s k T.entries m all f (rw v at e)

-- room for n lines, where the output has room for as many as the code says
module _ (s : List ℕ) (k : ℕ) (old : List ℕ) (n room : ℕ) (lines : n ≡ length (tree_of s k)) (long : room ≡ line_count old) where
  whole : length (tree_bytes (tree_of s k)) ≡ n * line_length
  whole = tree_length (tree_of s k) ∙ ap (λ (x : ℕ). x * line_length) (sym lines)

  -- 16
  grow_test : unless (leb n room) 16 0 ≡ check_out (tree_bytes (tree_of s k)) (length old)
  unfolding check_out
  grow_test = ap (λ (t : Bool). unless t 16 0) (iff (leb n room) (leb (length (tree_bytes (tree_of s k))) (length old)) to fro)
    where
      to : leb n room ≡ true → leb (length (tree_bytes (tree_of s k))) (length old) ≡ true
      to e = le-leb (length (tree_bytes (tree_of s k))) (length old) (omega (arith, whole, long, leb-true n room e))

      fro : leb (length (tree_bytes (tree_of s k))) (length old) ≡ true → leb n room ≡ true
      fro e = le-leb n room (omega (arith, whole, long, leb-true (length (tree_bytes (tree_of s k))) (length old) e))

  pub grow_room : accepted ≡ unless (leb n room) 16 0 → length (tree_bytes (tree_of s k)) ≤ length old
  grow_room e = omega (arith, whole, long, leb-true n room (unless_passed (leb n room) 16 0 (sym e)))

  module _ (fits : Bool) (enough-slots : fits ≡ true) where
    pub grow_full : (f : Refusal) → refused (number_of f.fault) f.place ≡ unless (leb n room) 16 0
        → RunMeets fits (length (tree_of s k)) (tree_bytes (tree_of s k)) old (Err f) old
    grow_full f e =
        run_whole fits _ _ old (Err f) old enough-slots (writes_refused _ _ _ old (Err f) (number_of f.fault) f.place (sym (e ∙ grow_test)) refl)

    pub grow_whole : accepted ≡ unless (leb n room) 16 0 → (out : List ℕ) → out ≡ written accepted (tree_bytes (tree_of s k)) old
        → RunMeets fits (length (tree_of s k)) (tree_bytes (tree_of s k)) old (Ok n) out
    grow_whole e out f = run_whole fits _ _ old (Ok n) out enough-slots (writes_all _ _ _ old (Ok n) out (sym (e ∙ grow_test)) (ap counts lines) f)
