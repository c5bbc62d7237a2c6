-- What either run gives of the first links of an admitted sheet is what the call asks for by that method. Assumes nothing.
use mathlib.Core.Path.{◌≡◌, sym, ap, ◌∙◌, subst}
use mathlib.Core.Bool.{Bool, true}
use mathlib.Core.List.{List}
use Prim.Native.Nat.{ℕ, ◌≤◌}
use native.Mathlib.Omega.{arith}
use lib.Dec.{leb}
use lib.ListN.{length, take}
use Rattle.answers.specs.Verdict.{accepted}
use Rattle.answers.specs.Answers.{Answer}
use Rattle.sets.specs.Value.{width, rows, no_rows}
use Rattle.percolation.specs.Links.{Link, heavy, family, cliques, listing, maximals, slots}
use Rattle.percolation.specs.Steps.{legal, enough}
use Rattle.percolation.proofs.Ranges.{good_k_lem}
use Rattle.checks.specs.Neighbours.{Neighbours}
use Rattle.slots.specs.Tables.{Tables, room}
use Rattle.slots.proofs.Lengths.{room_within, enough_is, level_sets, level_smallest, level_unions}
use Rattle.sheet.specs.Sheet.{parts, links_of}
use Rattle.runs.specs.declared.Method.{Method}
use Rattle.runs.specs.declared.Method.TheVariants.{Sequential, Maximal}
use Rattle.runs.specs.Lent.{check_call}
use Rattle.runs.specs.Model.{rows_with}
use Rattle.runs.specs.OnSheet.{RunLists, listing_of, slots_for, maximals_for, count_for, MethodMeets}
use Rattle.runs.proofs.Admitted.{call_sheet, call_k, call_level}
use Rattle.runs.proofs.InSheet.{parts_width, first_legal, first_near}
use Rattle.runs.proofs.Left.{level_of_lem}

module _ (s : List ℕ) (k : ℕ) (T : Tables) (ok : check_call s k T ≡ accepted) where
  -- what the maximal-clique run requires
  pub run_ranges : (p : ℕ) → p ≡ parts s → (p ≤ width) × (1 ≤ k)
  run_ranges p same = (omega (arith, parts_width s (call_sheet s k T ok), same), omega (arith, (good_k_lem k (call_k s k T ok)).0))

  pub run_room : (room T.entries ≤ rows T.sets) × (room T.entries ≤ rows T.smallest) × (room T.entries ≤ rows T.unions)
  run_room =
      let level = level_of_lem T (call_level s k T ok) in
      let in_all = room_within T.entries in
      (omega (arith, level_sets T level, in_all.0), omega (arith, level_smallest T level, in_all.0), omega (arith, level_unions T level, in_all.0))

  -- the first n links are those of weight t or more
  module _ (n t : ℕ) (first : take n (links_of s) ≡ heavy t (links_of s)) (old out : List ℕ) (a : Answer) where
    abbrev L : List Link
    L = heavy t (links_of s)

    pub by_sequential : (m : Method) → m ≡ Sequential
        → RunLists (enough (length T.entries) (slots (parts s) k (cliques (take n (links_of s)) (parts s) k))) (take n (links_of s)) (parts s) k old a out
        → MethodMeets m s k t (length T.entries) old a out
    unfolding count_for listing_of listing family slots_for
    by_sequential m e w =
        subst (λ (x : Method). MethodMeets x s k t (length T.entries) old a out) (sym e)
        (subst (λ (N : List Link). RunLists (enough (length T.entries) (slots (parts s) k (cliques N (parts s) k))) N (parts s) k old a out) first w)

    -- by the rows of neighbours R
    pub by_maximal : (m : Method) → m ≡ Maximal → (R : List ℕ) (p : ℕ) → R ≡ rows_with no_rows (take n (links_of s)) → p ≡ parts s
        → ((N : List Link) → legal p N ≡ true → Neighbours N R → RunLists (leb (length (maximals N p k)) (room T.entries)) N p k old a out)
        → MethodMeets m s k t (length T.entries) old a out
    unfolding count_for listing_of listing family maximals_for
    by_maximal m e R p are same w =
        let sheet = call_sheet s k T ok in
        subst (λ (x : Method). MethodMeets x s k t (length T.entries) old a out) (sym e)
        (subst (λ (f : Bool). RunLists f L (parts s) k old a out) (sym (enough_is T.entries (maximals_for s k t)))
        (subst (λ (q : ℕ). RunLists (leb (length (maximals L q k)) (room T.entries)) L q k old a out) same
        (w L (ap (λ (q : ℕ). legal q L) same ∙ first_legal s sheet n L first) (first_near s sheet n L first R are))))
