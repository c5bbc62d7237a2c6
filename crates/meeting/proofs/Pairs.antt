-- 13 of a checked sheet: both sets are k-cliques of all its links; the checks before 15 in order. Assumes nothing.
use mathlib.Core.Path.{◌≡◌, sym, ap, ◌∙◌}
use mathlib.Core.Bool.{Bool, true, ◌&&◌}
use mathlib.Core.List.{List}
use Prim.Native.Nat.{ℕ, ◌≤◌}
use native.Mathlib.Omega.{arith}
use lib.Dec.{eqb}
use lib.ListN.{take}
use Rattle.answers.specs.Verdict.{Verdict, accepted, refused, unless}
use Rattle.answers.proofs.Laws.{then_left, then_right, then_stop, then_go, unless_passed}
use Rattle.sets.specs.Lists.{◌∈◌, any}
use Rattle.sets.specs.Value.{width, no_rows}
use Rattle.sets.proofs.Tests.{and_left, and_right}
use Rattle.sets.proofs.ListLaws.{elem_of}
use Rattle.percolation.specs.Links.{Link, cliques}
use Rattle.percolation.specs.Steps.{legal}
use Rattle.checks.specs.Neighbours.{Neighbours}
use Rattle.slots.specs.Tables.{Tables}
use Rattle.sheet.specs.Sheet.{parts, links, links_of, check_sheet}
use Rattle.sheet.proofs.Sound.{sheet_legal}
use Rattle.runs.specs.Lent.{check_call}
use Rattle.runs.specs.Model.{rows_with}
use Rattle.runs.proofs.InSheet.{first_all, first_near, parts_width}
use Rattle.meeting.specs.Answers.{is_clique, check_pair}

clique_member : (s : List ℕ) (k x : ℕ) → is_clique s k x ≡ true → x ∈ cliques (links_of s) (parts s) k
unfolding is_clique
clique_member s k x t = elem_of x (cliques (links_of s) (parts s) k) t

-- what the code says of a set, by the rows of neighbours of all links, is what 13 asks
pub sheet_clique : (s : List ℕ) → check_sheet s ≡ accepted → (m : ℕ) → m ≡ links s → (R : List ℕ) → R ≡ rows_with no_rows (take m (links_of s))
    → (p k x : ℕ) (r : Bool) → p ≡ parts s
    → ((L : List Link) → Neighbours L R → legal p L ≡ true → p ≤ width → r ≡ any (eqb x) (cliques L p k)) → r ≡ is_clique s k x
unfolding is_clique
sheet_clique s ok m all R rows p k x r e f =
    f (links_of s) (first_near s ok m (links_of s) (first_all s m all) R rows) (ap (λ (z : ℕ). legal z (links_of s)) e ∙ sheet_legal s ok)
    (omega (arith, e, parts_width s ok))
    ∙ ap (λ (z : ℕ). any (eqb x) (cliques (links_of s) z k)) e

-- ---- the verdict: the sheet's checks, 10 and 11, then 13

module _ (s : List ℕ) (k a b : ℕ) (T : Tables) where
  pub pair_early : (n x : ℕ) → check_call s k T ≡ refused n x → check_pair s k a b T ≡ refused n x
  unfolding check_pair
  pair_early n x e = then_stop (check_call s k T) (unless (is_clique s k a && is_clique s k b) 13 0) n x e

  -- 13, or let through
  pub pair_13 : check_call s k T ≡ accepted → (v : Verdict) → v ≡ unless (is_clique s k a && is_clique s k b) 13 0 → check_pair s k a b T ≡ v
  unfolding check_pair
  pair_13 e v f = then_go (check_call s k T) (unless (is_clique s k a && is_clique s k b) 13 0) e ∙ sym f

  -- what they have that pass
  module _ (ok : check_pair s k a b T ≡ accepted) where
    pub pair_call : check_call s k T ≡ accepted
    unfolding check_pair
    pair_call = then_left (check_call s k T) (unless (is_clique s k a && is_clique s k b) 13 0) ok

    both : is_clique s k a && is_clique s k b ≡ true
    unfolding check_pair
    both = unless_passed (is_clique s k a && is_clique s k b) 13 0 (then_right (check_call s k T) (unless (is_clique s k a && is_clique s k b) 13 0) ok)

    pub pair_first_lem : a ∈ cliques (links_of s) (parts s) k
    pair_first_lem = clique_member s k a (and_left (is_clique s k a) (is_clique s k b) both)

    pub pair_second : b ∈ cliques (links_of s) (parts s) k
    pair_second = clique_member s k b (and_right (is_clique s k a) (is_clique s k b) both)
