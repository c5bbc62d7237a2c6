-- What a start must do is what the code does: refused by 4, 10, 11 or 20, and accepted. Assumes nothing.
use mathlib.Core.Path.{◌≡◌, sym, ap, ◌∙◌}
use mathlib.Core.List.{List}
use Prim.Native.Nat.{ℕ}
use lib.ListN.{length, replicate}
use Rattle.answers.specs.Verdict.{Verdict, accepted, refused, unless}
use Rattle.answers.specs.Answers.{counts, refuses, says}
use Rattle.answers.proofs.Laws.{then_stop, then_go, say_refused, say_accepted}
use Rattle.sets.specs.Value.{no_rows}
use Rattle.percolation.specs.Ranges.{good_count, good_k}
use Rattle.slots.specs.Tables.{Tables}
use Rattle.runs.specs.Lent.{level, cleared}
use Rattle.runs.proofs.Left.{left_passed, left_refused}
use Rattle.journal.specs.Journal.{whole}
use Rattle.sequential.specs.declared.Stepped.{Stepped}
use Rattle.sequential.specs.Steps.{state, check_start, start_state, left_journal, StartMeets}

module _ (p k : ℕ) (T : Tables) (J : List ℕ) where
  pub start_first : (n a : ℕ) → unless (good_count p) 4 0 ≡ refused n a → check_start p k T J ≡ refused n a
  unfolding check_start
  start_first n a e = then_stop (unless (good_count p) 4 0) _ n a e

  module _ (one : unless (good_count p) 4 0 ≡ accepted) where
    pub start_second : (n a : ℕ) → unless (good_k k) 10 0 ≡ refused n a → check_start p k T J ≡ refused n a
    unfolding check_start
    start_second n a e = then_go (unless (good_count p) 4 0) _ one ∙ then_stop (unless (good_k k) 10 0) _ n a e

    module _ (two : unless (good_k k) 10 0 ≡ accepted) where
      pub start_third : (n a : ℕ) → unless (level T) 11 0 ≡ refused n a → check_start p k T J ≡ refused n a
      unfolding check_start
      start_third n a e =
          then_go (unless (good_count p) 4 0) _ one ∙ then_go (unless (good_k k) 10 0) _ two ∙ then_stop (unless (level T) 11 0) _ n a e

      pub start_last : unless (level T) 11 0 ≡ accepted → (v : Verdict) → unless (whole J) 20 0 ≡ v → check_start p k T J ≡ v
      unfolding check_start
      start_last three v e =
          then_go (unless (good_count p) 4 0) _ one ∙ then_go (unless (good_k k) 10 0) _ two ∙ then_go (unless (level T) 11 0) _ three ∙ e

  module _ (r : Stepped) (U : Tables) (K : List ℕ) where
    pub not_meets : (n i : ℕ) → check_start p k T J ≡ refused n i → says r.answer ≡ refuses n i → r.state ≡ state 0 0 0 0 0 no_rows → U ≡ T → K ≡ J
        → StartMeets p k T J r U K
    unfolding start_state left_journal
    not_meets n i e a s t j = record {
      answer = a ∙ sym (say_refused (check_start p k T J) 0 n i e);
      state = s ∙ sym (ap (λ (v : Verdict). start_state v p k) e);
      tables = t ∙ sym (left_refused n i (check_start p k T J) T e);
      journal = j ∙ sym (ap (λ (v : Verdict). left_journal v J) e);
    }

    pub begun_meets : check_start p k T J ≡ accepted → says r.answer ≡ counts 0 → (R : List ℕ) → R ≡ no_rows → r.state ≡ state p k 0 65535 0 R
        → U ≡ cleared T → K ≡ replicate (length J) 0 → StartMeets p k T J r U K
    unfolding start_state left_journal
    begun_meets e a R m s t j = record {
      answer = a ∙ sym (say_accepted (check_start p k T J) 0 e);
      state = s ∙ ap (state p k 0 65535 0) m ∙ sym (ap (λ (v : Verdict). start_state v p k) e);
      tables = t ∙ sym (left_passed (check_start p k T J) T e);
      journal = j ∙ sym (ap (λ (v : Verdict). left_journal v J) e);
    }
