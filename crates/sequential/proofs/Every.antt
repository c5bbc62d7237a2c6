-- The first part of demand 3: one claim over every list of inserts and takings back from an accepted start, refused ones included. Assumes nothing.
use mathlib.Core.Path.{◌≡◌, refl, sym, ap, ap₂, ◌∙◌, subst⁻¹}
use mathlib.Core.Bool.{true}
use mathlib.Core.List.Memᴰ
use mathlib.Core.List.{List, [], ◌∷◌, map}
use Prim.Native.Nat.{ℕ}
use lib.ListN.{length, replicate, length-replicate}
use borrow.Author.Tests.{eqb-true}
use Rattle.answers.specs.Verdict.{Verdict, accepted, ◌then◌, unless}
use Rattle.answers.specs.Answers.{Said, say_of}
use Rattle.answers.proofs.Laws.{then_left, then_right, unless_passed}
use Rattle.percolation.specs.Links.{Link, cliques}
use Rattle.percolation.specs.Ranges.{good_count, good_k}
use Rattle.percolation.specs.Steps.{Step, accept, front, check_step, after_step, remaining_links, step_answers}
use Rattle.percolation.proofs.Ranges.{good_k_lem}
use Rattle.percolation.proofs.Accepted.{legal_none}
use Rattle.percolation.proofs.ChainClasses.{all_chains}
use Rattle.checks.proofs.Near.{near_none}
use Rattle.checks.specs.Neighbours.{Neighbours, last_weight}
use Rattle.sets.specs.Value.{no_rows}
use Rattle.slots.specs.Tables.{Tables}
use Rattle.slots_theory.specs.Shows.{Shows}
use Rattle.runs.specs.Lent.{level, left, cleared}
use Rattle.runs.proofs.Left.{cleared_shown}
use Rattle.journal.specs.Journal.{journal_length, whole, journal_of}
use Rattle.states.specs.declared.State.{State}
use Rattle.sequential.specs.declared.Stepped.{Stepped}
use Rattle.sequential.specs.Steps.{state, check_start, start_state, left_journal, Holds, StartMeets}
use Rattle.sequential.specs.EveryList.{Runs, none, insertion, taking, Claim}
use Rattle.sequential.proofs.Inserting.{used_is, held_all}

-- an accepted start holds no links
module _ (p k : ℕ) (T : Tables) (J : List ℕ) (r : Stepped) (U : Tables) (K : List ℕ) (m : StartMeets p k T J r U K) (ok : check_start p k T J ≡ accepted) where
  start_count : good_count p ≡ true
  unfolding check_start
  start_count = unless_passed (good_count p) 4 0 (then_left (unless (good_count p) 4 0) _ ok)

  past_4 : (unless (good_k k) 10 0 then unless (level T) 11 0 then unless (whole J) 20 0) ≡ accepted
  unfolding check_start
  past_4 = then_right (unless (good_count p) 4 0) _ ok

  start_k : good_k k ≡ true
  start_k = unless_passed (good_k k) 10 0 (then_left (unless (good_k k) 10 0) _ past_4)

  past_10 : (unless (level T) 11 0 then unless (whole J) 20 0) ≡ accepted
  past_10 = then_right (unless (good_k k) 10 0) _ past_4

  start_level : level T ≡ true
  start_level = unless_passed (level T) 11 0 (then_left (unless (level T) 11 0) _ past_10)

  start_whole : length J ≡ journal_length
  start_whole = eqb-true (length J) journal_length (unless_passed (whole J) 20 0 (then_right (unless (level T) 11 0) _ past_10))

  pub start_holds : Holds p k (length T.entries) [] r.state U K
  unfolding start_state left cleared last_weight left_journal journal_of
  start_holds = record {
    count = start_count;
    size = start_k;
    same_p = ap (λ (S : State). S.p) began;
    same_k = ap (λ (S : State). S.k) began;
    same_used = ap (λ (S : State). S.used) began ∙ sym (ap (λ (W : Tables). W.used) zeroed);
    last = ap (λ (S : State). S.last) began;
    near = subst⁻¹ (λ (S : State). Neighbours [] S.rows) began near_none;
    links = legal_none p;
    slots = ap (λ (W : Tables). length W.entries) zeroed ∙ length-replicate (length T.entries) 0;
    shows = subst⁻¹ (Shows p k (cliques [] p k)) zeroed (cleared_shown p k T (good_k_lem k start_k).0 start_level);
    many = ap (λ (S : State). S.links) began;
    narrow = λ l i. absurd (Memᴰ.not-nil i);
    journal = m.journal ∙ ap (λ (v : Verdict). left_journal v J) ok ∙ ap (λ (i : ℕ). replicate i 0) start_whole;
  }
    where
      began : r.state ≡ state p k 0 (last_weight []) 0 no_rows
      began = m.state ∙ ap (λ (v : Verdict). start_state v p k) ok

      zeroed : U ≡ cleared T
      zeroed = m.tables ∙ ap (λ (v : Verdict). left v T) ok

-- steps from links that are held
pub steps_held : (p k n : ℕ) (L : List Link) {S : State} {T : Tables} {J : List ℕ} {X : List Step} {A : List Said} {E : State} {W : Tables} {M : List ℕ}
    → Runs S T J X A E W M → Holds p k n L S T J
    → (A ≡ map (λ v. say_of v 0) (step_answers p k n L X)) × Holds p k n (remaining_links p k n L X) E W M
unfolding step_answers remaining_links check_step after_step
steps_held p k n L (none S T J) h = (refl, h)
steps_held p k n L (insertion S T J l r U K Y B E W M m i) h =
    let g = steps_held p k n (accept p k n L l) i (m.holds p k n L h) in (ap₂ (λ (a : Said) (C : List Said). a ∷ C) (m.answer p k n L h) g.0, g.1)
steps_held p k n L (taking S T J r U K Y B E W M m i) h =
    let g = steps_held p k n (front L) i (m.holds p k n L h) in (ap₂ (λ (a : Said) (C : List Said). a ∷ C) (m.answer p k n L h) g.0, g.1)

-- the claim
pub every_list : (p k : ℕ) (T : Tables) (J : List ℕ) (r : Stepped) (U : Tables) (K : List ℕ) → StartMeets p k T J r U K → check_start p k T J ≡ accepted
    → (X : List Step) (A : List Said) (S : State) (W : Tables) (M : List ℕ) → Runs r.state U K X A S W M → Claim p k (length T.entries) X A S W M
every_list p k T J r U K m ok X A S W M i =
    let n = length T.entries in
    let g = steps_held p k n [] i (start_holds p k T J r U K m ok) in
    record {
      answers = g.0;
      passes = held_all p k n _ S W M g.1;
      holds = g.1;
      many = g.1.many;
      used = g.1.same_used ∙ used_is p k n _ S W M g.1;
      last = g.1.last;
      journal = g.1.journal;
      now = λ old a out l. record { chains = all_chains (remaining_links p k n [] X) p k; lists = l.lists p k n _ M g.1 };
    }
