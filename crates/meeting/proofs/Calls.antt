-- A meeting by its parts: from 15 on, refused before 15, and let through. Assumes nothing.
use mathlib.Core.Path.{◌≡◌, sym, ap, ◌∙◌}
use mathlib.Core.Bool.{Bool, true}
use mathlib.Core.List.{List}
use Prim.Native.Nat.{ℕ}
use Rattle.std.specs.Prelude.{Option, Ok, Err}
use Rattle.answers.specs.declared.Refusal.{Refusal}
use Rattle.answers.specs.Faults.{number_of}
use Rattle.answers.specs.Verdict.{Verdict, accepted, refused, unless}
use Rattle.answers.proofs.Laws.{last_go, then_stop, then_go}
use Rattle.percolation.specs.Levels.{Meeting}
use Rattle.slots.specs.Tables.{Tables}
use Rattle.sheet.specs.Answers.{SheetSaid, holds, faulty, sheet_say}
use Rattle.sheet.proofs.Said.{said_faulty, said_holds}
use Rattle.runs.specs.Lent.{cleared}
use Rattle.runs.proofs.Left.{left_passed, left_refused}
use Rattle.meeting.specs.Answers.{Met, tells, meet_weight, meet_say, meeting_of, check_pair, MeetingRuns, MeetingMeets}

-- ---- from 15 on

module _ (fits : Bool) (m : Meeting) where
  -- refused by what 15 says
  pub meet_refused : (f : Refusal) → refused (number_of f.fault) f.place ≡ unless fits 15 0 → MeetingRuns fits m (Err f)
  unfolding meet_say
  meet_refused f e = ap (λ (v : Verdict). meet_say v m) e

  pub meet_whole : fits ≡ true → (x : Option ℕ) → meet_weight x ≡ m → MeetingRuns fits m (Ok x)
  unfolding meet_say
  meet_whole e x y = ap tells y ∙ ap (λ (v : Verdict). meet_say v m) (sym (last_go fits 15 0 e))

-- ---- the whole call, by what the checks before 15 said of the sheet s

module _ (s : List ℕ) (k a b : ℕ) (T : Tables) (fits : Bool) where
  abbrev before : Verdict
  before = check_pair s k a b T

  -- refused before 15: nothing is written
  pub meet_stopped : (f : Refusal) → faulty (number_of f.fault) f.place ≡ sheet_say (check_pair s k a b T) s → MeetingMeets s k a b T fits (Err f) T
  unfolding meet_say
  meet_stopped f said =
      let n = number_of f.fault in
      let e = said_faulty before s n f.place said in
      record {
        answer = ap (λ (v : Verdict). meet_say v (meeting_of s k a b)) (sym (then_stop before (unless fits 15 0) n f.place e));
        tables = sym (left_refused n f.place before T e);
      }

  -- let through: what the run gives, and the tables zeroed
  pub meet_ran : (p m : ℕ) → holds p m ≡ sheet_say (check_pair s k a b T) s → (r : Met) (W : Tables) → MeetingRuns fits (meeting_of s k a b) r
      → W ≡ cleared T → MeetingMeets s k a b T fits r W
  meet_ran p m said r W y w =
      let e = (said_holds before s p m said).0 in
      record {
        answer = y ∙ ap (λ (v : Verdict). meet_say v (meeting_of s k a b)) (sym (then_go before (unless fits 15 0) e));
        tables = w ∙ sym (left_passed before T e);
      }

-- what was said of a view of the tables is said of them
pub pair_viewed : (s : List ℕ) (k a b : ℕ) (x : SheetSaid) (T U : Tables) → T ≡ U → x ≡ sheet_say (check_pair s k a b T) s → x ≡ sheet_say (check_pair s k a b U) s
pair_viewed s k a b x T U e said = said ∙ ap (λ (X : Tables). sheet_say (check_pair s k a b X) s) e

-- the sheet that is given back is admitted, with the tables that were viewed
pub pair_admitted : (s z : List ℕ) (k a b p m : ℕ) (T U : Tables) → T ≡ U → z ≡ s → holds p m ≡ sheet_say (check_pair s k a b T) s
    → check_pair z k a b U ≡ accepted
pair_admitted s z k a b p m T U e f said =
    ap (λ (x : List ℕ). check_pair x k a b U) f ∙ (said_holds _ s p m (pair_viewed s k a b (holds p m) T U e said)).0
