-- The answers of the calls as the C interface hands them on: number 0 where the call is accepted. Assumes nothing.
use Rattle.std.specs.Prelude.{◌≡◌, ℕ, Result}
use Rattle.answers.specs.declared.Refusal.{Refusal}
use Rattle.answers.specs.Answers.{Said, counts, refuses, says, Answer}
use Rattle.sheet.specs.Answers.{SheetSaid, holds, faulty}
use Rattle.percolation.specs.Levels.{met, never}
use Rattle.meeting.specs.Answers.{Met, MeetSaid, tells, meet_says}
use Rattle.meeting.specs.Answers.{refuses as refusesMeeting}
use Rattle.mean.specs.Answers.{MeanSaid, gives, mean_says}
use Rattle.mean.specs.Answers.{refuses as refusesMean}
use Rattle.mean.specs.declared.FamilyMean.{FamilyMean}
use Rattle.needs.specs.Needs.{NeedSaid, need_says}
use Rattle.needs.specs.Needs.{gives as givesNeed, refuses as refusesNeed}
use Rattle.needs.specs.declared.Needed.{Needed}
use Rattle.states.specs.declared.State.{State}
use Rattle.sequential.specs.declared.Stepped.{Stepped}
use Rattle.outcomes.specs.declared.Outcome.{Outcome}
use Rattle.outcomes.specs.declared.Mean.{Mean}
use Rattle.outcomes.specs.declared.Need.{Need}
use Rattle.outcomes.specs.declared.Started.{Started}

abbrev pub outcome : ℕ → ℕ → ℕ → ℕ → Outcome
outcome n a c p = record { number = n; place = a; count = c; parts = p }

-- a count, or a refusal with its number and place
unfoldable pub shown : Said → Outcome
shown (counts c) = outcome 0 0 c 0
shown (refuses n a) = outcome n a 0 0

-- the links and parts of a sheet
unfoldable pub sheet_shown : SheetSaid → Outcome
sheet_shown (holds p m) = outcome 0 0 m p
sheet_shown (faulty n a) = outcome n a 0 0

-- a meeting weight, 0 for never
unfoldable pub meet_shown : MeetSaid → Outcome
meet_shown (tells (met w)) = outcome 0 0 w 0
meet_shown (tells never) = outcome 0 0 0 0
meet_shown (refusesMeeting n a) = outcome n a 0 0

abbrev pub mean_outcome : Outcome → ℕ → ℕ → ℕ → Mean
mean_outcome o s q r = record { outcome = o; sum = s; quotient = q; remainder = r }

-- the mean of a family: count is its links
unfoldable pub mean_shown : MeanSaid → Mean
mean_shown (gives m) = mean_outcome (outcome 0 0 m.links 0) m.sum m.quotient m.remainder
mean_shown (refusesMean n a) = mean_outcome (outcome n a 0 0) 0 0 0

abbrev pub need_outcome : Outcome → ℕ → ℕ → ℕ → Need
need_outcome o c j n = record { outcome = o; cliques = c; joins = j; slots = n }

-- the needs of a run: count is 0
unfoldable pub need_shown : NeedSaid → Need
need_shown (givesNeed x) = need_outcome (outcome 0 0 0 0) x.cliques x.joins x.slots
need_shown (refusesNeed n a) = need_outcome (outcome n a 0 0) 0 0 0

abbrev pub started : Outcome → State → Started
started o s = record { outcome = o; state = s }

-- o shows an answer of the call behind it, of which P holds
pub record ShowsAs {A O : Type 0} (show : A → O) (P : A → Type 0) (o : O) : Type 0 where
  pub answer : A
  pub meets : P answer
  pub same : o ≡ show answer

abbrev pub Shows : (Answer → Type 0) → Outcome → Type 0
Shows P o = ShowsAs (λ a. shown (says a)) P o

abbrev pub ShowsMeeting : (Met → Type 0) → Outcome → Type 0
ShowsMeeting P o = ShowsAs (λ m. meet_shown (meet_says m)) P o

abbrev pub ShowsMean : (Result FamilyMean Refusal → Type 0) → Mean → Type 0
ShowsMean P o = ShowsAs (λ m. mean_shown (mean_says m)) P o

abbrev pub ShowsNeed : (Result Needed Refusal → Type 0) → Need → Type 0
ShowsNeed P o = ShowsAs (λ x. need_shown (need_says x)) P o

-- o shows what a step gave back, of which P holds
pub record ShowsStep (P : Stepped → Type 0) (o : Started) : Type 0 where
  pub step : Stepped
  pub meets : P step
  pub same_outcome : o.outcome ≡ shown (says step.answer)
  pub same_state : o.state ≡ step.state
