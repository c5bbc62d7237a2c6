-- The meeting weight of two k-cliques of a sheet: what each case of the answer says, what is checked, in order, and what the call must do. Assumes nothing.
use Rattle.std.specs.Prelude.{◌≡◌, Bool, ◌&&◌, List, ℕ, eqb, Option, Some, None, Result, Ok, Err}
use Rattle.answers.specs.declared.Refusal.{Refusal}
use Rattle.answers.specs.Faults.{number_of}
use Rattle.answers.specs.Verdict.{Verdict, accepted, refused, ◌then◌, unless}
use Rattle.sets.specs.Lists.{any}
use Rattle.percolation.specs.Links.{cliques}
use Rattle.percolation.specs.Levels.{Meeting, met, never, meeting}
use Rattle.sheet.specs.Sheet.{parts, links_of}
use Rattle.slots.specs.Tables.{Tables}
use Rattle.runs.specs.Lent.{check_call, left}

-- a meeting weight, or a refusal
pub data MeetSaid : Type 0 where
  tells : Meeting → MeetSaid
  refuses : ℕ → ℕ → MeetSaid

-- what the code answers: a weight, or none, or a refusal
abbrev pub Met : Type 0
Met = Result (Option ℕ) Refusal

abbrev pub meet_weight : Option ℕ → Meeting
meet_weight (Some w) = met w
meet_weight None = never

abbrev pub meet_says : Met → MeetSaid
meet_says (Ok x) = tells (meet_weight x)
meet_says (Err r) = refuses (number_of r.fault) r.place

-- what is right to say where the verdict is v and the meeting weight m
unfoldable pub meet_say : Verdict → Meeting → MeetSaid
meet_say accepted m = tells m
meet_say (refused n a) m = refuses n a

-- the meeting weight of two k-cliques of a sheet
unfoldable pub meeting_of : List ℕ → ℕ → ℕ → ℕ → Meeting
unfolding meeting links_of
meeting_of s k a b = meeting (links_of s) (parts s) k a b

-- x is a k-clique of the whole sheet
unfoldable pub is_clique : List ℕ → ℕ → ℕ → Bool
unfolding any cliques links_of
is_clique s k x = any (eqb x) (cliques (links_of s) (parts s) k)

-- the sheet's checks, 10 and 11, then 13: the tables are zeroed where these pass
unfoldable pub check_pair : List ℕ → ℕ → ℕ → ℕ → Tables → Verdict
unfolding check_call is_clique unless ◌then◌
check_pair s k a b T = check_call s k T then unless (is_clique s k a && is_clique s k b) 13 0

-- what is to be done where these let the call pass: 15, where what it counts fits the slots or not, then the meeting weight m
abbrev pub MeetingRuns : Bool → Meeting → Met → Type 0
MeetingRuns fits m r = meet_says r ≡ meet_say (unless fits 15 0) m

-- what the whole call must do: r is its answer, T are the tables before it and U those after it
pub record MeetingMeets (s : List ℕ) (k a b : ℕ) (T : Tables) (fits : Bool) (r : Met) (U : Tables) : Type 0 where
  pub answer : meet_says r ≡ meet_say (check_pair s k a b T then unless fits 15 0) (meeting_of s k a b)
  -- zeroed whenever it came as far as 15
  pub tables : U ≡ left (check_pair s k a b T) T
