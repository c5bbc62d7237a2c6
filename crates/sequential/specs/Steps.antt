-- The steps of the sequential run: what they check, what their state and tables hold, and what each must do. Assumes nothing.
use Rattle.std.specs.Prelude.{◌≡◌, true, not, List, [], ◌∷◌, ℕ, ◌<◌, eqb, length, replicate}
use Rattle.answers.specs.Verdict.{Verdict, accepted, refused, ◌then◌, unless}
use Rattle.answers.specs.Answers.{Answer, refuses, says, say_of}
use Rattle.sets.specs.Lists.{◌∈◌}
use Rattle.sets.specs.Value.{no_rows}
use Rattle.percolation.specs.Links.{Link, cliques, listing}
use Rattle.percolation.specs.Ranges.{good_count, good_k}
use Rattle.percolation.specs.Steps.{legal, check_insert, accept, front, check_back}
use Rattle.checks.specs.Neighbours.{Neighbours, last_weight}
use Rattle.slots.specs.Tables.{Tables}
use Rattle.slots_theory.specs.Shows.{Shows}
use Rattle.runs.specs.Lent.{level, left}
use Rattle.listings.specs.Listing.{WritesListing}
use Rattle.journal.specs.Journal.{whole, journal_of}
use Rattle.states.specs.declared.State.{State}
use Rattle.states.specs.States.{good_state}
use Rattle.sequential.specs.declared.Stepped.{Stepped}

-- ---- checks

-- start: 4, 10, 11, 20
unfoldable pub check_start : ℕ → ℕ → Tables → List ℕ → Verdict
unfolding good_count good_k level unless ◌then◌
check_start p k T J = unless (good_count p) 4 0 then unless (good_k k) 10 0 then unless (level T) 11 0 then unless (whole J) 20 0

-- every step after the start begins with 11, 12; the listing now is lent no journal
unfoldable pub check_state : State → Tables → Verdict
unfolding good_state level unless ◌then◌
check_state S T = unless (level T) 11 0 then unless (good_state S T.entries) 12 0

-- insert begins with 11, 12, 20; taking back has 19 after these, for a state with no link
unfoldable pub check_journal : State → Tables → List ℕ → Verdict
unfolding check_state unless ◌then◌
check_journal S T J = check_state S T then unless (whole J) 20 0

unfoldable pub check_take_back : State → Tables → List ℕ → Verdict
unfolding check_journal unless ◌then◌
check_take_back S T J = check_journal S T J then unless (not (eqb S.links 0)) 19 0

-- ---- what state, tables and journal hold

abbrev pub state : ℕ → ℕ → ℕ → ℕ → ℕ → List ℕ → State
state p k u w n R = record { p = p; k = k; used = u; last = w; links = n; rows = R }

-- what a start returns: a state with no links, or a state of zeros
unfoldable pub start_state : Verdict → ℕ → ℕ → State
unfolding no_rows
start_state accepted p k = state p k 0 65535 0 no_rows
start_state (refused n a) p k = state 0 0 0 0 0 no_rows

-- the journal after a start: all zero, or as it was
unfoldable pub left_journal : Verdict → List ℕ → List ℕ
left_journal accepted J = replicate (length J) 0
left_journal (refused n a) J = J

-- L are the links that remain after steps with tables of n slots
pub record Holds (p k n : ℕ) (L : List Link) (S : State) (T : Tables) (J : List ℕ) : Type 0 where
  pub count : good_count p ≡ true
  pub size : good_k k ≡ true
  pub same_p : S.p ≡ p
  pub same_k : S.k ≡ k
  pub same_used : S.used ≡ T.used
  pub last : S.last ≡ last_weight L
  pub near : Neighbours L S.rows
  pub links : legal p L ≡ true
  pub slots : length T.entries ≡ n
  pub shows : Shows p k (cliques L p k) T
  pub many : S.links ≡ length L
  -- a weight has two bytes: an entry of the journal is one link's only
  pub narrow : (l : Link) → l ∈ L → l.weight < 65536
  pub journal : J ≡ journal_of L

-- ---- what each step must do: T are the tables and J is the journal before it, U and K after it

pub record StartMeets (p k : ℕ) (T : Tables) (J : List ℕ) (r : Stepped) (U : Tables) (K : List ℕ) : Type 0 where
  pub answer : says r.answer ≡ say_of (check_start p k T J) 0
  pub state : r.state ≡ start_state (check_start p k T J) p k
  pub tables : U ≡ left (check_start p k T J) T
  pub journal : K ≡ left_journal (check_start p k T J) J

pub record InsertMeets (S : State) (T : Tables) (J : List ℕ) (l : Link) (r : Stepped) (U : Tables) (K : List ℕ) : Type 0 where
  -- 11, 12 and 20, of any state, tables and journal; where these pass, a refusal is another one
  pub checked : (n a : ℕ) → check_journal S T J ≡ refused n a → says r.answer ≡ refuses n a
  pub others : check_journal S T J ≡ accepted → (n a : ℕ) → says r.answer ≡ refuses n a → n ∈ (6 ∷ 7 ∷ 8 ∷ 9 ∷ 15 ∷ [])
  -- 6 to 9 and 15, against the links that remain
  pub answer : (p k n : ℕ) (L : List Link) → Holds p k n L S T J → says r.answer ≡ say_of (check_insert p k n L l) 0
  pub holds : (p k n : ℕ) (L : List Link) → Holds p k n L S T J → Holds p k n (accept p k n L l) r.state U K
  -- a refused step leaves state, tables and journal as before
  pub kept : (n a : ℕ) → says r.answer ≡ refuses n a → (r.state ≡ S) × (U ≡ T) × (K ≡ J)

pub record BackMeets (S : State) (T : Tables) (J : List ℕ) (r : Stepped) (U : Tables) (K : List ℕ) : Type 0 where
  -- 11, 12, 20 and 19, of any state, tables and journal
  pub checked : says r.answer ≡ say_of (check_take_back S T J) 0
  -- 19, by the links that remain
  pub answer : (p k n : ℕ) (L : List Link) → Holds p k n L S T J → says r.answer ≡ say_of (check_back L) 0
  pub holds : (p k n : ℕ) (L : List Link) → Holds p k n L S T J → Holds p k n (front L) r.state U K
  -- a refused step leaves state, tables and journal as before
  pub kept : (n a : ℕ) → says r.answer ≡ refuses n a → (r.state ≡ S) × (U ≡ T) × (K ≡ J)

pub record ListingNowMeets (S : State) (T : Tables) (old : List ℕ) (r : Answer) (out : List ℕ) : Type 0 where
  -- 11 and 12
  pub checked : (n a : ℕ) → check_state S T ≡ refused n a → says r ≡ refuses n a
  -- the listing of the links that remain, or 16
  pub lists : (p k n : ℕ) (L : List Link) (J : List ℕ) → Holds p k n L S T J → WritesListing (listing L p k 0) old r out
  -- a refusal writes no output
  pub kept : (n a : ℕ) → says r ≡ refuses n a → out ≡ old
