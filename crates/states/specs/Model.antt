-- Model of the code: the numbers that an insert, a taking back and the listing now get. What that means is proved of it (proofs/Checking.antt, and
-- crates/sequential/proofs/Inserting.antt). Assumes nothing.
use Rattle.std.specs.Prelude.{cond, not, List, ℕ, zero, suc, ◌-◌, eqb, leb}
use Rattle.percolation.specs.Links.{Link}
use Rattle.checks.specs.Model.{link_number}
use Rattle.slots.specs.Tables.{Tables, room}
use Rattle.search.specs.Model.{added_by}
use Rattle.runs.specs.Lent.{level}
use Rattle.journal.specs.Journal.{whole}
use Rattle.states.specs.declared.State.{State}
use Rattle.states.specs.States.{good_state}

-- n, or m where n is 0
unfoldable pub first_of : ℕ → ℕ → ℕ
first_of zero m = m
first_of (suc n) m = suc n

-- the first of 11 and 12 that applies, else 0
unfoldable pub state_number : State → Tables → ℕ
unfolding level good_state
state_number S T = cond (level T) (cond (good_state S T.entries) 0 12) 11

-- the first of 6 to 9 and 15, with the joining entries es
unfoldable pub link_step : State → List ℕ → Link → ℕ
unfolding first_of link_number added_by room
link_step S es l =
    first_of (link_number S.p S.rows S.last l) (cond (leb (added_by S.rows S.k l.low l.high) (room es - S.used)) 0 15)

-- the first of 11, 12 and 20, with the journal J; then what an insert and a taking back get
unfoldable pub journal_number : State → Tables → List ℕ → ℕ
unfolding first_of state_number
journal_number S T J = first_of (state_number S T) (cond (whole J) 0 20)

unfoldable pub insert_number : State → Tables → List ℕ → Link → ℕ
unfolding first_of journal_number link_step
insert_number S T J l = first_of (journal_number S T J) (link_step S T.entries l)

unfoldable pub back_number : State → Tables → List ℕ → ℕ
unfolding first_of journal_number
back_number S T J = first_of (journal_number S T J) (cond (not (eqb S.links 0)) 0 19)
