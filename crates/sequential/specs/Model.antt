-- Model of the code: state, tables and journal after an insert and after a taking back. What that means is proved of it (proofs/Inserting.antt,
-- Backing.antt). Assumes nothing.
use Rattle.std.specs.Prelude.{List, map, ℕ, suc, ◌-◌, min, set, take}
use Rattle.sets.specs.Value.{no_rows}
use Rattle.percolation.specs.Links.{Link}
use Rattle.checks.specs.Model.{marked}
use Rattle.checks.specs.Neighbours.{last_weight}
use Rattle.slots.specs.Tables.{Tables}
use Rattle.search.specs.Model.{new_cliques}
use Rattle.clique_taking.specs.Model.{took_all}
use Rattle.runs.specs.Model.{rows_with}
use Rattle.journal.specs.Journal.{journal_length, journal_entry}
use Rattle.journal.specs.Model.{entry_link, readable, refilled}
use Rattle.states.specs.declared.State.{State}
use Rattle.sequential.specs.Steps.{state}

-- the tables with the new k-cliques of a link, the state with the link, and the journal with its entry
unfoldable pub inserted_tables : State → Tables → Link → Tables
unfolding took_all new_cliques
inserted_tables S T l = took_all T (new_cliques S.rows S.k l.low l.high)

unfoldable pub inserted_state : State → Tables → Link → State
unfolding marked inserted_tables
inserted_state S T l =
    state S.p S.k (inserted_tables S T l).used l.weight (min (suc S.links) journal_length) (marked S.rows l.low l.high)

unfoldable pub inserted_journal : State → List ℕ → Link → List ℕ
unfolding journal_entry
inserted_journal S J l = set J S.links (journal_entry l)

-- the same without the last link
unfoldable pub fewer : State → ℕ
fewer S = min S.links journal_length - 1

unfoldable pub back_links : State → List ℕ → List Link
unfolding fewer readable
back_links S J = readable S.p (take (fewer S) J)

unfoldable pub back_tables : State → Tables → List ℕ → Tables
unfolding fewer back_links rows_with no_rows refilled
back_tables S T J = refilled S.p S.k (rows_with no_rows (back_links S J)) T J (fewer S)

unfoldable pub back_state : State → Tables → List ℕ → State
unfolding fewer back_links back_tables rows_with no_rows last_weight entry_link
back_state S T J =
    state S.p S.k (back_tables S T J).used (last_weight (map entry_link (take (fewer S) J))) (fewer S) (rows_with no_rows (back_links S J))

unfoldable pub back_journal : State → List ℕ → List ℕ
unfolding fewer
back_journal S J = set J (fewer S) 0
