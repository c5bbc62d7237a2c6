-- What a call on a sheet checks before it counts slots, and the four lent tables that it leaves. Assumes nothing.
use Rattle.std.specs.Prelude.{Bool, ◌&&◌, List, ℕ, length, replicate}
use Rattle.answers.specs.Verdict.{Verdict, accepted, refused, ◌then◌, unless}
use Rattle.sets.specs.Value.{sized}
use Rattle.percolation.specs.Ranges.{good_k}
use Rattle.sheet.specs.Sheet.{check_sheet}
use Rattle.slots.specs.Tables.{Tables, tables}

-- the four tables, which a call on a sheet takes as they are: it counts no slot of theirs as used
abbrev pub lent : List ℕ → List ℕ → List ℕ → List ℕ → Tables
lent s e m u = tables s e m u 0

-- tables of as many sets as there are joining entries, and no word more
unfoldable pub level : Tables → Bool
unfolding sized
level T = sized T.sets (length T.entries) && (sized T.smallest (length T.entries) && sized T.unions (length T.entries))

-- the checks of a call on a sheet before 15, or 13: the sheet's own, then 10 and 11
unfoldable pub check_call : List ℕ → ℕ → Tables → Verdict
unfolding check_sheet good_k level unless ◌then◌
check_call s k T = check_sheet s then unless (good_k k) 10 0 then unless (level T) 11 0

-- the tables, all zero
unfoldable pub cleared : Tables → Tables
cleared T =
    tables (replicate (length T.sets) 0) (replicate (length T.entries) 0) (replicate (length T.smallest) 0) (replicate (length T.unions) 0) 0

-- the tables after a call: zeroed where the checks before 15 let it pass, whatever came after; as they were where they refused it
unfoldable pub left : Verdict → Tables → Tables
unfolding cleared
left accepted T = cleared T
left (refused n a) T = T
