-- What each case of the sheet's answers says in document 01's numbers and values, and what is right to say of a part's name. Assumes nothing.
use Rattle.std.specs.Prelude.{◌&&◌, [], List, ℕ, ◌+◌, leb, ltb, length, Result, Ok, Err}
use Rattle.answers.specs.Verdict.{Verdict, accepted, refused, ◌then◌, unless}
use Rattle.answers.specs.Faults.{number_of}
use Rattle.answers.specs.declared.Refusal.{Refusal}
use Rattle.answers.specs.Answers.{Said, counts, refuses}
use Rattle.sheet.specs.declared.Counts.{Counts}
use Rattle.sheet.specs.declared.checked_sheet.Checked.{Checked}
use Rattle.sheet.specs.declared.PartName.{PartName}
use Rattle.sheet.specs.Sheet.{parts, links, name_at, name_of, check_sheet}

-- a sheet's part count and link count, or a refusal
pub data SheetSaid : Type 0 where
  holds : ℕ → ℕ → SheetSaid
  faulty : ℕ → ℕ → SheetSaid

abbrev pub sheet_says : Result Counts Refusal → SheetSaid
sheet_says (Ok c) = holds c.parts c.links
sheet_says (Err r) = faulty (number_of r.fault) r.place

-- the same of a sheet that is given back with its counts
abbrev pub checked_says : Result Checked Refusal → SheetSaid
checked_says (Ok c) = holds c.counts.parts c.counts.links
checked_says (Err r) = faulty (number_of r.fault) r.place

-- what is right to say of the sheet s where the verdict is v
unfoldable pub sheet_say : Verdict → List ℕ → SheetSaid
sheet_say accepted s = holds (parts s) (links s)
sheet_say (refused n a) s = faulty n a

-- ---- a part's name

-- the sheet's own checks, then 14: a part not below p
unfoldable pub check_part : List ℕ → ℕ → Verdict
unfolding check_sheet unless ◌then◌
check_part s part = check_sheet s then unless (ltb part (parts s)) 14 0

-- 14 alone, of a sheet that was checked before: a part not below p, or whose name does not lie in the sheet
unfoldable pub check_named : List ℕ → ℕ → Verdict
unfolding unless
check_named s part = unless (ltb part (parts s) && leb (name_at s part + 8) (length s)) 14 0

-- where the name starts, or a refusal
abbrev pub name_says : Result PartName Refusal → Said
name_says (Ok n) = counts n.place
name_says (Err r) = refuses (number_of r.fault) r.place

-- the eight bytes of a name, or none where it is refused
unfoldable pub name_in : Verdict → List ℕ → ℕ → List ℕ
name_in accepted s part = name_of s part
name_in (refused n a) s part = []

-- where those bytes are, when the sheet is at p, a block and an offset in it: they are the very bytes of the caller's sheet
unfoldable pub place_in : Verdict → List ℕ → ℕ × ℕ → ℕ → ℕ × ℕ
place_in accepted s p part = (p.0, name_at s part + p.1)
place_in (refused n a) s p part = p
