-- Closed values that the checker computes: the links and the bytes of small fullest sheets, a name with two digits, the order of the checks. Assumes nothing.
use mathlib.Core.Path.{◌≡◌, refl}
use mathlib.Core.List.{[], ◌∷◌}
use Rattle.answers.specs.Verdict.{accepted, refused}
use Rattle.percolation.specs.Links.{link}
use Rattle.fullest.specs.Fullest.{part_name, full_links, full_sheet, check_full}

pub links_of_three : full_links 3 ≡ link 0 1 1 ∷ link 0 2 1 ∷ link 1 2 1 ∷ []
unfolding full_links
links_of_three = refl

-- P37
pub name_of_two_digits : part_name 37 ≡ 80 ∷ 51 ∷ 55 ∷ 32 ∷ 32 ∷ 32 ∷ 32 ∷ 32 ∷ []
unfolding part_name
name_of_two_digits = refl

pub full_two : full_sheet 2
    ≡ 80 ∷ 76 ∷ 83 ∷ 0 ∷ 1 ∷ 2 ∷ 0 ∷ 1 ∷ 80 ∷ 48 ∷ 48 ∷ 32 ∷ 32 ∷ 32 ∷ 32 ∷ 32 ∷ 80 ∷ 48 ∷ 49 ∷ 32 ∷ 32 ∷ 32 ∷ 32 ∷ 32 ∷ 0 ∷ 1 ∷ 0 ∷ 1 ∷ []
unfolding full_sheet
full_two = refl

-- 4 before 10, 10 before 16
pub four_first : check_full 65 7 0 ≡ refused 4 0
unfolding check_full
four_first = refl

pub ten_next : check_full 2 7 0 ≡ refused 10 0
unfolding check_full
ten_next = refl

pub sixteen_last : check_full 2 6 27 ≡ refused 16 0
unfolding check_full
sixteen_last = refl

pub full_fits : check_full 2 6 28 ≡ accepted
unfolding check_full
full_fits = refl
