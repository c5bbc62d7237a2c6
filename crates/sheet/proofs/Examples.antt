-- The definitions of a sheet compute: document 01's two small sheets, and sheets with two faults, of which the first in its order stands. Assumes nothing.
use mathlib.Core.Path.{◌≡◌, refl}
use mathlib.Core.List.{List, [], ◌∷◌, ◌++◌}
use Prim.Native.Nat.{ℕ}
use Rattle.answers.specs.Verdict.{accepted, refused}
use Rattle.sheet.specs.Sheet.{check_sheet}

-- a name of one letter, a head, and sheets of three parts with these bytes of links: the parts A, B and C, or any three
abbrev pub name : ℕ → List ℕ
name b = b ∷ 32 ∷ 32 ∷ 32 ∷ 32 ∷ 32 ∷ 32 ∷ 32 ∷ []

abbrev pub head_of : ℕ → ℕ → List ℕ
head_of p m = 80 ∷ 76 ∷ 83 ∷ 0 ∷ 1 ∷ p ∷ 0 ∷ m ∷ []

abbrev pub three_of : List ℕ → List ℕ → List ℕ → ℕ → List ℕ → List ℕ
three_of a b c m l = head_of 3 m ++ a ++ b ++ c ++ l

abbrev pub three : ℕ → List ℕ → List ℕ
three m l = three_of (name 65) (name 66) (name 67) m l

-- one part and no link, 16 bytes, accepted
pub sixteen : check_sheet (head_of 1 0 ++ name 65) ≡ accepted
unfolding check_sheet
sixteen = refl

-- three parts, 0-1 of 5 twice: 9 at 36
pub twice : check_sheet (three 2 (0 ∷ 1 ∷ 0 ∷ 5 ∷ 0 ∷ 1 ∷ 0 ∷ 5 ∷ [])) ≡ refused 9 36
unfolding check_sheet
twice = refl

-- 3 before 4: a part count of 0 gets 4 only where the length fits it
pub count_zero : check_sheet (head_of 0 0) ≡ refused 4 5
unfolding check_sheet
count_zero = refl

pub length_first : check_sheet (head_of 0 0 ++ name 65) ≡ refused 3 16
unfolding check_sheet
length_first = refl

-- at one link the lowest number, of two links the first
pub six_nine : check_sheet (three 2 (0 ∷ 1 ∷ 0 ∷ 5 ∷ 1 ∷ 0 ∷ 0 ∷ 5 ∷ [])) ≡ refused 6 36
unfolding check_sheet
six_nine = refl

pub eight_nine : check_sheet (three 2 (0 ∷ 1 ∷ 0 ∷ 5 ∷ 0 ∷ 1 ∷ 0 ∷ 6 ∷ [])) ≡ refused 8 36
unfolding check_sheet
eight_nine = refl

pub first_link : check_sheet (three 2 (0 ∷ 1 ∷ 0 ∷ 0 ∷ 2 ∷ 1 ∷ 0 ∷ 5 ∷ [])) ≡ refused 7 32
unfolding check_sheet
first_link = refl

-- 21 at the later of two equal names, before the first link
pub again : check_sheet (three_of (name 65) (name 66) (name 65) 1 (1 ∷ 0 ∷ 0 ∷ 0 ∷ [])) ≡ refused 21 24
unfolding check_sheet
again = refl

-- of three equal names the second
pub thrice : check_sheet (three_of (name 65) (name 65) (name 65) 0 []) ≡ refused 21 16
unfolding check_sheet
thrice = refl

-- a bad form behind a repeated name: 5 comes first
pub form_first : check_sheet (three_of (name 65) (name 65) (name 32) 0 []) ≡ refused 5 24
unfolding check_sheet
form_first = refl

-- names that differ in the last byte alone
pub last_byte : check_sheet (three_of (name 65) (65 ∷ 65 ∷ 65 ∷ 65 ∷ 65 ∷ 65 ∷ 65 ∷ 65 ∷ []) (65 ∷ 65 ∷ 65 ∷ 65 ∷ 65 ∷ 65 ∷ 65 ∷ 66 ∷ []) 0 []) ≡ accepted
unfolding check_sheet
last_byte = refl
