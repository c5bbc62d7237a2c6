-- Values computed: P1 as a sheet, its strong triangles by either measure, what 15 counts, and the order of the refusals. Assumes nothing.
use mathlib.Core.Path.{◌≡◌, refl}
use mathlib.Core.Bool.{true, false}
use mathlib.Core.List.{List, [], ◌∷◌, ◌++◌}
use Prim.Native.Nat.{ℕ}
use lib.IntN.{pos}
use lib.Ieee.{nan, inf, fin, mul, of_int, le}
use Rattle.answers.specs.Verdict.{accepted, refused}
use Rattle.percolation.specs.Percolate.{shown}
use Rattle.products.specs.declared.Measure.TheVariants.{Weakest, Product}
use Rattle.strong_checks.specs.OnSheet.{check_strength, strength_listing, fits_strength}

-- the name of a part whose number's last digit is d
abbrev name : ℕ → List ℕ
name d = 80 ∷ 48 ∷ d ∷ 32 ∷ 32 ∷ 32 ∷ 32 ∷ 32 ∷ []

-- two triangles, 0, 1, 2 of weights 9, 9, 8 and 1, 2, 3 of weights 8, 5, 5
abbrev box : List ℕ
box =
    (80 ∷ 76 ∷ 83 ∷ 0 ∷ 1 ∷ 4 ∷ 0 ∷ 5 ∷ []) ++ name 48 ++ name 49 ++ name 50 ++ name 51
    ++ (0 ∷ 1 ∷ 0 ∷ 9 ∷ 0 ∷ 2 ∷ 0 ∷ 9 ∷ 1 ∷ 2 ∷ 0 ∷ 8 ∷ 1 ∷ 3 ∷ 0 ∷ 5 ∷ 2 ∷ 3 ∷ 0 ∷ 5 ∷ [])

pub by_weakest_lem : strength_listing box 3 (Weakest 8) ≡ shown 7 7 ∷ []
unfolding strength_listing
by_weakest_lem = refl

-- 648 is the first triangle's product, 200 the second's
pub by_product : strength_listing box 3 (Product (fin false 648 (pos 0))) ≡ shown 7 7 ∷ []
unfolding strength_listing mul of_int le
by_product = refl

pub by_lower_product : strength_listing box 3 (Product (fin false 200 (pos 0))) ≡ shown 7 15 ∷ []
unfolding strength_listing mul of_int le
by_lower_product = refl

-- the clique list has to hold both triangles, the tables the slots of the strong one only
pub both_stored : fits_strength box 3 (Weakest 8) 2 3 ≡ true
unfolding fits_strength
both_stored = refl

pub list_too_short : fits_strength box 3 (Weakest 8) 1 3 ≡ false
unfolding fits_strength
list_too_short = refl

pub slots_too_few : fits_strength box 3 (Weakest 8) 2 2 ≡ false
unfolding fits_strength
slots_too_few = refl

-- a shared sub-clique has one slot
pub slots_shared : fits_strength box 3 (Weakest 5) 2 5 ≡ true
unfolding fits_strength
slots_shared = refl

-- 10, 22, 23, 11, in this order
pub ten_first : check_strength box 7 (Product nan) false ≡ refused 10 0
unfolding check_strength
ten_first = refl

pub then_22 : check_strength box 5 (Product nan) false ≡ refused 22 0
unfolding check_strength
then_22 = refl

pub then_23 : check_strength box 4 (Product nan) false ≡ refused 23 0
unfolding check_strength
then_23 = refl

pub then_11 : check_strength box 4 (Product (inf true)) false ≡ refused 11 0
unfolding check_strength
then_11 = refl

pub weakest_of_six : check_strength box 6 (Weakest 3) true ≡ accepted
unfolding check_strength
weakest_of_six = refl
