-- Products computed: bit patterns, of which a trial tries `six` (rust/trials/tests/strengths.rs), and thresholds that are no numbers of the usual kind.
-- Assumes nothing.
use mathlib.Core.Path.{◌≡◌, refl}
use mathlib.Core.Bool.{true, false}
use mathlib.Core.List.{List, [], ◌∷◌}
use Prim.Native.Nat.{ℕ, ◌*◌, ◌^◌, ◌<◌}
use lib.Dec.{lit<}
use lib.IntN.{pos}
use lib.Ieee.{inf, fin, binary64, mul, of_int, to_bits, le}
use Rattle.products.specs.Products.{product_of, whole_product, distance}
use Rattle.products.specs.declared.Measure.TheVariants.{Product}
use Rattle.products.specs.Measures.{strong_enough}

abbrev bits : List ℕ → ℕ
bits W = to_bits binary64 (product_of W)

pub three : bits (3 ∷ 5 ∷ 7 ∷ []) ≡ 0x405a_4000_0000_0000
unfolding product_of mul of_int to_bits
three = refl

pub most : bits (65535 ∷ 65535 ∷ 65535 ∷ 65535 ∷ 65535 ∷ 65535 ∷ []) ≡ 0x45ef_ff40_01df_fd80
unfolding product_of mul of_int to_bits
most = refl

-- six weights whose order matters, and 2 ^ 53 times the distance is more than twice the whole product
abbrev six_weights : List ℕ
six_weights = 50510 ∷ 28704 ∷ 53256 ∷ 59851 ∷ 18191 ∷ 59183 ∷ []

pub six : bits six_weights ≡ 0x45b0_136a_40be_7466
unfolding product_of mul of_int to_bits
six = refl

pub six_value : product_of six_weights ≡ fin false 2262473350527539 (pos 41)
unfolding product_of mul of_int
six_value = refl

pub six_distance : 2 * whole_product six_weights < 2 ^ 53 * distance (2262473350527539 * 2 ^ 41) (whole_product six_weights)
unfolding whole_product
six_distance = lit< tt

pub six_backwards : bits (59183 ∷ 18191 ∷ 59851 ∷ 53256 ∷ 28704 ∷ 50510 ∷ []) ≡ 0x45b0_136a_40be_7467
unfolding product_of mul of_int to_bits
six_backwards = refl

-- a threshold that is the product itself, the infinities, and -0.0
pub reached : strong_enough (Product (fin false 105 (pos 0))) 3 (product_of (3 ∷ 5 ∷ 7 ∷ [])) ≡ true
unfolding strong_enough product_of mul of_int le
reached = refl

pub below_infinity : strong_enough (Product (inf false)) 3 (product_of (3 ∷ 5 ∷ 7 ∷ [])) ≡ false
unfolding strong_enough product_of mul of_int le
below_infinity = refl

pub above_minus_infinity : strong_enough (Product (inf true)) 3 (product_of (3 ∷ 5 ∷ 7 ∷ [])) ≡ true
unfolding strong_enough product_of mul of_int le
above_minus_infinity = refl

pub above_minus_zero : strong_enough (Product (fin true 0 (pos 0))) 3 (product_of (3 ∷ 5 ∷ 7 ∷ [])) ≡ true
unfolding strong_enough product_of mul of_int le
above_minus_zero = refl
