-- One rounding of a whole number to a 64-bit float: the float is a whole number too, and 2 ^ 53 times their distance is at most the number.
-- `Rounded n w`, with U = 2 ^ 53, says so by two products: w * U ≤ n * (U + 1) and n * (U - 1) ≤ w * U. Assumes nothing.
use mathlib.Core.Path.{◌≡◌, sym, ap, ◌∙◌, subst}
use Prim.Native.Nat.{ℕ, suc, ◌+◌, ◌-◌, ◌*◌, ◌/◌, ◌%◌, ◌^◌, ◌≤◌, ◌<◌, compare, Ordering}
use native.Mathlib.Nat.{mul-lt-mul_of_pos_left, lt_of_not-le, not-le_of_lt, le_trans, le_of_eq, lt_of_lt_of_le, lt_of_le_of_lt, zero-lt-suc}
use native.Mathlib.Nat.{mul-one, one-mul, mul_assoc, mul_right_comm, mul-le-mul_right, le_of_mul-le-mul_right, mul-pos, eq_of_mul-eq-mul_right}
use native.Mathlib.Nat.{div-add-mod', mod-lt, div-one, suc-mul, add-mul}
use native.Mathlib.Omega.{arith}
use mathlib.Core.Bool.{Bool, true, false, not}
use lib.Dec.{T, is_le, compare_is_eq, ltb, eqb, leb→le, nleb→lt, eqb→eq, eqb_refl, ltb→lt, nltb→le, lit≤}
use lib.Arith.{lt_of_le-ne}
use lib.Pow.{pow-add, pow_pos, pow_mono, shl_lt}
use lib.Ieee.{Float, nan, inf, fin, binary64, up, down, size, nearest, round}
use lib.Ieee.Digits.{size-lt, size_reaches, back}
use lib.Ieee.Exact.{HasValue, round_exact}
use lib.Ieee.Nearest.{closest}
use lib.Ieee.Scale.{round_val}

-- ---- the nearest whole number of a / b, times b, is at most half of b from a

abbrev Half : ℕ → ℕ → ℕ → Type 0
Half x a b = (2 * (x * b) ≤ 2 * a + b) × (2 * a ≤ 2 * (x * b) + b)

abbrev Compared : Ordering → ℕ → ℕ → Type 0
Compared Ordering.lt a b = a < b
Compared Ordering.eq a b = a ≡ b
Compared Ordering.gt a b = b < a

compared : (a b : ℕ) → Compared (compare a b) a b
compared a b = go (compare a b) (leb→le a b) (nleb→lt a b) (eqb→eq a b) (λ (e : a ≡ b). subst (λ (x : ℕ). T (eqb a x)) e (eqb_refl a))
  where
    go : (o : Ordering) → (T (is_le o) → a ≤ b) → (T (not (is_le o)) → b < a) → (T (compare_is_eq o) → a ≡ b) → (a ≡ b → T (compare_is_eq o)) → Compared o a b
    go Ordering.lt h k e n = lt_of_le-ne (h tt) n
    go Ordering.eq h k e n = e tt
    go Ordering.gt h k e n = k tt

half_down : (q a b r : ℕ) → q * b + r ≡ a → r * 2 ≤ b → Half q a b
half_down q a b r e h = omega arith

half_up : (q a b r : ℕ) → q * b + r ≡ a → r < b → b ≤ r * 2 → Half (suc q) a b
half_up q a b r e l h = let s : suc q * b ≡ q * b + b = suc-mul q b in omega arith

tie : (q a b r : ℕ) → q * b + r ≡ a → r < b → r * 2 ≡ b → Half (q + q % 2) a b
tie q a b r e l h =
    let s : (q + q % 2) * b ≡ q * b + q % 2 * b = add-mul q (q % 2) b in
    let m : q % 2 * b ≤ 1 * b = mul-le-mul_right b (omega arith) in
    omega arith

pub closest_half : (a b : ℕ) → 0 < b → Half (closest a b) a b
closest_half a b B = go (compare (a % b * 2) b) (compared (a % b * 2) b)
  where
    go : (o : Ordering) → Compared o (a % b * 2) b → Half (nearest (a / b) o) a b
    go Ordering.lt h = half_down (a / b) a b (a % b) (div-add-mod' a b) (omega arith)
    go Ordering.eq h = tie (a / b) a b (a % b) (div-add-mod' a b) (mod-lt a B) h
    go Ordering.gt h = half_up (a / b) a b (a % b) (div-add-mod' a b) (mod-lt a B) (omega arith)

-- ---- n ≥ 2 ^ 53, in units of the format's smallest value: N = n * 2 ^ 1074 has at least 53 + 1074 digits, of which k ≥ 1074 are dropped

abbrev pub Rounded : ℕ → ℕ → Type 0
Rounded n w = (w * 2 ^ 53 ≤ n * (2 ^ 53 + 1)) × (n * (2 ^ 53 - 1) ≤ w * 2 ^ 53)

-- the half is of 2 ^ k, and N has 52 digits above that
in_units : (x N B : ℕ) → Half x N B → 2 ^ 52 * B ≤ N → Rounded N (x * B)
in_units x N B h g = omega arith

-- from units to whole numbers
unscaled : (n w L : ℕ) → 0 < L → Rounded (n * L) (w * L) → Rounded n w
unscaled n w L p h = (
  le_of_mul-le-mul_right (le_trans (le_of_eq (mul_right_comm w (2 ^ 53) L)) (le_trans h.0 (le_of_eq (mul_right_comm n L (2 ^ 53 + 1))))) p,
  le_of_mul-le-mul_right (le_trans (le_of_eq (mul_right_comm n (2 ^ 53 - 1) L)) (le_trans h.1 (le_of_eq (mul_right_comm w L (2 ^ 53))))) p,
)

whole_of_units : (x : Float) (w L : ℕ) → 0 < L → HasValue x false (w * L) L → HasValue x false w 1
whole_of_units nan w L p v = v
whole_of_units (inf t) w L p v = v
whole_of_units (fin t m e) w L p v = (v.0, mul-one (m * up e) ∙ eq_of_mul-eq-mul_right L p (m * up e) (w * down e) (v.1 ∙ mul_right_comm w L (down e)))

size_gt : (n j : ℕ) → 2 ^ j ≤ n → j < size n
size_gt n j h = lt_of_not-le (λ (g : size n ≤ j). not-le_of_lt (lt_of_lt_of_le (size-lt n) (pow_mono g)) h)

-- a float that is a whole number, got from n by one rounding
pub record Whole (n : ℕ) (x : Float) : Type 0 where
  pub whole : ℕ
  pub value : HasValue x false whole 1
  pub near : Rounded n whole

-- omega takes no number of more than 38 digits: what it is to show stands apart from 2 ^ 1074
over : (z : ℕ) → 1126 < z → 52 + (z - 53) < z
over z h = omega arith

dropped : (z : ℕ) → 1126 < z → 1074 ≤ z - 53
dropped z h = omega arith

pub at_most_twice : (N g : ℕ) → Rounded N g → g ≤ 2 * N
at_most_twice N g h = omega arith

long : (n : ℕ) → 2 ^ 53 ≤ n → n < 2 ^ 1023 → Whole n (round binary64 false n 1)
long n lo hi =
    let N = n * 2 ^ 1074 in
    let z = size (N / 1) in
    let k = z - 53 in
    let x = closest N (1 * 2 ^ k) in
    let one : N / 1 ≡ N = div-one N in
    let digits : 1126 < z = size_gt (N / 1) 1126 (le_trans (lit≤ tt) (le_trans (mul-le-mul_right (2 ^ 1074) lo) (le_of_eq (sym one)))) in
    let top : 2 ^ 52 * 2 ^ k ≤ N = le_trans (le_of_eq (sym (pow-add 2 52 k))) (le_trans (size_reaches (N / 1) (52 + k) (over z digits)) (le_of_eq one)) in
    let half : Half x N (2 ^ k) = subst (λ (b : ℕ). Half x N b) (one-mul (2 ^ k)) (closest_half N (1 * 2 ^ k) (mul-pos (zero-lt-suc 0) (pow_pos k))) in
    let near : Rounded N (x * 2 ^ k) = in_units x N (2 ^ k) half top in
    let w = x * 2 ^ (k - 1074) in
    let same : x * 2 ^ k ≡ w * 2 ^ 1074 =
    ap (λ (j : ℕ). x * 2 ^ j) (sym (back k 1074 (dropped z digits)))
    ∙ ap (λ (y : ℕ). x * y) (pow-add 2 (k - 1074) 1074)
    ∙ sym (mul_assoc x (2 ^ (k - 1074)) (2 ^ 1074)) in
    let under : x * 2 ^ k < 2 ^ 2098 =
    lt_of_le_of_lt (at_most_twice N (x * 2 ^ k) near) (lt_of_lt_of_le (mul-lt-mul_of_pos_left (shl_lt 1023 1074 hi) (zero-lt-suc 1)) (lit≤ tt)) in
    record {
      whole = w;
      value = whole_of_units (round binary64 false n 1) w (2 ^ 1074) (pow_pos 1074)
          (subst (λ (y : ℕ). HasValue (round binary64 false n 1) false y (2 ^ 1074)) same (round_val binary64 n 1 under));
      near = unscaled n w (2 ^ 1074) (pow_pos 1074) (subst (λ (y : ℕ). Rounded N y) same near);
    }

-- ---- any n below 2 ^ 1023; below 2 ^ 53 it is a float itself

pub short_value : (n : ℕ) → n < 2 ^ 53 → HasValue (round binary64 false n 1) false n 1
short_value n h = round_exact binary64 false n 1 n 1074 (zero-lt-suc 0) h (lt_of_lt_of_le (shl_lt 53 1074 h) (lit≤ tt)) (sym (mul-one (n * 2 ^ 1074)))

pub itself : (n : ℕ) → Rounded n n
itself n = omega arith

pub round_whole : (n : ℕ) → n < 2 ^ 1023 → Whole n (round binary64 false n 1)
round_whole n hi = go (ltb n (2 ^ 53)) (ltb→lt n (2 ^ 53)) (nltb→le n (2 ^ 53))
  where
    go : (b : Bool) → (T b → n < 2 ^ 53) → (T (not b) → 2 ^ 53 ≤ n) → Whole n (round binary64 false n 1)
    go true l g = record { whole = n; value = short_value n (l tt); near = itself n }
    go false l g = long n (g tt) hi
