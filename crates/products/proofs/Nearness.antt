-- The product of up to six weights: a whole number v, and 2 ^ 53 times the distance of v and the exact product e is at most 6 times e.
-- With U = 2 ^ 53, after j roundings v * U ^ j ≤ e * (U + 1) ^ j and e * (U - 1) ^ j ≤ v * U ^ j. At j = 5 the rest is one comparison of numbers.
-- Assumes nothing.
use mathlib.Core.Path.{◌≡◌, refl, sym, ap, ◌∙◌, subst}
use Prim.Native.Nat.{ℕ, zero, suc, ◌+◌, ◌-◌, ◌*◌, ◌^◌, ◌≤◌, ◌<◌}
use native.Mathlib.Nat.{le_refl, le_trans, le_of_eq, two-pow-succ, lt_of_lt_of_le, lt_of_le_of_lt, zero-lt-suc, pow-suc}
use native.Mathlib.Nat.{mul-one, one-mul, mul_assoc, mul_comm, mul_left_comm, mul-le-mul_right, mul-le-mul_left, le_of_mul-le-mul_right, mul-pos}
use native.Mathlib.Omega.{arith}
use mathlib.Core.Bool.{false}
use mathlib.Core.List.Memᴰ
use mathlib.Core.List.{List, [], ◌∷◌, foldl}
use lib.Dec.{lit≤}
use lib.ListN.{length, get_or}
use lib.Pow.{pow_mono, shl_lt}
use lib.Ieee.{Float, binary64, mul, of_int, round}
use lib.Ieee.Exact.{HasValue}
use lib.Ieee.Positive.{positive_of_value, mul_at}
use Rattle.products.specs.Products.{float_of, times_of, product_of, whole_product, distance, Weight, Weights, Near}
use Rattle.products.proofs.Rounding.{Rounded, Whole, itself, at_most_twice, short_value, round_whole}

first : (w : ℕ) (W : List ℕ) → Weights (w ∷ W) → Weight w
first w W g = g w (Memᴰ.head refl)

rest : (w : ℕ) (W : List ℕ) → Weights (w ∷ W) → Weights W
rest w W g v m = g v (Memᴰ.tail m)

-- ---- j roundings, over whole numbers

abbrev Within : ℕ → ℕ → ℕ → Type 0
Within j v e = (v * (2 ^ 53) ^ j ≤ e * (2 ^ 53 + 1) ^ j) × (e * (2 ^ 53 - 1) ^ j ≤ v * (2 ^ 53) ^ j)

-- v / e is within (b / a) ^ j, and w / (v * t) within b / a, from above and from below
chain_above : (a b j v e t w : ℕ) → v * a ^ j ≤ e * b ^ j → w * a ≤ v * t * b → w * a ^ suc j ≤ e * t * b ^ suc j
chain_above a b j v e t w h r =
    simp (pow-suc, mul_assoc, mul_comm, mul_left_comm)
    (le_trans (simp (mul_assoc, mul_comm, mul_left_comm) at (mul-le-mul_right (a ^ j) r))
    (simp (mul_assoc, mul_comm, mul_left_comm) at (mul-le-mul_right (t * b) h)))

chain_below : (a b j v e t w : ℕ) → e * b ^ j ≤ v * a ^ j → v * t * b ≤ w * a → e * t * b ^ suc j ≤ w * a ^ suc j
chain_below a b j v e t w h r =
    simp (pow-suc, mul_assoc, mul_comm, mul_left_comm)
    (le_trans (simp (mul_assoc, mul_comm, mul_left_comm) at (mul-le-mul_right (t * b) h))
    (simp (mul_assoc, mul_comm, mul_left_comm) at (mul-le-mul_right (a ^ j) r)))

within_step : (j v e t w : ℕ) → Within j v e → Rounded (v * t) w → Within (suc j) w (e * t)
within_step j v e t w h r = (chain_above (2 ^ 53) (2 ^ 53 + 1) j v e t w h.0 r.0, chain_below (2 ^ 53) (2 ^ 53 - 1) j v e t w h.1 r.1)

-- a factor 1 counts as a rounding, so fewer than five are within five
within_five : (d j v e : ℕ) → d + j ≡ 5 → Within j v e → Within 5 v e
within_five zero j v e p h = let q : j ≡ 5 = omega arith in subst (λ (i : ℕ). Within i v e) q h
within_five (suc d) j v e p h =
    let one : Within (suc j) v (e * 1) = within_step j v e 1 v h (subst (λ (n : ℕ). Rounded n v) (sym (mul-one v)) (itself v)) in
    within_five d (suc j) v e (omega arith) (subst (λ (n : ℕ). Within (suc j) v n) (mul-one e) one)

-- (U + 1) ^ 5 ≤ (U + 6) * U ^ 4 and (U - 6) * U ^ 4 ≤ (U - 1) ^ 5
six_above : (v e : ℕ) → v * (2 ^ 53) ^ 5 ≤ e * (2 ^ 53 + 1) ^ 5 → v * 2 ^ 53 ≤ e * (2 ^ 53 + 6)
six_above v e h =
    le_of_mul-le-mul_right {k = (2 ^ 53) ^ 4}
    (le_trans (le_of_eq (mul_assoc v (2 ^ 53) ((2 ^ 53) ^ 4)))
    (le_trans h (le_trans (mul-le-mul_left e (lit≤ tt)) (le_of_eq (sym (mul_assoc e (2 ^ 53 + 6) ((2 ^ 53) ^ 4)))))))
    (lit≤ tt)

six_below : (v e : ℕ) → e * (2 ^ 53 - 1) ^ 5 ≤ v * (2 ^ 53) ^ 5 → e * (2 ^ 53 - 6) ≤ v * 2 ^ 53
six_below v e h =
    le_of_mul-le-mul_right {k = (2 ^ 53) ^ 4}
    (le_trans (le_of_eq (mul_assoc e (2 ^ 53 - 6) ((2 ^ 53) ^ 4)))
    (le_trans (mul-le-mul_left e (lit≤ tt)) (le_trans h (le_of_eq (sym (mul_assoc v (2 ^ 53) ((2 ^ 53) ^ 4)))))))
    (lit≤ tt)

apart : (v e : ℕ) → v * 2 ^ 53 ≤ e * (2 ^ 53 + 6) → e * (2 ^ 53 - 6) ≤ v * 2 ^ 53 → 2 ^ 53 * distance v e ≤ 6 * e
apart v e a b = omega arith

-- ---- j roundings, over floats: x is a whole number that is within j roundings of e

record Tracked (j : ℕ) (x : Float) (e : ℕ) : Type 0 where
  whole : ℕ
  value : HasValue x false whole 1
  some : 0 < whole
  small : whole < 2 ^ (17 * j + 16)
  within : Within j whole e

float_value : (t : ℕ) → Weight t → HasValue (float_of t) false t 1
unfolding of_int
float_value t h = short_value t (omega arith)

times_at : (x : Float) (v t : ℕ) → HasValue x false v 1 → 0 < v → Weight t → times_of x t ≡ round binary64 false (v * t) 1
times_at x v t h p g =
    mul_at binary64 x (float_of t) v 1 t 1 (positive_of_value x v 1 h p) (positive_of_value (float_of t) t 1 (float_value t g) g.0)
    (zero-lt-suc 0) (zero-lt-suc 0) h (float_value t g)

some_left : (n w : ℕ) → 0 < n → Rounded n w → 0 < w
some_left n w p h = omega arith

longer : (m s v t : ℕ) → m ≡ s + 16 → v < 2 ^ s → t ≤ 65535 → v * t < 2 ^ m
longer m s v t e h g = subst (λ (i : ℕ). v * t < 2 ^ i) (sym e) (lt_of_le_of_lt (mul-le-mul_left v (le_trans g (lit≤ tt))) (shl_lt s 16 h))

doubled : (m k n w : ℕ) → m ≡ suc k → n < 2 ^ k → w ≤ 2 * n → w < 2 ^ m
doubled m k n w e h g = subst (λ (i : ℕ). w < 2 ^ i) (sym e) (omega (arith, two-pow-succ k))

times_tracked : (j : ℕ) (x : Float) (e t : ℕ) → j ≤ 5 → Weight t → Tracked j x e → Tracked (suc j) (times_of x t) (e * t)
times_tracked j x e t l g d =
    let v = d.whole in
    let n = v * t in
    let under : n < 2 ^ (17 * j + 32) = longer (17 * j + 32) (17 * j + 16) v t (omega arith) d.small g.1 in
    let fits : 17 * j + 32 ≤ 1023 = omega arith in
    let r : Whole n (round binary64 false n 1) = round_whole n (lt_of_lt_of_le under (pow_mono fits)) in
    record {
      whole = r.whole;
      value = subst (λ (y : Float). HasValue y false r.whole 1) (sym (times_at x v t d.value d.some g)) r.value;
      some = some_left n r.whole (mul-pos d.some g.0) r.near;
      small = doubled (17 * suc j + 16) (17 * j + 32) n r.whole (omega arith) under (at_most_twice n r.whole r.near);
      within = within_step j v e t r.whole d.within r.near;
    }

float_tracked : (t : ℕ) → Weight t → Tracked 0 (float_of t) t
float_tracked t g = record { whole = t; value = float_value t g; some = g.0; small = omega arith; within = (le_refl (t * 1), le_refl (t * 1)) }

-- ---- the law

near_of : (d j : ℕ) (x : Float) (e : ℕ) → d + j ≡ 5 → Tracked j x e → Near x e
near_of d j x e p h =
    let w : Within 5 h.whole e = within_five d j h.whole e p h.within in
    record { whole = h.whole; value = h.value; positive = h.some; near = apart h.whole e (six_above h.whole e w.0) (six_below h.whole e w.1) }

folded : (ts : List ℕ) (d j : ℕ) (x : Float) (e : ℕ) → d + (length ts + j) ≡ 5 → Weights ts → Tracked j x e → Near (foldl times_of x ts) (e * whole_product ts)
unfolding whole_product
folded [] d j x e p g h = subst (λ (n : ℕ). Near x n) (sym (mul-one e)) (near_of d j x e (omega arith) h)
folded (t ∷ ts) d j x e p g h =
    subst (λ (n : ℕ). Near (foldl times_of (times_of x t) ts) n) (mul_assoc e t (whole_product ts))
    (folded ts d (suc j) (times_of x t) (e * t) (omega arith) (rest t ts g) (times_tracked j x e t (omega arith) (first t ts g) h))

pub product_near : (W : List ℕ) → 1 ≤ length W → length W ≤ 6 → Weights W → Near (product_of W) (whole_product W)
unfolding product_of whole_product
product_near [] o l g = absurd (omega arith)
product_near (w ∷ W) o l g = folded W (5 - length W) 0 (float_of w) w (omega arith) (rest w W g) (float_tracked w (first w W g))

-- a product may as well begin at 1: a number below 2 ^ 16 times 1 is that number
one_times : (t : ℕ) → t ≤ 65535 → times_of (float_of 1) t ≡ float_of t
unfolding of_int mul
one_times zero h = refl
one_times (suc t) h =
    times_at (float_of 1) 1 (suc t) (float_value 1 (omega arith)) (zero-lt-suc 0) (zero-lt-suc t, h)
    ∙ ap (λ (n : ℕ). round binary64 false n 1) (one-mul (suc t))

pub from_one : (ts : List ℕ) → get_or ts 0 0 ≤ 65535 → foldl times_of (float_of 1) ts ≡ product_of ts
unfolding product_of
from_one [] h = refl
from_one (t ∷ ts) h = ap (λ (x : Float). foldl times_of x ts) (one_times t h)
