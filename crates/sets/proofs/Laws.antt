-- The laws of sets. Nothing here names a width: a bound is 2 ^ w at any w.
-- Assumes nothing.
use mathlib.Core.Bool.{Bool, true, false, not, cond, ◌&&◌, ◌||◌}
use mathlib.Core.Path.{◌≡◌, refl, sym, ap, ap₂, ◌∙◌}
use mathlib.Core.Logic.{◌⊎◌, inl, inr}
use Prim.Native.Nat.{ℕ, zero, suc, ◌+◌, ◌-◌, ◌/◌, ◌%◌, ◌^◌, ◌≤◌, ◌<◌, min, max, suc-le-suc}
use native.Mathlib.Decide.{le_ind}
use borrow.Author.Tests.{eqb-true, eq-eqb, lt-ltb, le-ltb}
use native.Mathlib.Nat.{le_refl, not-suc-le-zero, lt_of_le_of_lt, sub-le, zero-min, min-zero, suc-min-suc, zero-max, max-zero, suc-max-suc, pow-suc, div-one, zero-div, div-eq_of_lt, lt_of_lt_of_le}
use native.Mathlib.Numerals.{one-add}
use native.Mathlib.Omega.{arith}
use lib.Dec.{eqb, ltb, eqb-zero-suc, eqb-suc-zero, eqb-suc-suc}
use lib.Arith.{bin_ind, half_le}
use lib.Pow.{pow_pos, pow_mono, pow-lt, shr-shr}
use lib.Bits.{bit_and, and_step, or_step, and_le_l, or_lt, and_comm, or_comm}
use lib.Count.{ones, ones_step, ones-le}
use Rattle.sets.specs.Sets.{bit, has, one, meet, union, minus, into, out, size_in, size, sub}
use Rattle.sets.proofs.Tests.{never, not_so, and_left, and_right, and_absorb, or_absorb, lt_or_le, eq_or_ne}

-- ---- digits as tests

pub bit_inj : (x y : ℕ) → x < 2 → y < 2 → bit x ≡ bit y → x ≡ y
bit_inj zero zero hx hy e = refl
bit_inj zero (suc y) hx hy e = let z : ◌≡◌ {A = ℕ} 0 1 = cc in omega arith
bit_inj (suc x) zero hx hy e = let z : ◌≡◌ {A = ℕ} 0 1 = cc in omega arith
bit_inj (suc x) (suc y) hx hy e = omega arith

bit_min : (x y : ℕ) → bit (min x y) ≡ bit x && bit y
bit_min zero y = ap bit (zero-min y)
bit_min (suc x) zero = ap bit (min-zero (suc x))
bit_min (suc x) (suc y) = ap bit (suc-min-suc x y)

bit_max : (x y : ℕ) → bit (max x y) ≡ bit x || bit y
bit_max zero y = ap bit (zero-max y)
bit_max (suc x) zero = ap bit (max-zero (suc x))
bit_max (suc x) (suc y) = ap bit (suc-max-suc x y)

bit_sub : (x y : ℕ) → x < 2 → y < 2 → bit (x - min x y) ≡ bit x && not (bit y)
bit_sub zero y hx hy = let e : 0 - min 0 y ≡ 0 = omega arith in ap bit e
bit_sub (suc x) zero hx hy = let e : suc x - min (suc x) 0 ≡ suc x = omega arith in ap bit e
bit_sub (suc x) (suc y) hx hy = let e : suc x - min (suc x) (suc y) ≡ 0 = omega arith in ap bit e

-- ---- each operation by the lowest digit and the rest

meet_odd : (a b : ℕ) → meet a b % 2 ≡ min (a % 2) (b % 2)
unfolding meet
meet_odd a b = omega (arith, and_step a b)

meet_half : (a b : ℕ) → meet a b / 2 ≡ meet (a / 2) (b / 2)
unfolding meet
meet_half a b = omega (arith, and_step a b)

union_odd : (a b : ℕ) → union a b % 2 ≡ max (a % 2) (b % 2)
unfolding union
union_odd a b = omega (arith, or_step a b)

union_half : (a b : ℕ) → union a b / 2 ≡ union (a / 2) (b / 2)
unfolding union
union_half a b = omega (arith, or_step a b)

minus_odd : (a b : ℕ) → minus a b % 2 ≡ a % 2 - min (a % 2) (b % 2)
unfolding minus
minus_odd a b = omega (arith, and_step a b, and_le_l a b, and_le_l (a / 2) (b / 2))

minus_half : (a b : ℕ) → minus a b / 2 ≡ minus (a / 2) (b / 2)
unfolding minus
minus_half a b = omega (arith, and_step a b, and_le_l a b, and_le_l (a / 2) (b / 2))

pub one_odd : (q : ℕ) → one (suc q) % 2 ≡ 0
unfolding one
one_odd q = omega (arith, pow-suc 2 q)

pub one_half : (q : ℕ) → one (suc q) / 2 ≡ one q
unfolding one
one_half q = omega (arith, pow-suc 2 q)

-- ---- membership by the lowest digit and the rest

pub has_zero : (n : ℕ) → has 0 n ≡ bit (n % 2)
unfolding has
has_zero n = ap (λ (x : ℕ). bit (x % 2)) (div-one n)

pub has_suc : (q n : ℕ) → has (suc q) n ≡ has q (n / 2)
unfolding has
has_suc q n = ap (λ (x : ℕ). bit (n / 2 ^ x % 2)) (sym (one-add q)) ∙ ap (λ (x : ℕ). bit (x % 2)) (sym (shr-shr n 1 q))

pub has_empty : (q : ℕ) → has q 0 ≡ false
unfolding has
has_empty q = ap (λ (x : ℕ). bit (x % 2)) (zero-div (2 ^ q))

pub has_one : (q k : ℕ) → has q (one k) ≡ eqb q k
has_one zero zero = unfold one in has_zero 1
has_one zero (suc k) = has_zero (one (suc k)) ∙ ap bit (one_odd k) ∙ sym (eqb-zero-suc k)
has_one (suc q) zero = unfold one in has_suc q 1 ∙ has_empty q ∙ sym (eqb-suc-zero q)
has_one (suc q) (suc k) = has_suc q (one (suc k)) ∙ ap (has q) (one_half k) ∙ has_one q k ∙ sym (eqb-suc-suc q k)

pub has_meet : (q a b : ℕ) → has q (meet a b) ≡ has q a && has q b
has_meet zero a b = rw (has_zero a, has_zero b) (has_zero (meet a b) ∙ ap bit (meet_odd a b) ∙ bit_min (a % 2) (b % 2))
has_meet (suc q) a b = rw (has_suc q a, has_suc q b) (has_suc q (meet a b) ∙ ap (has q) (meet_half a b) ∙ has_meet q (a / 2) (b / 2))

pub has_union : (q a b : ℕ) → has q (union a b) ≡ has q a || has q b
has_union zero a b = rw (has_zero a, has_zero b) (has_zero (union a b) ∙ ap bit (union_odd a b) ∙ bit_max (a % 2) (b % 2))
has_union (suc q) a b = rw (has_suc q a, has_suc q b) (has_suc q (union a b) ∙ ap (has q) (union_half a b) ∙ has_union q (a / 2) (b / 2))

pub has_minus : (q a b : ℕ) → has q (minus a b) ≡ has q a && not (has q b)
has_minus zero a b =
    let hx : a % 2 < 2 = omega arith in
    let hy : b % 2 < 2 = omega arith in
    rw (has_zero a, has_zero b) (has_zero (minus a b) ∙ ap bit (minus_odd a b) ∙ bit_sub (a % 2) (b % 2) hx hy)
has_minus (suc q) a b = rw (has_suc q a, has_suc q b) (has_suc q (minus a b) ∙ ap (has q) (minus_half a b) ∙ has_minus q (a / 2) (b / 2))

pub has_into : (k q n : ℕ) → has k (into q n) ≡ has k n || eqb k q
unfolding into
has_into k q n = has_union k n (one q) ∙ ap (λ (t : Bool). has k n || t) (has_one k q)

pub has_out : (k q n : ℕ) → has k (out q n) ≡ has k n && not (eqb k q)
unfolding out
has_out k q n = has_minus k n (one q) ∙ ap (λ (t : Bool). has k n && not t) (has_one k q)

-- ---- bounds

pub half_lt : (w n : ℕ) → n < 2 ^ suc w → n / 2 < 2 ^ w
half_lt w n h = omega (arith, pow-suc 2 w)

pub dbl_lt : (w n : ℕ) → n / 2 < 2 ^ w → n < 2 ^ suc w
dbl_lt w n h = omega (arith, pow-suc 2 w)

-- a set of numbers below w is a number below 2 ^ w, and the other way
pub has_above : (w q n : ℕ) → n < 2 ^ w → w ≤ q → has q n ≡ false
unfolding has
has_above w q n h l = ap (λ (x : ℕ). bit (x % 2)) (div-eq_of_lt (lt_of_lt_of_le h (pow_mono l)))

-- two numbers with the same members are the same
pub ext_below : (w a b : ℕ) → a < 2 ^ w → b < 2 ^ w → ((q : ℕ) → q < w → has q a ≡ has q b) → a ≡ b
ext_below zero a b ha hb f = omega arith
ext_below (suc w) a b ha hb f =
    let low : bit (a % 2) ≡ bit (b % 2) = sym (has_zero a) ∙ f 0 (omega arith) ∙ has_zero b in
    let lx : a % 2 < 2 = omega arith in
    let ly : b % 2 < 2 = omega arith in
    let e : a % 2 ≡ b % 2 = bit_inj (a % 2) (b % 2) lx ly low in
    let r : a / 2 ≡ b / 2 =
    ext_below w (a / 2) (b / 2) (half_lt w a ha) (half_lt w b hb) (λ q h. sym (has_suc q a) ∙ f (suc q) (suc-le-suc h) ∙ has_suc q b) in
    omega arith

pub below_pow : (n : ℕ) → n < 2 ^ n
below_pow zero = omega arith
below_pow (suc n) = omega (arith, pow-suc 2 n, below_pow n)

pub ext : (a b : ℕ) → ((q : ℕ) → has q a ≡ has q b) → a ≡ b
ext a b f =
    let la : a ≤ a + b = omega arith in
    let lb : b ≤ a + b = omega arith in
    ext_below (a + b) a b (lt_of_lt_of_le (below_pow a) (pow_mono la)) (lt_of_lt_of_le (below_pow b) (pow_mono lb)) (λ q h. f q)

-- ---- bounds

pub has_lt : (w q n : ℕ) → n < 2 ^ w → has q n ≡ true → q < w
has_lt w q n h e = go (lt_or_le q w)
  where
    go : (q < w) ⊎ (w ≤ q) → q < w
    go (inl l) = l
    go (inr l) = never (has q n) e (has_above w q n h l)

pub none : (n : ℕ) → ((q : ℕ) → has q n ≡ true → ⊥) → n ≡ 0
none n f = ext n 0 (λ q. not_so (has q n) (f q) ∙ sym (has_empty q))

pub parts_lt : (w n : ℕ) → ((q : ℕ) → has q n ≡ true → q < w) → n < 2 ^ w
parts_lt zero n f = omega (arith, none n (λ q e. not-suc-le-zero (f q e)))
parts_lt (suc w) n f =
    dbl_lt w n (parts_lt w (n / 2) (λ q e. let l : suc q < suc w = f (suc q) (has_suc q n ∙ e) in omega arith))

pub meet_lt : (w a b : ℕ) → a < 2 ^ w → meet a b < 2 ^ w
unfolding meet
meet_lt w a b h = lt_of_le_of_lt (and_le_l a b) h

pub union_lt : (w a b : ℕ) → a < 2 ^ w → b < 2 ^ w → union a b < 2 ^ w
unfolding union
union_lt w a b = or_lt w a b

pub minus_lt : (w a b : ℕ) → a < 2 ^ w → minus a b < 2 ^ w
unfolding minus
minus_lt w a b h = lt_of_le_of_lt (sub-le a (bit_and a b)) h

pub one_lt : (w q : ℕ) → q < w → one q < 2 ^ w
unfolding one
one_lt w q h = pow-lt h

pub into_lt : (w q n : ℕ) → q < w → n < 2 ^ w → into q n < 2 ^ w
unfolding into
into_lt w q n l h = union_lt w n (one q) h (one_lt w q l)

pub out_lt : (w q n : ℕ) → n < 2 ^ w → out q n < 2 ^ w
unfolding out
out_lt w q n h = minus_lt w n (one q) h

pub meet_comm : (a b : ℕ) → meet a b ≡ meet b a
unfolding meet
meet_comm a b = and_comm a b

pub union_comm : (a b : ℕ) → union a b ≡ union b a
unfolding union
union_comm a b = or_comm a b

-- ---- size

more : (f n : ℕ) → n ≤ f → size_in (suc f) n ≡ size_in f n
more zero zero h = refl
more zero (suc n) h = absurd (not-suc-le-zero h)
more (suc f) zero h = refl
more (suc f) (suc n) h = ap (λ (x : ℕ). suc n % 2 + x) (more f (suc n / 2) (half_le h))

enough : (f n : ℕ) → n ≤ f → size_in f n ≡ size_in n n
enough f n h = le_ind (λ (m : ℕ). size_in m n ≡ size_in n n) refl (λ m k e. more m n k ∙ e) f h

pub size_step : (n : ℕ) → size n ≡ n % 2 + size (n / 2)
unfolding size
size_step zero = refl
size_step (suc n) = ap (λ (x : ℕ). suc n % 2 + x) (enough n (suc n / 2) (half_le (le_refl (suc n))))

-- what `count_ones` gives
pub size_ones : (n : ℕ) → ones n ≡ size n
size_ones = bin_ind (λ (n : ℕ). ones n ≡ size n) (unfold ones size in refl) (λ n ih. ones_step n ∙ ap (λ (x : ℕ). n % 2 + x) ih ∙ sym (size_step n))

pub size_le : (w n : ℕ) → n < 2 ^ w → size n ≤ w
size_le w n h = omega (arith, size_ones n, ones-le w n h)

pub size_empty : size 0 ≡ 0
unfolding size
size_empty = refl

pub size_zero : (n : ℕ) → size n ≡ 0 → n ≡ 0
size_zero =
    bin_ind (λ (n : ℕ). size n ≡ 0 → n ≡ 0) (λ e. refl)
    (λ n ih e. let z : n / 2 ≡ 0 = ih (omega (arith, size_step n)) in omega (arith, size_step n))

pub size_one : (q : ℕ) → size (one q) ≡ 1
size_one zero = unfold one size in refl
size_one (suc q) =
    let s : size (one (suc q)) ≡ 0 + size (one q) = size_step (one (suc q)) ∙ ap₂ (λ (x y : ℕ). x + size y) (one_odd q) (one_half q) in
    omega (arith, size_one q)

size_meet_step : (a b : ℕ) → size (meet a b) ≡ min (a % 2) (b % 2) + size (meet (a / 2) (b / 2))
size_meet_step a b = size_step (meet a b) ∙ ap₂ (λ (x y : ℕ). x + size y) (meet_odd a b) (meet_half a b)

size_union_step : (a b : ℕ) → size (union a b) ≡ max (a % 2) (b % 2) + size (union (a / 2) (b / 2))
size_union_step a b = size_step (union a b) ∙ ap₂ (λ (x y : ℕ). x + size y) (union_odd a b) (union_half a b)

size_minus_step : (a b : ℕ) → size (minus a b) ≡ (a % 2 - min (a % 2) (b % 2)) + size (minus (a / 2) (b / 2))
size_minus_step a b = size_step (minus a b) ∙ ap₂ (λ (x y : ℕ). x + size y) (minus_odd a b) (minus_half a b)

pub size_union : (a b : ℕ) → size (union a b) + size (meet a b) ≡ size a + size b
size_union =
    bin_ind (λ (a : ℕ). (b : ℕ) → size (union a b) + size (meet a b) ≡ size a + size b)
    (λ b. unfold union meet in omega arith)
    (λ a ih b. omega (arith, size_union_step a b, size_meet_step a b, size_step a, size_step b, ih (b / 2)))

pub size_minus : (a b : ℕ) → size (minus a b) + size (meet a b) ≡ size a
size_minus =
    bin_ind (λ (a : ℕ). (b : ℕ) → size (minus a b) + size (meet a b) ≡ size a)
    (λ b. unfold minus meet in omega (arith, size_empty))
    (λ a ih b. omega (arith, size_minus_step a b, size_meet_step a b, size_step a, ih (b / 2)))

pub size_meet_l : (a b : ℕ) → size (meet a b) ≤ size a
size_meet_l a b = omega (arith, size_minus a b)

pub size_meet_r : (a b : ℕ) → size (meet a b) ≤ size b
size_meet_r a b = omega (arith, size_minus b a, ap size (meet_comm a b))

-- ---- one member more, one less

pub meet_new : (q n : ℕ) → has q n ≡ false → meet n (one q) ≡ 0
meet_new q n e = none (meet n (one q)) (λ k h. go k (sym (has_meet k n (one q)) ∙ h))
  where
    go : (k : ℕ) → has k n && has k (one q) ≡ true → ⊥
    go k h =
        let same : k ≡ q = eqb-true k q (sym (has_one k q) ∙ and_right (has k n) (has k (one q)) h) in
        never (has q n) (ap (λ (x : ℕ). has x n) (sym same) ∙ and_left (has k n) (has k (one q)) h) e

pub meet_old : (q n : ℕ) → has q n ≡ true → meet n (one q) ≡ one q
meet_old q n e = meet_comm n (one q) ∙ ext (meet (one q) n) (one q) (λ k. has_meet k (one q) n ∙ and_absorb (has k (one q)) (has k n) (go k))
  where
    go : (k : ℕ) → has k (one q) ≡ true → has k n ≡ true
    go k h = let same : k ≡ q = eqb-true k q (sym (has_one k q) ∙ h) in ap (λ (x : ℕ). has x n) same ∙ e

pub size_into : (q n : ℕ) → has q n ≡ false → size (into q n) ≡ size n + 1
unfolding into
size_into q n e = omega (arith, size_union n (one q), size_one q, ap size (meet_new q n e), size_empty)

pub size_out : (q n : ℕ) → has q n ≡ true → size (out q n) + 1 ≡ size n
unfolding out
size_out q n e = omega (arith, size_minus n (one q), size_one q, ap size (meet_old q n e))

pub into_has : (q n : ℕ) → has q (into q n) ≡ true
into_has q n = has_into q q n ∙ go (has q n) (eq-eqb q q refl)
  where
    go : (x : Bool) {y : Bool} → y ≡ true → x || y ≡ true
    go true e = refl
    go false e = e

-- ---- subsets

pub sub_has : (q a b : ℕ) → sub a b ≡ true → has q a ≡ true → has q b ≡ true
unfolding sub
sub_has q a b s e = and_right (has q a) (has q b) (sym (has_meet q a b) ∙ ap (has q) (eqb-true (meet a b) a s) ∙ e)

pub has_sub : (a b : ℕ) → ((q : ℕ) → has q a ≡ true → has q b ≡ true) → sub a b ≡ true
unfolding sub
has_sub a b f = eq-eqb (meet a b) a (ext (meet a b) a (λ q. has_meet q a b ∙ and_absorb (has q a) (has q b) (f q)))

pub sub_meet : (a b : ℕ) → sub a b ≡ true → meet a b ≡ a
unfolding sub
sub_meet a b s = eqb-true (meet a b) a s

pub meet_sub : (a b : ℕ) → meet a b ≡ a → sub a b ≡ true
unfolding sub
meet_sub a b e = eq-eqb (meet a b) a e

pub sub_size : (a b : ℕ) → sub a b ≡ true → size a ≤ size b
sub_size a b s = omega (arith, size_meet_r a b, ap size (sub_meet a b s))

pub sub_refl : (a : ℕ) → sub a a ≡ true
sub_refl a = has_sub a a (λ q e. e)

pub sub_trans : (a b c : ℕ) → sub a b ≡ true → sub b c ≡ true → sub a c ≡ true
sub_trans a b c p r = has_sub a c (λ q e. sub_has q b c r (sub_has q a b p e))

pub sub_antisym : (a b : ℕ) → sub a b ≡ true → sub b a ≡ true → a ≡ b
sub_antisym a b p r = sym (sub_meet a b p) ∙ meet_comm a b ∙ sub_meet b a r

-- a subset of as many members is the whole
pub sub_same : (a b : ℕ) → sub a b ≡ true → size a ≡ size b → a ≡ b
sub_same a b s e = sub_antisym a b s (has_sub b a lacks)
  where
    rest : minus b a ≡ 0
    rest = size_zero (minus b a) (omega (arith, size_minus b a, ap size (meet_comm b a ∙ sub_meet a b s)))

    pick : (x y : Bool) → x ≡ true → x && not y ≡ false → y ≡ true
    pick x true p r = refl
    pick true false p r = sym r
    pick false false p r = p

    lacks : (q : ℕ) → has q b ≡ true → has q a ≡ true
    lacks q h = pick (has q b) (has q a) h (sym (has_minus q b a) ∙ ap (has q) rest ∙ has_empty q)

-- ---- a number that is no part

pub out_old : (q n : ℕ) → has q n ≡ false → out q n ≡ n
out_old q n e = ext (out q n) n (λ k. has_out k q n ∙ and_absorb (has k n) (not (eqb k q)) (λ t. go k t (eq_or_ne k q)))
  where
    go : (k : ℕ) → has k n ≡ true → (k ≡ q) ⊎ (eqb k q ≡ false) → not (eqb k q) ≡ true
    go k t (inl same) = never (has q n) (ap (λ (x : ℕ). has x n) (sym same) ∙ t) e
    go k t (inr f) = ap not f

pub minus_empty : (n : ℕ) → minus n 0 ≡ n
minus_empty n = ext (minus n 0) n (λ k. has_minus k n 0 ∙ and_absorb (has k n) (not (has k 0)) (λ t. ap not (has_empty k)))

-- the set of q, or none, taken away
pub minus_single : (w q n : ℕ) → n < 2 ^ w → minus n (cond (ltb q w) (one q) 0) ≡ out q n
minus_single w q n h = go (lt_or_le q w)
  where
    go : (q < w) ⊎ (w ≤ q) → minus n (cond (ltb q w) (one q) 0) ≡ out q n
    go (inl l) = rw (lt-ltb q w l) (unfold out in refl)
    go (inr l) = rw (le-ltb q w l) (minus_empty n ∙ sym (out_old q n (has_above w q n h l)))

-- ---- subsets by the lowest digit and the rest

pub sub_half : (a b : ℕ) → sub a b ≡ true → sub (a / 2) (b / 2) ≡ true
sub_half a b s = has_sub (a / 2) (b / 2) (λ q e. sym (has_suc q b) ∙ sub_has (suc q) a b s (has_suc q a ∙ e))

pub sub_odd : (a b : ℕ) → sub a b ≡ true → a % 2 ≤ b % 2
sub_odd a b s = omega (arith, meet_odd a b, sub_meet a b s)

pub sub_up : (a b : ℕ) → a % 2 ≤ b % 2 → sub (a / 2) (b / 2) ≡ true → sub a b ≡ true
sub_up a b l s = let e : meet a b ≡ a = omega (arith, meet_odd a b, meet_half a b, sub_meet (a / 2) (b / 2) s) in meet_sub a b e

pub out_sub : (q n : ℕ) → sub (out q n) n ≡ true
out_sub q n = has_sub (out q n) n (λ k e. and_left (has k n) (not (eqb k q)) (sym (has_out k q n) ∙ e))

-- a member less, a smaller number
pub out_less : (q n : ℕ) → has q n ≡ true → out q n < n
out_less q n e =
    let l : meet n (one q) ≤ n = unfold meet in and_le_l n (one q) in
    let p : 0 < one q = unfold one in pow_pos q in
    let d : out q n ≡ n - meet n (one q) = unfold out minus meet in refl in
    omega (arith, meet_old q n e)

pub union_empty : (n : ℕ) → union n 0 ≡ n
union_empty n = ext (union n 0) n (λ k. has_union k n 0 ∙ or_absorb (has k n) (has k 0) (λ t. never (has k 0) t (has_empty k)))

-- the set of q, or none, joined
pub union_single : (w q n : ℕ) → union n (cond (ltb q w) (one q) 0) ≡ cond (ltb q w) (into q n) n
union_single w q n = go (lt_or_le q w)
  where
    go : (q < w) ⊎ (w ≤ q) → union n (cond (ltb q w) (one q) 0) ≡ cond (ltb q w) (into q n) n
    go (inl l) = rw (lt-ltb q w l) (unfold into in refl)
    go (inr l) = rw (le-ltb q w l) (union_empty n)

-- a member, as a subset of one
pub sub_one : (q n : ℕ) → sub (one q) n ≡ has q n
sub_one q n = go (has q n) refl (sub (one q) n) refl
  where
    go : (x : Bool) → has q n ≡ x → (y : Bool) → sub (one q) n ≡ y → y ≡ x
    go true e true f = refl
    go false e false f = refl
    go true e false f = sym f ∙ has_sub (one q) n (λ k t. ap (λ (z : ℕ). has z n) (eqb-true k q (sym (has_one k q) ∙ t)) ∙ e)
    go false e true f = sym (sub_has q (one q) n f (has_one q q ∙ eq-eqb q q refl)) ∙ e

-- ---- a part more and a part less, by the lowest digit and the rest

pub into_odd : (q n : ℕ) → into (suc q) n % 2 ≡ n % 2
unfolding into
into_odd q n = omega (arith, union_odd n (one (suc q)), one_odd q)

pub into_half : (q n : ℕ) → into (suc q) n / 2 ≡ into q (n / 2)
unfolding into
into_half q n = union_half n (one (suc q)) ∙ ap (union (n / 2)) (one_half q)

pub into_low : (n : ℕ) → into 0 n % 2 ≡ 1
unfolding into one
into_low n = omega (arith, union_odd n 1)

pub into_rest : (n : ℕ) → into 0 n / 2 ≡ n / 2
unfolding into one
into_rest n = union_half n 1 ∙ union_empty (n / 2)

pub out_odd : (q n : ℕ) → out (suc q) n % 2 ≡ n % 2
unfolding out
out_odd q n = omega (arith, minus_odd n (one (suc q)), one_odd q)

pub out_half : (q n : ℕ) → out (suc q) n / 2 ≡ out q (n / 2)
unfolding out
out_half q n = minus_half n (one (suc q)) ∙ ap (minus (n / 2)) (one_half q)

pub out_low : (n : ℕ) → out 0 n % 2 ≡ 0
unfolding out one
out_low n = omega (arith, minus_odd n 1)

pub out_rest : (n : ℕ) → out 0 n / 2 ≡ n / 2
unfolding out one
out_rest n = minus_half n 1 ∙ minus_empty (n / 2)

-- a part may come into either of two sets that are joined
pub into_across : (q a b : ℕ) → union (into q a) b ≡ union a (into q b)
into_across q a b =
    ext (union (into q a) b) (union a (into q b)) (λ k.
    has_union k (into q a) b ∙ ap (λ (t : Bool). t || has k b) (has_into k q a) ∙ swap (has k a) (eqb k q) (has k b)
    ∙ sym (has_union k a (into q b) ∙ ap (λ (t : Bool). has k a || t) (has_into k q b)))
  where
    swap : (x y z : Bool) → (x || y) || z ≡ x || (z || y)
    swap true y z = refl
    swap false true true = refl
    swap false true false = refl
    swap false false true = refl
    swap false false false = refl
