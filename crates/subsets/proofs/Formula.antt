-- The product formula: C(n, r + 1) is C(n, r) times n - r, divided by r + 1, and the division is exact. Assumes nothing.
use mathlib.Core.Path.{◌≡◌, sym, ap, ◌∙◌}
use mathlib.Core.Logic.{◌⊎◌, inl, inr}
use Prim.Native.Nat.{ℕ, zero, suc, ◌+◌, ◌-◌, ◌*◌, ◌/◌, ◌%◌, ◌^◌, ◌≤◌, ◌<◌}
use native.Mathlib.Nat.{mul_comm, mul-add, suc-mul, mul-zero, zero-mul, mul-mod_left, div-eq_of_eq-mul_left, mul-le-mul, pow-zero, pow-suc, pow-le-pow_left, pow-le-pow_right, eq_of_mul-eq-mul_left, le-mul_of_pos_right}
use native.Mathlib.Omega.{arith}
use native.Mathlib.Numerals.{add-one}
use Rattle.sets.proofs.Tests.{lt_or_le}
use Rattle.subsets.specs.Subsets.{subset_count}
use Rattle.subsets.proofs.Pascal.{count_none, count_empty, pascal}

-- a number that is 0 once its factor is
none_left : (m c x : ℕ) → suc m * c ≡ x → x ≡ 0 → c ≡ 0
none_left m c x e z = eq_of_mul-eq-mul_left (suc m) (omega arith) c 0 (e ∙ z ∙ sym (mul-zero (suc m)))

-- one unit of c moved from the first factor to the second
moved : (n q c : ℕ) → (n ≤ q → c ≡ 0) → suc (suc q) * c + (n - suc q) * c ≡ suc q * c + (n - q) * c
moved n q c z = go (lt_or_le q n)
  where
    go : (q < n) ⊎ (n ≤ q) → suc (suc q) * c + (n - suc q) * c ≡ suc q * c + (n - q) * c
    go (inl h) =
        let more : n - q ≡ suc (n - suc q) = omega arith in
        omega (arith, suc-mul (suc q) c, suc-mul (n - suc q) c, ap (λ (x : ℕ). x * c) more)
    go (inr h) =
        omega (
          arith,
          ap (λ (x : ℕ). suc (suc q) * x) (z h),
          ap (λ (x : ℕ). (n - suc q) * x) (z h),
          ap (λ (x : ℕ). suc q * x) (z h),
          ap (λ (x : ℕ). (n - q) * x) (z h),
        )

-- (r + 1) C(n, r + 1) = (n - r) C(n, r)
pub absorb : (n r : ℕ) → suc r * subset_count n (suc r) ≡ (n - r) * subset_count n r
absorb zero r =
    let none : 0 - r ≡ 0 = omega arith in
    omega (arith, ap (λ (x : ℕ). suc r * x) (count_none r), ap (λ (x : ℕ). x * subset_count 0 r) none)
absorb (suc n) zero =
    omega (
      arith,
      pascal n 0,
      absorb n 0,
      count_empty n,
      count_empty (suc n),
      ap (λ (x : ℕ). (n - 0) * x) (count_empty n),
      ap (λ (x : ℕ). (suc n - 0) * x) (count_empty (suc n)),
    )
absorb (suc n) (suc q) =
    let a = subset_count n q in
    let c = subset_count n (suc q) in
    let d = subset_count n (suc (suc q)) in
    let same : suc n - suc q ≡ n - q = omega arith in
    let none : n ≤ q → c ≡ 0 =
    (λ h. none_left q c ((n - q) * a) (absorb n q) (let z : n - q ≡ 0 = omega arith in ap (λ (x : ℕ). x * a) z ∙ zero-mul a)) in
    omega (
      arith,
      ap (λ (x : ℕ). suc (suc q) * x) (pascal n (suc q)),
      mul-add (suc (suc q)) c d,
      absorb n (suc q),
      moved n q c none,
      absorb n q,
      mul-add (n - q) a c,
      ap (λ (x : ℕ). (suc n - suc q) * x) (pascal n q),
      ap (λ (x : ℕ). x * (a + c)) same,
    )

-- no set has more parts than there are
pub count_few : (n r : ℕ) → n ≤ r → subset_count n (suc r) ≡ 0
count_few n r h =
    let z : n - r ≡ 0 = omega arith in
    none_left r (subset_count n (suc r)) ((n - r) * subset_count n r) (absorb n r) (ap (λ (x : ℕ). x * subset_count n r) z ∙ zero-mul (subset_count n r))

-- ---- a step of the formula

product_is : (n i : ℕ) → subset_count n i * (n - i) ≡ subset_count n (suc i) * suc i
product_is n i = mul_comm (subset_count n i) (n - i) ∙ sym (absorb n i) ∙ mul_comm (suc i) (subset_count n (suc i))

-- its division is exact
pub step_exact : (n i : ℕ) → subset_count n i * (n - i) % suc i ≡ 0
step_exact n i = ap (λ (x : ℕ). x % suc i) (product_is n i) ∙ mul-mod_left (subset_count n (suc i)) (suc i)

-- and gives the next count
pub step_next : (n i : ℕ) → subset_count n i * (n - i) / suc i ≡ subset_count n (suc i)
step_next n i = div-eq_of_eq-mul_left (omega arith) (product_is n i)

-- there are at most n ^ r subsets of r parts
pub count_most : (n r : ℕ) → subset_count n r ≤ n ^ r
count_most n zero = omega (arith, count_empty n, pow-zero n)
count_most n (suc r) =
    let factor : n - r ≤ n = omega arith in
    omega (
      arith,
      le-mul_of_pos_right {m = suc r} (subset_count n (suc r)) (omega arith),
      product_is n r,
      mul-le-mul (count_most n r) factor,
      pow-suc n r,
    )

-- so that for 256 parts too its product fits 64 bits
pub step_fits : (n i : ℕ) → n ≤ 256 → i < 6 → subset_count n i * (n - i) < 2 ^ 64
step_fits n i h l =
    let factor : n - i ≤ n = omega arith in
    omega (
      arith,
      mul-le-mul (count_most n i) factor,
      pow-suc n i,
      pow-le-pow_left h (suc i),
      pow-le-pow_right {n = 256} (omega arith) l,
    )

-- both as the code has them, where c counts the subsets of i parts
module _ (n i c : ℕ) (e : c ≡ subset_count n i) where
  pub product_fits : n ≤ 256 → i < 6 → c * (n - i) < 2 ^ 64
  product_fits h l = omega (arith, step_fits n i h l, ap (λ (x : ℕ). x * (n - i)) e)

  pub next_count : c * (n - i) / (i + 1) ≡ subset_count n (i + 1)
  next_count =
      ap (λ (x : ℕ). x * (n - i) / (i + 1)) e ∙ ap (λ (x : ℕ). subset_count n i * (n - i) / x) (add-one i) ∙ step_next n i
      ∙ ap (subset_count n) (sym (add-one i))

-- ---- closed values

-- the formula, which computes
unfoldable pub formula : ℕ → ℕ → ℕ
formula n zero = 1
formula n (suc i) = formula n i * (n - i) / suc i

pub count_formula : (n r : ℕ) → subset_count n r ≡ formula n r
unfolding formula
count_formula n zero = count_empty n
count_formula n (suc i) = sym (step_next n i) ∙ ap (λ (x : ℕ). x * (n - i) / suc i) (count_formula n i)
