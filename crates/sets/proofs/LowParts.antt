-- The k lowest members of a set: a subset of k members, and no subset of k members comes before it; they are the lowest member and the
-- k - 1 lowest of the rest. Any width. Assumes nothing.
use mathlib.Core.Bool.{Bool, true, false, cond}
use mathlib.Core.Path.{◌≡◌, refl, sym, ap, ap₂, ◌∙◌}
use mathlib.Core.Logic.{◌⊎◌, inl, inr}
use Prim.Native.Nat.{ℕ, zero, suc, ◌+◌, ◌-◌, ◌*◌, ◌/◌, ◌%◌, ◌^◌, ◌≤◌, ◌<◌, min}
use native.Mathlib.Nat.{le_refl, not-suc-le-zero}
use native.Mathlib.Decide.{le_ind}
use native.Mathlib.Omega.{arith}
use borrow.Author.Tests.{le-ltb, lt-ltb, eqb-false}
use lib.Arith.{bin_ind, half_le}
use lib.Dec.{ltb, eqb}
use Rattle.sets.specs.Sets.{has, union, into, out, size, sub, before, lowest, lows_in, lows}
use Rattle.sets.proofs.Laws.{has_empty, has_lt, has_sub, size_step, size_empty, size_out, sub_half, sub_odd, sub_up, sub_refl, sub_trans, out_sub, out_less, into_odd, into_half, into_low, into_rest, into_across, out_odd, out_half, out_low, out_rest, union_empty}
use Rattle.sets.proofs.Members.{digit, lowest_has, lowest_step, answer_has}

more : (f k n : ℕ) → n ≤ f → lows_in (suc f) k n ≡ lows_in f k n
more zero zero n h = refl
more zero (suc k) zero h = refl
more zero (suc k) (suc n) h = absurd (not-suc-le-zero h)
more (suc f) zero n h = refl
more (suc f) (suc k) zero h = refl
more (suc f) (suc k) (suc n) h = ap (λ (x : ℕ). x * 2 + suc n % 2) (more f (suc k - suc n % 2) (suc n / 2) (half_le h))

enough : (f k n : ℕ) → n ≤ f → lows_in f k n ≡ lows_in n k n
enough f k n h = le_ind (λ (m : ℕ). lows_in m k n ≡ lows_in n k n) refl (λ m l e. more m k n l ∙ e) f h

pub lows_none : (n : ℕ) → lows 0 n ≡ 0
unfolding lows
lows_none zero = refl
lows_none (suc n) = refl

pub lows_empty : (k : ℕ) → lows k 0 ≡ 0
unfolding lows
lows_empty k = refl

lows_step : (k n : ℕ) → lows (suc k) n ≡ lows (suc k - n % 2) (n / 2) * 2 + n % 2
unfolding lows
lows_step k zero = refl
lows_step k (suc n) = ap (λ (x : ℕ). x * 2 + suc n % 2) (enough n (suc k - suc n % 2) (suc n / 2) (half_le (le_refl (suc n))))

pub lows_half : (k n : ℕ) → lows (suc k) n / 2 ≡ lows (suc k - n % 2) (n / 2)
lows_half k n = omega (arith, lows_step k n)

pub lows_odd : (k n : ℕ) → lows (suc k) n % 2 ≡ n % 2
lows_odd k n = omega (arith, lows_step k n)

size_up : (n : ℕ) → ((k : ℕ) → size (lows k (n / 2)) ≡ min k (size (n / 2))) → (k : ℕ) → size (lows k n) ≡ min k (size n)
size_up n ih zero = omega (arith, ap size (lows_none n), size_empty)
size_up n ih (suc k) =
    omega (arith, size_step (lows (suc k) n), ap size (lows_half k n), lows_odd k n, ih (suc k - n % 2), size_step n)

pub lows_size : (n k : ℕ) → size (lows k n) ≡ min k (size n)
lows_size = bin_ind (λ (n : ℕ). (k : ℕ) → size (lows k n) ≡ min k (size n)) (λ k. omega (arith, ap size (lows_empty k), size_empty)) size_up

sub_none : (n : ℕ) → sub 0 n ≡ true
sub_none n = has_sub 0 n (λ q e. absurd (false_so (sym (has_empty q) ∙ e)))
  where
    false_so : false ≡ true → ⊥
    false_so p = let z : ◌≡◌ {A = ℕ} 0 1 = cc in omega arith

lows_up : (n : ℕ) → ((k : ℕ) → sub (lows k (n / 2)) (n / 2) ≡ true) → (k : ℕ) → sub (lows k n) n ≡ true
lows_up n ih zero = rw (lows_none n) (sub_none n)
lows_up n ih (suc k) = sub_up (lows (suc k) n) n (omega (arith, lows_odd k n)) (rw (lows_half k n) (ih (suc k - n % 2)))

pub lows_sub : (n k : ℕ) → sub (lows k n) n ≡ true
lows_sub = bin_ind (λ (n : ℕ). (k : ℕ) → sub (lows k n) n ≡ true) (λ k. rw (lows_empty k) (sub_refl 0)) lows_up

pub some : (n : ℕ) → (n ≡ 0 → ⊥) → (q : ℕ) × (has q n ≡ true)
some n p = (lowest n, lowest_has n p)

least_up : (n : ℕ) → ((m : ℕ) → sub m (n / 2) ≡ true → lows (size m) (n / 2) ≤ m) → (k m : ℕ) → size m ≡ k → sub m n ≡ true → lows k n ≤ m
least_up n ih zero m e s = omega (arith, lows_none n)
least_up n ih (suc k) m e s = go (digits (n % 2) (m % 2) (sub_odd m n s) (omega arith))
  where
    digits : (x y : ℕ) → y ≤ x → x < 2 → (x ≡ y) ⊎ (y + 1 ≡ x)
    digits zero y h l = inl (omega arith)
    digits (suc x) zero h l = inr (omega arith)
    digits (suc x) (suc y) h l = inl (omega arith)

    go : (n % 2 ≡ m % 2) ⊎ (m % 2 + 1 ≡ n % 2) → lows (suc k) n ≤ m
    go (inl d) =
        let z : size (m / 2) ≡ suc k - n % 2 = omega (arith, size_step m) in
        let l : lows (suc k - n % 2) (n / 2) ≤ m / 2 = rw z at (ih (m / 2) (sub_half m n s)) in
        omega (arith, lows_step k n)
    go (inr d) =
        let big : size (m / 2) ≡ suc k = omega (arith, size_step m) in
        let t = some (m / 2) (λ z. omega (arith, ap size z, size_empty)) in
        let z : size (out t.0 (m / 2)) ≡ suc k - n % 2 = omega (arith, size_out t.0 (m / 2) t.1) in
        let l : lows (suc k - n % 2) (n / 2) ≤ out t.0 (m / 2) =
        rw z at (ih (out t.0 (m / 2)) (sub_trans (out t.0 (m / 2)) (m / 2) (n / 2) (out_sub t.0 (m / 2)) (sub_half m n s))) in
        omega (arith, lows_step k n, out_less t.0 (m / 2) t.1)

least : (n m : ℕ) → sub m n ≡ true → lows (size m) n ≤ m
least =
    bin_ind (λ (n : ℕ). (m : ℕ) → sub m n ≡ true → lows (size m) n ≤ m) (λ m s. omega (arith, lows_empty (size m)))
    (λ n ih m s. least_up n ih (size m) m refl s)

-- no subset of k members comes before the k lowest
pub lows_least : (n m : ℕ) → sub m n ≡ true → before m (lows (size m) n) ≡ false
unfolding before
lows_least n m s = le-ltb m (lows (size m) n) (least n m s)

-- ---- the lowest first, then the lowest of the rest

lows_even : (k n : ℕ) → n % 2 ≡ 0 → lows k n % 2 ≡ 0
lows_even zero n e = omega (arith, lows_none n)
lows_even (suc k) n e = lows_odd k n ∙ e

lows_down : (k n : ℕ) → n % 2 ≡ 0 → lows k n / 2 ≡ lows k (n / 2)
lows_down zero n e = omega (arith, lows_none n, lows_none (n / 2))
lows_down (suc k) n e = let d : suc k - n % 2 ≡ suc k = omega arith in lows_half k n ∙ ap (λ (x : ℕ). lows x (n / 2)) d

-- one more of the lowest: the lowest, and those of the rest
abbrev Next : ℕ → Type 0
Next n = (n ≡ 0 → ⊥) → (k : ℕ) → lows (suc k) n ≡ into (lowest n) (lows k (out (lowest n) n))

next_up : (n : ℕ) → Next (n / 2) → Next n
next_up n ih p k = go (digit n)
  where
    even : n % 2 ≡ 0 → lows (suc k) n ≡ into (suc (lowest (n / 2))) (lows k (out (suc (lowest (n / 2))) n))
    even e =
        let q = lowest (n / 2) in
        let r = out (suc q) n in
        let z : r % 2 ≡ 0 = out_odd q n ∙ e in
        let low : lows (suc k) n % 2 ≡ into (suc q) (lows k r) % 2 = lows_even (suc k) n e ∙ sym (into_odd q (lows k r) ∙ lows_even k r z) in
        let top : into (suc q) (lows k r) / 2 ≡ into q (lows k (out q (n / 2))) =
        into_half q (lows k r) ∙ ap (into q) (lows_down k r z ∙ ap (lows k) (out_half q n)) in
        let all : lows (suc k) n / 2 ≡ into (suc q) (lows k r) / 2 = lows_down (suc k) n e ∙ ih (λ h. p (omega arith)) k ∙ sym top in
        omega arith

    odd : n % 2 ≡ 1 → lows (suc k) n ≡ into 0 (lows k (out 0 n))
    odd e =
        let r = out 0 n in
        let d : suc k - n % 2 ≡ k = omega arith in
        let low : lows (suc k) n % 2 ≡ into 0 (lows k r) % 2 = lows_odd k n ∙ e ∙ sym (into_low (lows k r)) in
        let top : into 0 (lows k r) / 2 ≡ lows k (n / 2) = into_rest (lows k r) ∙ lows_down k r (out_low n) ∙ ap (lows k) (out_rest n) in
        let all : lows (suc k) n / 2 ≡ into 0 (lows k r) / 2 = lows_half k n ∙ ap (λ (x : ℕ). lows x (n / 2)) d ∙ sym top in
        omega arith

    go : (n % 2 ≡ 0) ⊎ (n % 2 ≡ 1) → lows (suc k) n ≡ into (lowest n) (lows k (out (lowest n) n))
    go (inl e) = rw (lowest_step n p, e) (even e)
    go (inr e) = rw (lowest_step n p, e) (odd e)

pub lows_next : (n : ℕ) → (n ≡ 0 → ⊥) → (k : ℕ) → lows (suc k) n ≡ into (lowest n) (lows k (out (lowest n) n))
lows_next = bin_ind Next (λ p. absurd (p refl)) next_up

-- the lowest goes from the set to the parts that are taken: with the k lowest of the rest they are what they were
pub lows_take : (k n t : ℕ) → (n ≡ 0 → ⊥) → union (into (lowest n) t) (lows k (out (lowest n) n)) ≡ union t (lows (suc k) n)
lows_take k n t p = rw (lows_next n p k) (into_across (lowest n) t (lows k (out (lowest n) n)))

-- a turn of the code's loop, at sets below 2 ^ w: q is the lowest of n, t and q are u, and n without q is m
pub lows_turn : (w k n t q u m : ℕ) → n < 2 ^ w → eqb n 0 ≡ false → q ≡ cond (eqb n 0) w (lowest n) → u ≡ cond (ltb q w) (into q t) t → m ≡ out q n
    → union u (lows k m) ≡ union t (lows (suc k) n)
lows_turn w k n t q u m h p eq eu em =
    let same : q ≡ lowest n = eq ∙ ap (λ (b : Bool). cond b w (lowest n)) p in
    let l : q < w = has_lt w q n h (answer_has w n q p eq) in
    let e : u ≡ into (lowest n) t = eu ∙ ap (λ (b : Bool). cond b (into q t) t) (lt-ltb q w l) ∙ ap (λ (x : ℕ). into x t) same in
    ap₂ (λ (x y : ℕ). union x (lows k y)) e (em ∙ ap (λ (x : ℕ). out x n) same) ∙ lows_take k n t (eqb-false n 0 p)

-- none is left to take: the count is used up or the set is empty
pub lows_over : (k n t r : ℕ) → (0 < k → n ≡ 0) → union t (lows k n) ≡ r → t ≡ r
lows_over zero n t r z e = sym (ap (union t) (lows_none n) ∙ union_empty t) ∙ e
lows_over (suc k) n t r z e = sym (ap (λ (x : ℕ). union t (lows (suc k) x)) (z (omega arith)) ∙ ap (union t) (lows_empty (suc k)) ∙ union_empty t) ∙ e
