-- What the machine computes on one word of w digits, as the functions of specs/Sets.antt. The width is any w.
-- Assumes nothing.
use mathlib.Core.Bool.{Bool, not, ◌&&◌}
use mathlib.Core.Path.{◌≡◌, refl, sym, ap, ◌∙◌}
use Prim.Native.Nat.{ℕ, zero, suc, ◌-◌, ◌*◌, ◌/◌, ◌%◌, ◌^◌, ◌≤◌, ◌<◌, min}
use native.Mathlib.Nat.{pow-suc, one-mul, mod-eq_of_lt, le_of_suc-le-suc, not-suc-le-zero}
use native.Mathlib.Omega.{arith}
use borrow.Author.Tests.{eq-eqb}
use lib.Dec.{eqb}
use lib.Pow.{pow_pos, pow-lt}
use lib.Bits.{bit_and, and_mask}
use Rattle.sets.specs.Sets.{bit, has, one, meet, minus, full}
use Rattle.sets.proofs.Laws.{has_meet, has_minus, ext_below, meet_lt, minus_lt, has_zero, has_suc}

-- `1 << q`
pub shift_one : (w q : ℕ) → q < w → (1 * 2 ^ q) % 2 ^ w ≡ one q
unfolding one
shift_one w q h = ap (λ (x : ℕ). x % 2 ^ w) (one-mul (2 ^ q)) ∙ mod-eq_of_lt (pow-lt h)

-- `(1 << p) - 1`, and all digits of the word
pub shift_full : (w p : ℕ) → p < w → (1 * 2 ^ p) % 2 ^ w - 1 ≡ full (min p w)
unfolding full one
shift_full w p h = let e : p ≡ min p w = omega arith in ap (λ (x : ℕ). x - 1) (shift_one w p h) ∙ ap (λ (x : ℕ). 2 ^ x - 1) e

pub word_full : (w p : ℕ) → w ≤ p → 2 ^ w - 1 ≡ full (min p w)
unfolding full
word_full w p h = let e : w ≡ min p w = omega arith in ap (λ (x : ℕ). 2 ^ x - 1) e

bit_eqb : (x : ℕ) → x < 2 → eqb x 1 ≡ bit x
bit_eqb zero h = refl
bit_eqb (suc x) h = eq-eqb (suc x) 1 (omega arith)

-- `(n >> q) & 1 == 1`
pub mask_has : (q n : ℕ) → eqb (bit_and (n / 2 ^ q) 1) 1 ≡ has q n
unfolding has
mask_has q n = let l : n / 2 ^ q % 2 < 2 = omega arith in ap (λ (x : ℕ). eqb x 1) (and_mask (n / 2 ^ q) 1) ∙ bit_eqb (n / 2 ^ q % 2) l

not_bit : (x : ℕ) → x < 2 → bit (1 - x) ≡ not (bit x)
not_bit zero h = refl
not_bit (suc x) h = let e : 1 - suc x ≡ 0 = omega arith in ap bit e

-- `!b`
pub has_not : (w q b : ℕ) → b < 2 ^ w → q < w → has q (2 ^ w - 1 - b) ≡ not (has q b)
has_not zero q b hb h = absurd (not-suc-le-zero h)
has_not (suc w) zero b hb h =
    let e : (2 ^ suc w - 1 - b) % 2 ≡ 1 - b % 2 = omega (arith, pow-suc 2 w, pow_pos w) in
    let l : b % 2 < 2 = omega arith in
    has_zero (2 ^ suc w - 1 - b) ∙ ap bit e ∙ not_bit (b % 2) l ∙ ap not (sym (has_zero b))
has_not (suc w) (suc q) b hb h =
    let e : (2 ^ suc w - 1 - b) / 2 ≡ 2 ^ w - 1 - b / 2 = omega (arith, pow-suc 2 w, pow_pos w) in
    let l : b / 2 < 2 ^ w = omega (arith, pow-suc 2 w) in
    has_suc q (2 ^ suc w - 1 - b) ∙ ap (has q) e ∙ has_not w q (b / 2) l (le_of_suc-le-suc h) ∙ ap not (sym (has_suc q b))

-- `a & !b`
pub and_not : (w a b : ℕ) → a < 2 ^ w → b < 2 ^ w → bit_and a (2 ^ w - 1 - b) ≡ minus a b
and_not w a b ha hb = unfold meet in ext_below w (meet a (2 ^ w - 1 - b)) (minus a b) (meet_lt w a (2 ^ w - 1 - b) ha) (minus_lt w a b ha) same
  where
    same : (q : ℕ) → q < w → has q (meet a (2 ^ w - 1 - b)) ≡ has q (minus a b)
    same q h = has_meet q a (2 ^ w - 1 - b) ∙ ap (λ (t : Bool). has q a && t) (has_not w q b hb h) ∙ sym (has_minus q a b)
