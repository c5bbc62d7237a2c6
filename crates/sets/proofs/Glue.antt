-- A set held in two pieces, r on the k lowest places and a above: each operation on the pieces apart. So what holds of one word holds of any number.
-- Assumes nothing.
use mathlib.Core.Bool.{Bool, false, not, ◌&&◌}
use mathlib.Core.Path.{◌≡◌, sym, ap, ap₂, ◌∙◌, subst}
use mathlib.Core.Logic.{◌⊎◌, inl, inr}
use Prim.Native.Nat.{ℕ, zero, suc, ◌+◌, ◌-◌, ◌*◌, ◌/◌, ◌%◌, ◌^◌, ◌≤◌, ◌<◌}
use native.Mathlib.Nat.{not-suc-le-zero, le_of_suc-le-suc, mul-le-mul_right, suc-mul}
use native.Mathlib.Omega.{arith}
use borrow.Author.Tests.{lt-ltb, le-ltb}
use lib.Dec.{ltb}
use lib.Arith.{digits_lt}
use lib.Pow.{pow_pos, pow-add, shr-shr, high, low}
use lib.Bits.{and_block, or_block, block_half, block_odd}
use lib.Count.{ones_cat}
use Rattle.sets.specs.Sets.{bit, has, meet, union, minus, size, before, lowest}
use Rattle.sets.proofs.Laws.{has_zero, has_suc, has_empty, has_minus, has_lt, ext, size_ones}
use Rattle.sets.proofs.Tests.{lt_or_le}
use Rattle.sets.proofs.Members.{lowest_is, lowest_has, lowest_least}

-- a set of two pieces: r on the k lowest places, a on those above
unfoldable pub glue : ℕ → ℕ → ℕ → ℕ
glue k a r = a * 2 ^ k + r

glue_half : (k a r : ℕ) → glue (suc k) a r / 2 ≡ glue k a (r / 2)
unfolding glue
glue_half k a r = block_half a k r

glue_odd : (k a r : ℕ) → glue (suc k) a r % 2 ≡ r % 2
unfolding glue
glue_odd k a r = block_odd a k r

pub has_low : (q k a r : ℕ) → q < k → has q (glue k a r) ≡ has q r
has_low q zero a r h = absurd (not-suc-le-zero h)
has_low zero (suc k) a r h = has_zero (glue (suc k) a r) ∙ ap bit (glue_odd k a r) ∙ sym (has_zero r)
has_low (suc q) (suc k) a r h =
    has_suc q (glue (suc k) a r) ∙ ap (has q) (glue_half k a r) ∙ has_low q k a (r / 2) (le_of_suc-le-suc h) ∙ sym (has_suc q r)

pub has_high : (q k a r : ℕ) → r < 2 ^ k → has (k + q) (glue k a r) ≡ has q a
unfolding has glue
has_high q k a r h = ap (λ (x : ℕ). bit (x % 2)) (sym (shr-shr (a * 2 ^ k + r) k q) ∙ ap (λ (x : ℕ). x / 2 ^ q) (high a k h))

pub glue_lt : (j k a r : ℕ) → a < 2 ^ j → r < 2 ^ k → glue k a r < 2 ^ (j + k)
unfolding glue
glue_lt j k a r ha hr = rw (pow-add 2 j k) (digits_lt ha hr)

-- a number is told by its places below k and those from k on
pub ext_glue : (k m n : ℕ) → ((q : ℕ) → q < k → has q m ≡ has q n) → ((q : ℕ) → has (k + q) m ≡ has (k + q) n) → m ≡ n
ext_glue k m n f g = ext m n (λ q. go q (lt_or_le q k))
  where
    go : (q : ℕ) → (q < k) ⊎ (k ≤ q) → has q m ≡ has q n
    go q (inl l) = f q l
    go q (inr l) = let e : k + (q - k) ≡ q = omega arith in subst (λ (x : ℕ). has x m ≡ has x n) e (g (q - k))

pub meet_glue : (k a b r s : ℕ) → r < 2 ^ k → s < 2 ^ k → meet (glue k a r) (glue k b s) ≡ glue k (meet a b) (meet r s)
unfolding meet glue
meet_glue k a b r s hr hs = and_block k a b r s hr hs

pub union_glue : (k a b r s : ℕ) → r < 2 ^ k → s < 2 ^ k → union (glue k a r) (glue k b s) ≡ glue k (union a b) (union r s)
unfolding union glue
union_glue k a b r s hr hs = or_block k a b r s hr hs

pub minus_glue : (k a b r s : ℕ) → r < 2 ^ k → s < 2 ^ k → minus r s < 2 ^ k → minus (glue k a r) (glue k b s) ≡ glue k (minus a b) (minus r s)
minus_glue k a b r s hr hs hm = ext_glue k (minus (glue k a r) (glue k b s)) (glue k (minus a b) (minus r s)) below above
  where
    below : (q : ℕ) → q < k → has q (minus (glue k a r) (glue k b s)) ≡ has q (glue k (minus a b) (minus r s))
    below q l =
        has_minus q (glue k a r) (glue k b s) ∙ ap₂ (λ (x y : Bool). x && not y) (has_low q k a r l) (has_low q k b s l)
        ∙ sym (has_minus q r s) ∙ sym (has_low q k (minus a b) (minus r s) l)

    above : (q : ℕ) → has (k + q) (minus (glue k a r) (glue k b s)) ≡ has (k + q) (glue k (minus a b) (minus r s))
    above q =
        has_minus (k + q) (glue k a r) (glue k b s) ∙ ap₂ (λ (x y : Bool). x && not y) (has_high q k a r hr) (has_high q k b s hs)
        ∙ sym (has_minus q a b) ∙ sym (has_high q k (minus a b) (minus r s) hm)

pub size_glue : (k a r : ℕ) → r < 2 ^ k → size (glue k a r) ≡ size a + size r
unfolding glue
size_glue k a r h = sym (size_ones (a * 2 ^ k + r)) ∙ ones_cat k a r h ∙ ap₂ (λ (x y : ℕ). x + y) (size_ones a) (size_ones r)

-- ---- equal, and in order

pub glue_above : (k a r b s : ℕ) → r < 2 ^ k → s < 2 ^ k → glue k a r ≡ glue k b s → a ≡ b
unfolding glue
glue_above k a r b s hr hs e = sym (high a k hr) ∙ ap (λ (x : ℕ). x / 2 ^ k) e ∙ high b k hs

pub glue_below : (k a r b s : ℕ) → r < 2 ^ k → s < 2 ^ k → glue k a r ≡ glue k b s → r ≡ s
unfolding glue
glue_below k a r b s hr hs e = sym (low a k hr) ∙ ap (λ (x : ℕ). x % 2 ^ k) e ∙ low b k hs

pub less_above : (k a r b s : ℕ) → r < 2 ^ k → a < b → glue k a r < glue k b s
unfolding glue
less_above k a r b s hr h = omega (arith, suc-mul a (2 ^ k), mul-le-mul_right (2 ^ k) h)

pub less_below : (k a r s : ℕ) → r < s → glue k a r < glue k a s
unfolding glue
less_below k a r s h = omega arith

pub before_above : (k a r b s : ℕ) → r < 2 ^ k → s < 2 ^ k → (a ≡ b → ⊥) → before (glue k a r) (glue k b s) ≡ before a b
unfolding before
before_above k a r b s hr hs p = go (lt_or_le a b)
  where
    go : (a < b) ⊎ (b ≤ a) → ltb (glue k a r) (glue k b s) ≡ ltb a b
    go (inl l) = lt-ltb (glue k a r) (glue k b s) (less_above k a r b s hr l) ∙ sym (lt-ltb a b l)
    go (inr l) = let m : b < a = omega arith in
        le-ltb (glue k a r) (glue k b s) (omega (arith, less_above k b s a r hs m)) ∙ sym (le-ltb a b l)

pub before_below : (k a r b s : ℕ) → a ≡ b → before (glue k a r) (glue k b s) ≡ before r s
unfolding before
before_below k a r b s e = rw e (go (lt_or_le r s))
  where
    go : (r < s) ⊎ (s ≤ r) → ltb (glue k b r) (glue k b s) ≡ ltb r s
    go (inl l) = lt-ltb (glue k b r) (glue k b s) (less_below k b r s l) ∙ sym (lt-ltb r s l)
    go (inr l) = le-ltb (glue k b r) (glue k b s) (unfold glue in omega arith) ∙ sym (le-ltb r s l)

-- ---- the lowest member

pub lowest_low : (k a r : ℕ) → r < 2 ^ k → (r ≡ 0 → ⊥) → lowest (glue k a r) ≡ lowest r
lowest_low k a r h p =
    let t = lowest_has r p in
    let l = has_lt k (lowest r) r h t in
    sym (lowest_is (glue k a r) (lowest r) (has_low (lowest r) k a r l ∙ t) (λ q m. let b : q < k = omega arith in has_low q k a r b ∙ lowest_least r q m))

pub lowest_high : (k a : ℕ) → (a ≡ 0 → ⊥) → lowest (glue k a 0) ≡ k + lowest a
lowest_high k a p = sym (lowest_is (glue k a 0) (k + lowest a) (has_high (lowest a) k a 0 (pow_pos k) ∙ lowest_has a p) (λ q m. go q m (lt_or_le q k)))
  where
    go : (q : ℕ) → q < k + lowest a → (q < k) ⊎ (k ≤ q) → has q (glue k a 0) ≡ false
    go q m (inl l) = has_low q k a 0 l ∙ has_empty q
    go q m (inr l) =
        let e : k + (q - k) ≡ q = omega arith in
        let b : q - k < lowest a = omega arith in
        ap (λ (x : ℕ). has x (glue k a 0)) (sym e) ∙ has_high (q - k) k a 0 (pow_pos k) ∙ lowest_least a (q - k) b
