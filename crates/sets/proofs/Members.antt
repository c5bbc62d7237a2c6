-- The lowest part of a set, its parts in rising order, the sets of parts below p, and the union of a list of sets. Any width.
-- Assumes nothing.
use mathlib.Core.Bool.{Bool, true, false, not, ◌&&◌, cond, true≢false}
use mathlib.Core.List.Memᴰ
use mathlib.Core.List.{List, [], ◌∷◌}
use mathlib.Core.Path.{◌≡◌, refl, sym, ap, ◌∙◌}
use mathlib.Core.Logic.{◌⊎◌, inl, inr}
use Prim.Native.Nat.{ℕ, zero, suc, ◌-◌, ◌/◌, ◌%◌, ◌^◌, ◌≤◌, ◌<◌}
use native.Mathlib.Decide.{le_ind}
use borrow.Author.Tests.{eqb-false, ne_eqb, lt-ltb, le-ltb, ltb-true, not-true}
use lib.Dec.{eqb, ltb}
use lib.Arith.{lt-one, bin_ind, half_le}
use native.Mathlib.Nat.{le_refl, not-suc-le-zero, le_of_suc-le-suc}
use native.Mathlib.Omega.{arith}
use lib.ListN.{length}
use lib.Pow.{pow_pos}
use lib.Count.{count_trailing_zeros, under, trailing_of_zero}
use Rattle.sets.specs.Lists.{◌∈◌, keep, from, below}
use Rattle.sets.specs.Sets.{bit, has, out, size, lowest_in, lowest, members, union_of, sets_of, full, sub}
use Rattle.sets.proofs.Laws.{has_zero, has_suc, has_empty, has_union, has_out, has_above, has_lt, ext, half_lt, size_step, size_empty, parts_lt, sub_has}
use Rattle.sets.proofs.OneWord.{has_not}
use Rattle.sets.proofs.Tests.{never, split, iff, and_intro, and_left, and_right, or_left, or_right, or_cases, lt_or_le, eq_or_ne, same_or_not}
use Rattle.sets.proofs.ListLaws.{Holds, Rising, Distinct, number_order, rising_distinct, rising_same, no_member, keep_yes, keep_no, keep_at, keep_of, keep_rising, below_of, below_at, below_rising}

-- ---- the lowest member

-- which digit is the lowest
pub digit : (n : ℕ) → (n % 2 ≡ 0) ⊎ (n % 2 ≡ 1)
digit n = go (n % 2) refl
  where
    go : (d : ℕ) → n % 2 ≡ d → (n % 2 ≡ 0) ⊎ (n % 2 ≡ 1)
    go zero e = inl e
    go (suc d) e = inr (omega arith)

more : (f n : ℕ) → n ≤ f → lowest_in (suc f) n ≡ lowest_in f n
more zero zero h = refl
more zero (suc n) h = absurd (not-suc-le-zero h)
more (suc f) zero h = refl
more (suc f) (suc n) h = ap (under (suc n % 2)) (more f (suc n / 2) (half_le h))

enough : (f n : ℕ) → n ≤ f → lowest_in f n ≡ lowest_in n n
enough f n h = le_ind (λ (m : ℕ). lowest_in m n ≡ lowest_in n n) refl (λ m k e. more m n k ∙ e) f h

pub lowest_step : (n : ℕ) → (n ≡ 0 → ⊥) → lowest n ≡ under (n % 2) (lowest (n / 2))
unfolding lowest
lowest_step zero p = absurd (p refl)
lowest_step (suc n) p = ap (under (suc n % 2)) (enough n (suc n / 2) (half_le (le_refl (suc n))))

has_up : (n : ℕ) → ((n / 2 ≡ 0 → ⊥) → has (lowest (n / 2)) (n / 2) ≡ true) → (n ≡ 0 → ⊥) → has (lowest n) n ≡ true
has_up n ih p = rw (lowest_step n p) (go (digit n))
  where
    go : (n % 2 ≡ 0) ⊎ (n % 2 ≡ 1) → has (under (n % 2) (lowest (n / 2))) n ≡ true
    go (inl e) = rw e (has_suc (lowest (n / 2)) n ∙ ih (λ z. p (omega arith)))
    go (inr e) = rw e (has_zero n ∙ ap bit e)

pub lowest_has : (n : ℕ) → (n ≡ 0 → ⊥) → has (lowest n) n ≡ true
lowest_has = bin_ind (λ (n : ℕ). (n ≡ 0 → ⊥) → has (lowest n) n ≡ true) (λ p. absurd (p refl)) has_up

least_up : (n : ℕ) → ((q : ℕ) → q < lowest (n / 2) → has q (n / 2) ≡ false) → (q : ℕ) → q < under (n % 2) (lowest (n / 2)) → has q n ≡ false
least_up n ih q l = go q l (digit n)
  where
    go : (q : ℕ) → q < under (n % 2) (lowest (n / 2)) → (n % 2 ≡ 0) ⊎ (n % 2 ≡ 1) → has q n ≡ false
    go zero l (inl e) = has_zero n ∙ ap bit e
    go (suc q) l (inl e) = has_suc q n ∙ ih q (le_of_suc-le-suc (rw e at l))
    go zero l (inr e) = absurd (not-suc-le-zero (rw e at l))
    go (suc q) l (inr e) = absurd (not-suc-le-zero (rw e at l))

pub lowest_least : (n q : ℕ) → q < lowest n → has q n ≡ false
lowest_least =
    bin_ind (λ (n : ℕ). (q : ℕ) → q < lowest n → has q n ≡ false) (λ q l. has_empty q) (λ n ih q l. go n ih q l (eq_or_ne n 0))
  where
    go : (n : ℕ) → ((q : ℕ) → q < lowest (n / 2) → has q (n / 2) ≡ false) → (q : ℕ) → q < lowest n → (n ≡ 0) ⊎ (eqb n 0 ≡ false) → has q n ≡ false
    go n ih q l (inl e) = rw e (has_empty q)
    go n ih q l (inr e) = least_up n ih q (rw (lowest_step n (eqb-false n 0 e)) at l)

-- the lowest is the one member below which there is none
pub lowest_is : (n q : ℕ) → has q n ≡ true → ((k : ℕ) → k < q → has k n ≡ false) → q ≡ lowest n
lowest_is n q t f = go (lt_or_le q (lowest n)) (lt_or_le (lowest n) q)
  where
    some : n ≡ 0 → ⊥
    some e = true≢false (sym t ∙ ap (has q) e ∙ has_empty q)

    go : (q < lowest n) ⊎ (lowest n ≤ q) → (lowest n < q) ⊎ (q ≤ lowest n) → q ≡ lowest n
    go (inl l) r = absurd (true≢false (sym t ∙ lowest_least n q l))
    go (inr l) (inl r) = absurd (true≢false (sym (lowest_has n some) ∙ f (lowest n) r))
    go (inr l) (inr r) = omega arith

-- what `trailing_zeros` gives, at a width that holds n
trail_has : (w n : ℕ) → n < 2 ^ w → (n ≡ 0 → ⊥) → has (count_trailing_zeros w n) n ≡ true
unfolding count_trailing_zeros
trail_has zero n h p = absurd (p (omega arith))
trail_has (suc w) n h p = go (trail_has w (n / 2) (half_lt w n h)) (digit n)
  where
    go : ((n / 2 ≡ 0 → ⊥) → has (count_trailing_zeros w (n / 2)) (n / 2) ≡ true) → (n % 2 ≡ 0) ⊎ (n % 2 ≡ 1) → has (under (n % 2) (count_trailing_zeros w (n / 2))) n ≡ true
    go ih (inl e) = rw e (has_suc (count_trailing_zeros w (n / 2)) n ∙ ih (λ z. p (omega arith)))
    go ih (inr e) = rw e (has_zero n ∙ ap bit e)

trail_least : (w n q : ℕ) → q < count_trailing_zeros w n → has q n ≡ false
unfolding count_trailing_zeros
trail_least zero n q h = absurd (not-suc-le-zero h)
trail_least (suc w) n q h = go (trail_least w (n / 2)) q h (digit n)
  where
    go : ((k : ℕ) → k < count_trailing_zeros w (n / 2) → has k (n / 2) ≡ false) → (q : ℕ) → q < under (n % 2) (count_trailing_zeros w (n / 2)) → (n % 2 ≡ 0) ⊎ (n % 2 ≡ 1) → has q n ≡ false
    go ih zero l (inl e) = has_zero n ∙ ap bit e
    go ih (suc q) l (inl e) = has_suc q n ∙ ih q (le_of_suc-le-suc (rw e at l))
    go ih zero l (inr e) = absurd (not-suc-le-zero (rw e at l))
    go ih (suc q) l (inr e) = absurd (not-suc-le-zero (rw e at l))

pub trailing_lowest : (w n : ℕ) → n < 2 ^ w → count_trailing_zeros w n ≡ cond (eqb n 0) w (lowest n)
trailing_lowest w n h = go (eq_or_ne n 0)
  where
    go : (n ≡ 0) ⊎ (eqb n 0 ≡ false) → count_trailing_zeros w n ≡ cond (eqb n 0) w (lowest n)
    go (inl e) = rw e (trailing_of_zero w)
    go (inr e) = rw e (lowest_is n (count_trailing_zeros w n) (trail_has w n h (eqb-false n 0 e)) (λ k l. trail_least w n k l))

-- ---- the members in rising order

pub member_in : (p s q : ℕ) → q < p → has q s ≡ true → q ∈ members p s
unfolding members
member_in p s q h t = keep_at (λ r. has r s) (below p) (below_at q p h) t

pub in_member : (p s q : ℕ) → q ∈ members p s → (q < p) × (has q s ≡ true)
unfolding members
in_member p s q m = let r = keep_of (λ z. has z s) (below p) m in (below_of p r.0, r.1)

pub members_rising : (p s : ℕ) → Rising ltb (members p s)
unfolding members
members_rising p s = keep_rising ltb (λ q. has q s) (below p) (below_rising p)

shifted : (s i n : ℕ) → length (keep (λ q. has q s) (from (suc i) n)) ≡ length (keep (λ q. has q (s / 2)) (from i n))
unfolding keep from
shifted s i zero = refl
shifted s i (suc n) = go (split (has i (s / 2))) (shifted s (suc i) n)
  where
    go : (has i (s / 2) ≡ true) ⊎ (has i (s / 2) ≡ false)
        → length (keep (λ q. has q s) (from (suc (suc i)) n)) ≡ length (keep (λ q. has q (s / 2)) (from (suc i) n))
        → length (keep (λ q. has q s) (from (suc i) (suc n))) ≡ length (keep (λ q. has q (s / 2)) (from i (suc n)))
    go (inl e) ih =
        ap length (keep_yes (λ q. has q s) (suc i) (from (suc (suc i)) n) (has_suc i s ∙ e)) ∙ ap suc ih
        ∙ sym (ap length (keep_yes (λ q. has q (s / 2)) i (from (suc i) n) e))
    go (inr e) ih =
        ap length (keep_no (λ q. has q s) (suc i) (from (suc (suc i)) n) (has_suc i s ∙ e)) ∙ ih
        ∙ sym (ap length (keep_no (λ q. has q (s / 2)) i (from (suc i) n) e))

-- the size is the number of parts
pub members_length : (p s : ℕ) → s < 2 ^ p → length (members p s) ≡ size s
unfolding members below keep from
members_length zero s h = sym (ap size (lt-one h) ∙ size_empty)
members_length (suc p) s h = go (digit s) (shifted s 0 p ∙ members_length p (s / 2) (half_lt p s h))
  where
    go : (s % 2 ≡ 0) ⊎ (s % 2 ≡ 1) → length (keep (λ q. has q s) (from 1 p)) ≡ size (s / 2) → length (keep (λ q. has q s) (from 0 (suc p))) ≡ size s
    go (inl e) ih = ap length (keep_no (λ q. has q s) 0 (from 1 p) (has_zero s ∙ ap bit e)) ∙ omega (arith, size_step s)
    go (inr e) ih = ap length (keep_yes (λ q. has q s) 0 (from 1 p) (has_zero s ∙ ap bit e)) ∙ omega (arith, size_step s)

-- ---- the sets of parts below p

-- by their numbers
pub sets_below : (p : ℕ) → sets_of p ≡ below (2 ^ p)
unfolding sets_of
sets_below p = refl

pub sets_of_lem : (p s : ℕ) → s ∈ sets_of p → s < 2 ^ p
unfolding sets_of
sets_of_lem p s m = below_of (2 ^ p) m

pub sets_at : (p s : ℕ) → s < 2 ^ p → s ∈ sets_of p
unfolding sets_of
sets_at p s h = below_at s (2 ^ p) h

pub sets_distinct : (p : ℕ) → Distinct (sets_of p)
unfolding sets_of
sets_distinct p = rising_distinct ltb number_order (below (2 ^ p)) (below_rising (2 ^ p))

-- ---- the union of a list of sets

pub union_part : (q : ℕ) (l : List ℕ) → has q (union_of l) ≡ true → (s : ℕ) × s ∈ l × (has q s ≡ true)
unfolding union_of
union_part q [] h = never (has q 0) h (has_empty q)
union_part q (s ∷ l) h = go (or_cases (has q s) (has q (union_of l)) (sym (has_union q s (union_of l)) ∙ h)) (union_part q l)
  where
    go : (has q s ≡ true) ⊎ (has q (union_of l) ≡ true) → (has q (union_of l) ≡ true → (z : ℕ) × z ∈ l × (has q z ≡ true))
        → (z : ℕ) × z ∈ (s ∷ l) × (has q z ≡ true)
    go (inl e) rest = (s, Memᴰ.head refl, e)
    go (inr e) rest = let r = rest e in (r.0, Memᴰ.tail r.1, r.2)

pub union_has : {s : ℕ} (q : ℕ) (l : List ℕ) → s ∈ l → has q s ≡ true → has q (union_of l) ≡ true
unfolding union_of
union_has q l (Memᴰ.head {x = s} {xs = xs} e) h = has_union q s (union_of xs) ∙ or_left (has q s) (has q (union_of xs)) (ap (has q) (sym e) ∙ h)
union_has q l (Memᴰ.tail {x = s} {xs = xs} m) h = has_union q s (union_of xs) ∙ or_right (has q s) (has q (union_of xs)) (union_has q xs m h)

-- the union goes by the members alone
pub union_same : (l m : List ℕ) → Holds m l → Holds l m → union_of l ≡ union_of m
union_same l m f g =
    ext (union_of l) (union_of m) (λ q.
    iff (has q (union_of l)) (has q (union_of m)) (λ h. let r = union_part q l h in union_has q m (f r.0 r.1) r.2)
    (λ h. let r = union_part q m h in union_has q l (g r.0 r.1) r.2))

-- the answer of the code's `lowest`, at a set that has members
pub answer_has : (w n r : ℕ) → eqb n 0 ≡ false → r ≡ cond (eqb n 0) w (lowest n) → has r n ≡ true
answer_has w n r p e = ap (λ (x : ℕ). has x n) (e ∙ ap (λ (t : Bool). cond t w (lowest n)) p) ∙ lowest_has n (eqb-false n 0 p)

-- ---- the members, the lowest first

pub members_none : (p : ℕ) → members p 0 ≡ []
members_none p = no_member (members p 0) (λ q m. never (has q 0) (in_member p 0 q m).1 (has_empty q))

pub members_next : (p s : ℕ) → (s ≡ 0 → ⊥) → s < 2 ^ p → members p s ≡ lowest s ∷ members p (out (lowest s) s)
unfolding Rising
members_next p s some fits =
    rising_same ltb number_order (members p s) (lowest s ∷ members p (out (lowest s) s)) (members_rising p s)
    ((λ q m. lt-ltb (lowest s) q (above q (other q (in_member p (out (lowest s) s) q m).1))), members_rising p (out (lowest s) s))
    (λ q m. let r = in_member p s q m in pick q r (same_or_not q (lowest s)))
    (λ q m. back q (Memᴰ.cases_cons m))
  where
    other : (q : ℕ) → has q (out (lowest s) s) ≡ true → (has q s ≡ true) × (q ≡ lowest s → ⊥)
    other q h =
        let t : has q s && not (eqb q (lowest s)) ≡ true = sym (has_out q (lowest s) s) ∙ h in
        (and_left (has q s) (not (eqb q (lowest s))) t, eqb-false q (lowest s) (not-true (eqb q (lowest s)) (and_right (has q s) (not (eqb q (lowest s))) t)))

    above : (q : ℕ) → (has q s ≡ true) × (q ≡ lowest s → ⊥) → lowest s < q
    above q h = go (lt_or_le q (lowest s)) (lt_or_le (lowest s) q)
      where
        go : (q < lowest s) ⊎ (lowest s ≤ q) → (lowest s < q) ⊎ (q ≤ lowest s) → lowest s < q
        go (inl l) r = never (has q s) h.0 (lowest_least s q l)
        go (inr l) (inl r) = r
        go (inr l) (inr r) = absurd (h.1 (omega arith))

    pick : (q : ℕ) → (q < p) × (has q s ≡ true) → (q ≡ lowest s) ⊎ (q ≡ lowest s → ⊥) → q ∈ (lowest s ∷ members p (out (lowest s) s))
    pick q r (inl e) = Memᴰ.head e
    pick q r (inr n) =
        Memᴰ.tail (member_in p (out (lowest s) s) q r.0 (has_out q (lowest s) s ∙ and_intro (has q s) (not (eqb q (lowest s))) r.1 (ap not (ne_eqb q (lowest s) n))))

    back : (q : ℕ) → (q ≡ lowest s) ⊎ q ∈ members p (out (lowest s) s) → q ∈ members p s
    back q (inl e) = let h : has q s ≡ true = ap (λ (x : ℕ). has x s) e ∙ lowest_has s some in member_in p s q (has_lt p q s fits h) h
    back q (inr m) = let r = in_member p (out (lowest s) s) q m in member_in p s q r.0 (other q r.1).0

-- by the code's `lowest` and `without`
pub members_answer : (w n q m : ℕ) → eqb n 0 ≡ false → q ≡ cond (eqb n 0) w (lowest n) → n < 2 ^ w → m ≡ out q n → members w n ≡ q ∷ members w m
members_answer w n q m some e fits d =
    let low : q ≡ lowest n = e ∙ ap (λ (x : Bool). cond x w (lowest n)) some in
    rw (d, low) (members_next w n (eqb-false n 0 some) fits)

-- ---- the set of all parts below p

pub has_full : (q p : ℕ) → has q (full p) ≡ ltb q p
unfolding full
has_full q p = go (lt_or_le q p)
  where
    go : (q < p) ⊎ (p ≤ q) → has q (2 ^ p - 1) ≡ ltb q p
    go (inl h) = let e : 2 ^ p - 1 ≡ 2 ^ p - 1 - 0 = omega arith in ap (has q) e ∙ has_not p q 0 (pow_pos p) h ∙ ap not (has_empty q) ∙ sym (lt-ltb q p h)
    go (inr h) = has_above p q (2 ^ p - 1) (omega (arith, pow_pos p)) h ∙ sym (le-ltb q p h)

-- a set of such parts by its number
pub within_lt : (p s : ℕ) → sub s (full p) ≡ true → s < 2 ^ p
within_lt p s h = parts_lt p s (λ q t. ltb-true q p (sym (has_full q p) ∙ sub_has q s (full p) h t))

-- its parts are the numbers below p, at any width that holds them
pub members_within : (w p : ℕ) → p ≤ w → members w (full p) ≡ below p
members_within w p h =
    rising_same ltb number_order (members w (full p)) (below p) (members_rising w (full p)) (below_rising p)
    (λ q m. below_at q p (ltb-true q p (sym (has_full q p) ∙ (in_member w (full p) q m).1)))
    (λ q m. let l : q < p = below_of p m in member_in w (full p) q (omega arith) (has_full q p ∙ lt-ltb q p l))

pub members_full : (p : ℕ) → members p (full p) ≡ below p
members_full p = members_within p p (le_refl p)
