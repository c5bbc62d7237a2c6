-- Set operations by their parts: who is in a meet, a union, a set with one part more or less, and what lies inside what. Any width.
-- Assumes nothing.
use mathlib.Core.Bool.{Bool, true, false, not, ◌||◌, or_assoc}
use mathlib.Core.Path.{◌≡◌, refl, sym, ap, ◌∙◌}
use mathlib.Core.Logic.{◌⊎◌, inl, inr}
use Prim.Native.Nat.{ℕ, zero, suc, ◌≤◌, ◌<◌}
use native.Mathlib.Omega.{arith}
use borrow.Author.Tests.{eqb-true, eqb-false, ne_eqb, not-true, eq-eqb}
use lib.Dec.{eqb}
use Rattle.sets.specs.Sets.{has, meet, union, minus, into, out, size, sub, lowest, lows, one}
use Rattle.sets.proofs.Tests.{never, iff, and_intro, and_left, and_right, or_left, or_right, or_cases, not_so}
use Rattle.sets.proofs.Laws.{has_meet, has_union, has_minus, has_into, has_out, ext, meet_comm, size_minus, size_empty, size_into, size_out, sub_has, has_sub, sub_size, sub_same, sub_trans, into_has, has_one, size_one}
use Rattle.sets.proofs.Members.{lowest_has}
use Rattle.sets.proofs.LowParts.{lows_size, lows_sub}

-- two sets with the same parts are one
pub same_parts : (a b : ℕ) → ((q : ℕ) → has q a ≡ true → has q b ≡ true) → ((q : ℕ) → has q b ≡ true → has q a ≡ true) → a ≡ b
same_parts a b f g = ext a b (λ q. iff (has q a) (has q b) (f q) (g q))

-- ---- the meet

pub meet_in : (q a b : ℕ) → has q a ≡ true → has q b ≡ true → has q (meet a b) ≡ true
meet_in q a b x y = has_meet q a b ∙ and_intro (has q a) (has q b) x y

pub meet_l : (q a b : ℕ) → has q (meet a b) ≡ true → has q a ≡ true
meet_l q a b h = and_left (has q a) (has q b) (sym (has_meet q a b) ∙ h)

pub meet_r : (q a b : ℕ) → has q (meet a b) ≡ true → has q b ≡ true
meet_r q a b h = and_right (has q a) (has q b) (sym (has_meet q a b) ∙ h)

pub meet_sub_l : (a b : ℕ) → sub (meet a b) a ≡ true
meet_sub_l a b = has_sub (meet a b) a (λ q. meet_l q a b)

pub meet_sub_r : (a b : ℕ) → sub (meet a b) b ≡ true
meet_sub_r a b = has_sub (meet a b) b (λ q. meet_r q a b)

pub sub_both : (c a b : ℕ) → sub c a ≡ true → sub c b ≡ true → sub c (meet a b) ≡ true
sub_both c a b x y = has_sub c (meet a b) (λ q h. meet_in q a b (sub_has q c a x h) (sub_has q c b y h))

-- what two sets share, larger ones share
pub meet_grows : (a b A B : ℕ) → sub a A ≡ true → sub b B ≡ true → size (meet a b) ≤ size (meet A B)
meet_grows a b A B x y =
    sub_size (meet a b) (meet A B)
    (sub_both (meet a b) A B (sub_trans (meet a b) a A (meet_sub_l a b) x) (sub_trans (meet a b) b B (meet_sub_r a b) y))

-- ---- the union

pub union_l : (q a b : ℕ) → has q a ≡ true → has q (union a b) ≡ true
union_l q a b h = has_union q a b ∙ or_left (has q a) (has q b) h

pub union_r : (q a b : ℕ) → has q b ≡ true → has q (union a b) ≡ true
union_r q a b h = has_union q a b ∙ or_right (has q a) (has q b) h

pub union_cases : (q a b : ℕ) → has q (union a b) ≡ true → (has q a ≡ true) ⊎ (has q b ≡ true)
union_cases q a b h = or_cases (has q a) (has q b) (sym (has_union q a b) ∙ h)

pub union_assoc : (a b c : ℕ) → union (union a b) c ≡ union a (union b c)
union_assoc a b c = same_parts (union (union a b) c) (union a (union b c)) (λ q h. to q (union_cases q (union a b) c h)) (λ q h. fro q (union_cases q a (union b c) h))
  where
    left : (q : ℕ) → (has q a ≡ true) ⊎ (has q b ≡ true) → has q (union a (union b c)) ≡ true
    left q (inl x) = union_l q a (union b c) x
    left q (inr x) = union_r q a (union b c) (union_l q b c x)

    to : (q : ℕ) → (has q (union a b) ≡ true) ⊎ (has q c ≡ true) → has q (union a (union b c)) ≡ true
    to q (inl x) = left q (union_cases q a b x)
    to q (inr x) = union_r q a (union b c) (union_r q b c x)

    right : (q : ℕ) → (has q b ≡ true) ⊎ (has q c ≡ true) → has q (union (union a b) c) ≡ true
    right q (inl x) = union_l q (union a b) c (union_r q a b x)
    right q (inr x) = union_r q (union a b) c x

    fro : (q : ℕ) → (has q a ≡ true) ⊎ (has q (union b c) ≡ true) → has q (union (union a b) c) ≡ true
    fro q (inl x) = union_l q (union a b) c (union_l q a b x)
    fro q (inr x) = right q (union_cases q b c x)

-- ---- one part more, one part less

pub into_keeps : (q r s : ℕ) → has r s ≡ true → has r (into q s) ≡ true
into_keeps q r s h = has_into r q s ∙ or_left (has r s) (eqb r q) h

pub into_cases : (q r s : ℕ) → has r (into q s) ≡ true → (r ≡ q) ⊎ (has r s ≡ true)
into_cases q r s h = go (or_cases (has r s) (eqb r q) (sym (has_into r q s) ∙ h))
  where
    go : (has r s ≡ true) ⊎ (eqb r q ≡ true) → (r ≡ q) ⊎ (has r s ≡ true)
    go (inl x) = inr x
    go (inr x) = inl (eqb-true r q x)

pub out_keeps : (q r s : ℕ) → has r s ≡ true → (r ≡ q → ⊥) → has r (out q s) ≡ true
out_keeps q r s h n = has_out r q s ∙ and_intro (has r s) (not (eqb r q)) h (ap not (ne_eqb r q n))

pub out_part : (q r s : ℕ) → has r (out q s) ≡ true → has r s ≡ true
out_part q r s h = and_left (has r s) (not (eqb r q)) (sym (has_out r q s) ∙ h)

pub out_other : (q r s : ℕ) → has r (out q s) ≡ true → r ≡ q → ⊥
out_other q r s h = eqb-false r q (not-true (eqb r q) (and_right (has r s) (not (eqb r q)) (sym (has_out r q s) ∙ h)))

pub out_lacks : (q s : ℕ) → has q (out q s) ≡ false
out_lacks q s = not_so (has q (out q s)) (λ h. out_other q q s h refl)

pub into_sub : (q s : ℕ) → sub s (into q s) ≡ true
into_sub q s = has_sub s (into q s) (λ r. into_keeps q r s)

pub into_within : (q s A : ℕ) → has q A ≡ true → sub s A ≡ true → sub (into q s) A ≡ true
into_within q s A h i = has_sub (into q s) A (λ r x. go r (into_cases q r s x))
  where
    go : (r : ℕ) → (r ≡ q) ⊎ (has r s ≡ true) → has r A ≡ true
    go r (inl e) = ap (λ (z : ℕ). has z A) e ∙ h
    go r (inr x) = sub_has r s A i x

-- a part taken out and put back
pub out_into : (q s : ℕ) → has q s ≡ true → into q (out q s) ≡ s
out_into q s h = same_parts (into q (out q s)) s (λ r x. go r (into_cases q r (out q s) x)) (λ r x. back r x (eqb r q) refl)
  where
    go : (r : ℕ) → (r ≡ q) ⊎ (has r (out q s) ≡ true) → has r s ≡ true
    go r (inl e) = ap (λ (z : ℕ). has z s) e ∙ h
    go r (inr x) = out_part q r s x

    back : (r : ℕ) → has r s ≡ true → (t : Bool) → eqb r q ≡ t → has r (into q (out q s)) ≡ true
    back r x true e = ap (λ (z : ℕ). has z (into q (out q s))) (eqb-true r q e) ∙ into_has q (out q s)
    back r x false e = into_keeps q r (out q s) (out_keeps q r s x (eqb-false r q e))

-- two sets that lack q, each with q: the same only where they were
pub into_inj : (q a b : ℕ) → has q a ≡ false → has q b ≡ false → into q a ≡ into q b → a ≡ b
into_inj q a b ha hb e = same_parts a b (λ r x. go a b ha e r x) (λ r x. go b a hb (sym e) r x)
  where
    pick : (u v : ℕ) → has q u ≡ false → (r : ℕ) → has r u ≡ true → (r ≡ q) ⊎ (has r v ≡ true) → has r v ≡ true
    pick u v h r x (inl s) = never (has r u) x (ap (λ (z : ℕ). has z u) s ∙ h)
    pick u v h r x (inr y) = y

    go : (u v : ℕ) → has q u ≡ false → into q u ≡ into q v → (r : ℕ) → has r u ≡ true → has r v ≡ true
    go u v h f r x = pick u v h r x (into_cases q r v (ap (has r) (sym f) ∙ into_keeps q r u x))

-- ---- sizes

-- a part of b outside a
pub outside : (a b : ℕ) → size (meet a b) < size b → (q : ℕ) × (has q b ≡ true) × (has q a ≡ false)
outside a b h =
    let some : minus b a ≡ 0 → ⊥ = λ z. omega (arith, size_minus b a, ap size z, size_empty, ap size (meet_comm a b)) in
    let q = lowest (minus b a) in
    let t = sym (has_minus q b a) ∙ lowest_has (minus b a) some in
    (q, and_left (has q b) (not (has q a)) t, not-true (has q a) (and_right (has q b) (not (has q a)) t))

-- some set of n parts inside a set of n or more
pub shrink : (n S : ℕ) → n ≤ size S → (c : ℕ) × (size c ≡ n) × (sub c S ≡ true)
shrink n S h = (lows n S, omega (arith, lows_size S n), lows_sub S n)

-- sets of k parts that share k parts are one
pub same_set : (k a b : ℕ) → size a ≡ k → size b ≡ k → k ≤ size (meet a b) → a ≡ b
same_set k a b sa sb l =
    sym (sub_same (meet a b) a (meet_sub_l a b) (omega (arith, sub_size (meet a b) a (meet_sub_l a b))))
    ∙ sub_same (meet a b) b (meet_sub_r a b) (omega (arith, sub_size (meet a b) b (meet_sub_r a b)))

pub size_more : (q s : ℕ) → has q s ≡ false → size (into q s) ≡ suc (size s)
size_more q s h = omega (arith, size_into q s h)

pub size_less : (q s : ℕ) → has q s ≡ true → suc (size (out q s)) ≡ size s
size_less q s h = omega (arith, size_out q s h)

-- a set inside another of one part more lacks just one of its parts
pub one_lacking : (s t : ℕ) → sub s t ≡ true → suc (size s) ≡ size t → (q : ℕ) × (has q t ≡ true) × (has q s ≡ false) × (s ≡ out q t)
one_lacking s t i h =
    let o = outside s t (omega (arith, sub_size (meet s t) s (meet_sub_l s t))) in
    let q : ℕ = o.0 in
    let inside : sub s (out q t) ≡ true = has_sub s (out q t) (λ r x. out_keeps q r t (sub_has r s t i x) (λ e. never (has r s) x (ap (λ (z : ℕ). has z s) e ∙ o.2))) in
    (q, o.1, o.2, sub_same s (out q t) inside (omega (arith, size_less q t o.1)))

-- some set of k parts of A has the part q of A
pub with_part : (k q A : ℕ) → 1 ≤ k → k ≤ size A → has q A ≡ true → (c : ℕ) × (size c ≡ k) × (sub c A ≡ true) × (has q c ≡ true)
with_part (suc k) q A h l t =
    let s = shrink k (out q A) (omega (arith, size_less q A t)) in
    let c : ℕ = s.0 in
    (into q c, omega (arith, size_more q c (lacks c s.2), s.1), into_within q c A t (sub_trans c (out q A) A s.2 (has_sub (out q A) A (λ r. out_part q r A))), into_has q c)
  where
    lacks : (c : ℕ) → sub c (out q A) ≡ true → has q c ≡ false
    lacks c i = not_so (has q c) (λ x. never (has q (out q A)) (sub_has q c (out q A) i x) (out_lacks q A))
with_part zero q A h l t = absurd (omega arith)

-- a subset that lacks a part has fewer
pub sub_less : (q a b : ℕ) → sub a b ≡ true → has q b ≡ true → has q a ≡ false → size a < size b
sub_less q a b i h n =
    omega (arith, size_more q a n, sub_size (into q a) b (into_within q a b h i))

-- a set of two parts or more has another part than q
pub another : (q s : ℕ) → 2 ≤ size s → (r : ℕ) × (has r s ≡ true) × (q ≡ r → ⊥)
another q s h =
    let o = outside (one q) s (omega (arith, sub_size (meet (one q) s) (one q) (meet_sub_l (one q) s), size_one q)) in
    (o.0, o.1, λ e. never (has o.0 (one q)) (has_one o.0 q ∙ eq-eqb o.0 q (sym e)) o.2)

-- two parts put into a set
pub union_two : (a b c : ℕ) → union c (into b (one a)) ≡ into b (into a c)
union_two a b c =
    ext (union c (into b (one a))) (into b (into a c)) (λ q.
    has_union q c (into b (one a)) ∙ ap (λ (x : Bool). has q c || x) (has_into q b (one a) ∙ ap (λ (x : Bool). x || eqb q b) (has_one q a))
    ∙ sym (has_into q b (into a c) ∙ ap (λ (x : Bool). x || eqb q b) (has_into q a c) ∙ or_assoc (has q c) (eqb q a) (eqb q b)))
