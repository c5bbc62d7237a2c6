-- The table of counts with one row counted in: each pair of parts that the row holds has one more, and no other pair. Assumes nothing.
use mathlib.Core.Bool.{Bool, true, false, ◌&&◌, ◌||◌, cond}
use mathlib.Core.List.Memᴰ
use mathlib.Core.List.{List, [], ◌∷◌}
use mathlib.Core.Path.{◌≡◌, refl, sym, ap, ap₂, ◌∙◌}
use mathlib.Core.Logic.{◌⊎◌, inl, inr}
use Prim.Native.Nat.{ℕ, ◌+◌, ◌*◌, ◌^◌, ◌<◌}
use native.Mathlib.Omega.{arith}
use borrow.Author.Tests.{ltb-true, eq-eqb, ne_eqb}
use lib.Dec.{ltb, eqb}
use lib.ListN.{length, get_or, length-set}
use lib.Seq.{get_or-set_same, get_or-set_other}
use Rattle.sets.specs.Lists.{◌∈◌, any}
use Rattle.sets.specs.Sets.{has, out, lowest, members}
use Rattle.sets.proofs.Tests.{iff, not_so, same_or_not}
use Rattle.sets.proofs.ListLaws.{Rising, elem_at, elem_of}
use Rattle.sets.proofs.Members.{member_in, in_member, members_rising, members_none, members_next}
use Rattle.dump_theory.specs.Model.{raised, raised_all, raised_pairs, counted_with, counted}

-- ---- one pair

pub length_raised : (C : List ℕ) (q r : ℕ) → length (raised C q r) ≡ length C
unfolding raised
length_raised C q r = length-set C (q * 64 + r) (get_or C (q * 64 + r) 0 + 1)

pub raised_same : (C : List ℕ) (q r : ℕ) → q * 64 + r < length C → get_or (raised C q r) (q * 64 + r) 0 ≡ get_or C (q * 64 + r) 0 + 1
unfolding raised
raised_same C q r h = get_or-set_same C (q * 64 + r) (get_or C (q * 64 + r) 0 + 1) 0 h

pub raised_other : (C : List ℕ) (q r j : ℕ) → (j ≡ q * 64 + r → ⊥) → get_or (raised C q r) j 0 ≡ get_or C j 0
unfolding raised
raised_other C q r j n = get_or-set_other C (q * 64 + r) j (get_or C (q * 64 + r) 0 + 1) 0 n

-- ---- the pairs of one part and each of a list

-- what a list that rises from y on lacks
lacks : (r : ℕ) (l : List ℕ) → ((y : ℕ) → y ∈ l → r < y) → any (eqb r) l ≡ false
lacks r l h = not_so (any (eqb r) l) (λ t. let b : r < r = h r (elem_of r l t) in omega arith)

length_all : (C : List ℕ) (q : ℕ) (l : List ℕ) → length (raised_all C q l) ≡ length C
unfolding raised_all
length_all C q [] = refl
length_all C q (y ∷ l) = length_all (raised C q y) q l ∙ length_raised C q y

all_other : (C : List ℕ) (q : ℕ) (l : List ℕ) (j : ℕ) → ((y : ℕ) → y ∈ l → j ≡ q * 64 + y → ⊥) → get_or (raised_all C q l) j 0 ≡ get_or C j 0
unfolding raised_all
all_other C q [] j n = refl
all_other C q (y ∷ l) j n = all_other (raised C q y) q l j (λ z m. n z (Memᴰ.tail m)) ∙ raised_other C q y j (n y (Memᴰ.head refl))

all_at : (C : List ℕ) (q : ℕ) (l : List ℕ) (r : ℕ) → Rising ltb l → q * 64 + r < length C
    → get_or (raised_all C q l) (q * 64 + r) 0 ≡ get_or C (q * 64 + r) 0 + cond (any (eqb r) l) 1 0
unfolding raised_all Rising any
all_at C q [] r up h = omega arith
all_at C q (y ∷ l) r up h = go (same_or_not r y) (all_at (raised C q y) q l r up.1 (omega (arith, length_raised C q y)))
  where
    go : (r ≡ y) ⊎ (r ≡ y → ⊥) → get_or (raised_all (raised C q y) q l) (q * 64 + r) 0 ≡ get_or (raised C q y) (q * 64 + r) 0 + cond (any (eqb r) l) 1 0
        → get_or (raised_all (raised C q y) q l) (q * 64 + r) 0 ≡ get_or C (q * 64 + r) 0 + cond (eqb r y || any (eqb r) l) 1 0
    go (inl e) ih =
        let first : any (eqb r) l ≡ false = lacks r l (λ z m. let b : y < z = ltb-true y z (up.0 z m) in omega arith) in
        let here : get_or (raised C q y) (q * 64 + r) 0 ≡ get_or C (q * 64 + r) 0 + 1 =
        ap (λ (z : ℕ). get_or (raised C q z) (q * 64 + r) 0) (sym e) ∙ raised_same C q r h in
        rw (eq-eqb r y e) (ih ∙ rw first (omega arith))
    go (inr n) ih = rw (ne_eqb r y n) (ih ∙ ap (λ (z : ℕ). z + cond (any (eqb r) l) 1 0) (raised_other C q y (q * 64 + r) (λ e. n (omega arith))))

-- ---- the pairs of a list

length_pairs : (C l : List ℕ) → length (raised_pairs C l) ≡ length C
unfolding raised_pairs
length_pairs C [] = refl
length_pairs C (x ∷ l) = length_pairs (raised_all C x l) l ∙ length_all C x l

pairs_at : (C l : List ℕ) (q r : ℕ) → Rising ltb l → ((x : ℕ) → x ∈ l → x < 64) → q < r → r < 64 → length C ≡ 4096
    → get_or (raised_pairs C l) (q * 64 + r) 0 ≡ get_or C (q * 64 + r) 0 + cond (any (eqb q) l && any (eqb r) l) 1 0
unfolding raised_pairs Rising any
pairs_at C [] q r up fit h k n = omega arith
pairs_at C (x ∷ l) q r up fit h k n =
    go (same_or_not q x) (same_or_not r x) (pairs_at (raised_all C x l) l q r up.1 (λ y m. fit y (Memᴰ.tail m)) h k (length_all C x l ∙ n))
  where
    after : (y : ℕ) → y ∈ l → x < y
    after y m = ltb-true x y (up.0 y m)

    -- the pairs of x stand elsewhere
    apart : (q ≡ x → ⊥) → get_or (raised_all C x l) (q * 64 + r) 0 ≡ get_or C (q * 64 + r) 0
    apart d = all_other C x l (q * 64 + r) (λ y m e. let b : y < 64 = fit y (Memᴰ.tail m) in d (omega arith))

    go : (q ≡ x) ⊎ (q ≡ x → ⊥) → (r ≡ x) ⊎ (r ≡ x → ⊥)
        → get_or (raised_pairs (raised_all C x l) l) (q * 64 + r) 0 ≡ get_or (raised_all C x l) (q * 64 + r) 0 + cond (any (eqb q) l && any (eqb r) l) 1 0
        → get_or (raised_pairs (raised_all C x l) l) (q * 64 + r) 0 ≡ get_or C (q * 64 + r) 0 + cond ((eqb q x || any (eqb q) l) && (eqb r x || any (eqb r) l)) 1 0
    go (inl d) (inl e) ih = absurd (omega arith)
    go (inl d) (inr e) ih =
        let first : any (eqb q) l ≡ false = lacks q l (λ y m. let b = after y m in omega arith) in
        let here : get_or (raised_all C x l) (q * 64 + r) 0 ≡ get_or C (q * 64 + r) 0 + cond (any (eqb r) l) 1 0 =
        ap (λ (z : ℕ). get_or (raised_all C z l) (q * 64 + r) 0) (sym d) ∙ all_at C q l r up.1 (omega arith) in
        rw (eq-eqb q x d, ne_eqb r x e) (ih ∙ rw first (omega (arith, here)))
    go (inr d) (inl e) ih =
        let first : any (eqb q) l ≡ false = lacks q l (λ y m. let b = after y m in omega arith) in
        rw (ne_eqb q x d, first) (ih ∙ rw first (omega (arith, apart d)))
    go (inr d) (inr e) ih =
        rw (ne_eqb q x d, ne_eqb r x e) (ih ∙ ap (λ (z : ℕ). z + cond (any (eqb q) l && any (eqb r) l) 1 0) (apart d))

-- ---- a row

member_test : (s q : ℕ) → q < 64 → any (eqb q) (members 64 s) ≡ has q s
member_test s q h =
    iff (any (eqb q) (members 64 s)) (has q s) (λ t. (in_member 64 s q (elem_of q (members 64 s) t)).1) (λ t. elem_at (members 64 s) (member_in 64 s q h t))

pub length_counted : (C : List ℕ) (s : ℕ) → length (counted C s) ≡ length C
unfolding counted
length_counted C s = length_pairs C (members 64 s)

pub counted_at : (C : List ℕ) (s q r : ℕ) → q < r → r < 64 → length C ≡ 4096
    → get_or (counted C s) (q * 64 + r) 0 ≡ get_or C (q * 64 + r) 0 + cond (has q s && has r s) 1 0
unfolding counted
counted_at C s q r h k n =
    pairs_at C (members 64 s) q r (members_rising 64 s) (λ x m. (in_member 64 s x m).0) h k n
    ∙ ap₂ (λ (a b : Bool). get_or C (q * 64 + r) 0 + cond (a && b) 1 0) (member_test s q (omega arith)) (member_test s r k)

-- ---- the lowest part first, as the code goes

pub length_counted_with : (C : List ℕ) (q t : ℕ) → length (counted_with C q t) ≡ length C
unfolding counted_with
length_counted_with C q t = length_all C q (members 64 t)

pub counted_with_none : (C : List ℕ) (q : ℕ) → counted_with C q 0 ≡ C
unfolding counted_with raised_all
counted_with_none C q = ap (raised_all C q) (members_none 64)

pub counted_with_next : (C : List ℕ) (q t : ℕ) → (t ≡ 0 → ⊥) → t < 2 ^ 64 → counted_with C q t ≡ counted_with (raised C q (lowest t)) q (out (lowest t) t)
unfolding counted_with raised_all
counted_with_next C q t some fits = ap (raised_all C q) (members_next 64 t some fits)

-- the pairs of other parts keep their counts
pub counted_with_other : (C : List ℕ) (q t j : ℕ) → ((r : ℕ) → r < 64 → has r t ≡ true → j ≡ q * 64 + r → ⊥) → get_or (counted_with C q t) j 0 ≡ get_or C j 0
unfolding counted_with
counted_with_other C q t j n = all_other C q (members 64 t) j (λ r m. let b = in_member 64 t r m in n r b.0 b.1)

pub counted_none : (C : List ℕ) → counted C 0 ≡ C
unfolding counted raised_pairs
counted_none C = ap (raised_pairs C) (members_none 64)

pub counted_next : (C : List ℕ) (s : ℕ) → (s ≡ 0 → ⊥) → s < 2 ^ 64 → counted C s ≡ counted (counted_with C (lowest s) (out (lowest s) s)) (out (lowest s) s)
unfolding counted raised_pairs counted_with
counted_next C s some fits = ap (raised_pairs C) (members_next 64 s some fits)
