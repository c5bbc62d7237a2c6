-- The tests over lists against membership; lists in an order. Assumes nothing.
use mathlib.Core.Path.{◌≡◌, refl, sym, ap, ap₂, ◌∙◌, subst, subst⁻¹}
use mathlib.Core.Logic.{◌⊎◌, inl, inr}
use mathlib.Core.Bool.{Bool, true, false, not, ◌&&◌, ◌||◌, and-true, and_assoc, or-false, or_assoc}
use mathlib.Core.List.Memᴰ
use mathlib.Core.List.{List, [], ◌∷◌, ◌++◌, map, flatten, append-nil, append_assoc}
use Prim.Native.Nat.{ℕ, zero, suc, ◌+◌, ◌-◌, ◌≤◌, ◌<◌}
use native.Mathlib.Omega.{arith}
use native.Mathlib.Numerals.{add-one}
use lib.Pointwise.{pointwise}
use Rattle.std.specs.List.{list_any, list_all, range_with_len}
use lib.Dec.{ltb, eqb}
use lib.ListN.{length, get_or, length-append}
use borrow.Author.Tests.{ltb-true, ltb-false, lt-ltb, le-ltb, eq-eqb, eqb-true, not-true}
use Rattle.sets.specs.Lists.{◌∈◌, any, all, keep, each_two, placed, sorted, from, below, same}
use Rattle.sets.proofs.Tests.{never, split, and_intro, and_left, and_right, or_left, or_right, or_cases, lt_or_le, not_so}

-- l has each member of m
abbrev pub Holds : {A : Type 0} → List A → List A → Type 0
Holds l m = (x : _) → x ∈ m → x ∈ l

module _ {A : Type 0} where
  pub any_at : (f : A → Bool) {x : A} (l : List A) → x ∈ l → f x ≡ true → any f l ≡ true
  unfolding any
  any_at f l (Memᴰ.head {x = y} {xs = xs} e) t = or_left (f y) (any f xs) (ap f (sym e) ∙ t)
  any_at f l (Memᴰ.tail {x = y} {xs = xs} m) t = or_right (f y) (any f xs) (any_at f xs m t)

  pub any_of : (f : A → Bool) (l : List A) → any f l ≡ true → (x : A) × x ∈ l × (f x ≡ true)
  unfolding any
  any_of f [] t = never false t refl
  any_of f (y ∷ l) t = go (or_cases (f y) (any f l) t) (any_of f l)
    where
      go : (f y ≡ true) ⊎ (any f l ≡ true) → (any f l ≡ true → (x : A) × x ∈ l × (f x ≡ true)) → (x : A) × x ∈ (y ∷ l) × (f x ≡ true)
      go (inl s) rest = (y, Memᴰ.head refl, s)
      go (inr s) rest = let r = rest s in (r.0, Memᴰ.tail r.1, r.2)

  pub any_none : (f : A → Bool) (l : List A) → any f l ≡ false → {x : A} → x ∈ l → f x ≡ false
  any_none f l e {x} m = not_so (f x) (λ t. never (any f l) (any_at f l m t) e)

  pub all_at : (f : A → Bool) (l : List A) → ((x : A) → x ∈ l → f x ≡ true) → all f l ≡ true
  unfolding all
  all_at f [] h = refl
  all_at f (x ∷ l) h = and_intro (f x) (all f l) (h x (Memᴰ.head refl)) (all_at f l (λ y m. h y (Memᴰ.tail m)))

  pub all_of : (f : A → Bool) {x : A} (l : List A) → all f l ≡ true → x ∈ l → f x ≡ true
  unfolding all
  all_of f l t (Memᴰ.head {x = y} {xs = xs} e) = ap f e ∙ and_left (f y) (all f xs) t
  all_of f l t (Memᴰ.tail {x = y} {xs = xs} m) = all_of f xs (and_right (f y) (all f xs) t) m

  -- ---- what is kept

  pub keep_yes : (f : A → Bool) (x : A) (l : List A) → f x ≡ true → keep f (x ∷ l) ≡ x ∷ keep f l
  unfolding keep
  keep_yes f x l e = rw (keep, e)

  pub keep_no : (f : A → Bool) (x : A) (l : List A) → f x ≡ false → keep f (x ∷ l) ≡ keep f l
  unfolding keep
  keep_no f x l e = rw (keep, e)

  pub keep_at : (f : A → Bool) {x : A} (l : List A) → x ∈ l → f x ≡ true → x ∈ keep f l
  keep_at f {x} l (Memᴰ.head {x = y} {xs = xs} e) t = rw (keep_yes f y xs (ap f (sym e) ∙ t)) (Memᴰ.head e)
  keep_at f {x} l (Memᴰ.tail {x = y} {xs = xs} m) t = go (split (f y)) (keep_at f xs m t)
    where
      go : (f y ≡ true) ⊎ (f y ≡ false) → x ∈ keep f xs → x ∈ keep f (y ∷ xs)
      go (inl e) r = rw (keep_yes f y xs e) (Memᴰ.tail r)
      go (inr e) r = rw (keep_no f y xs e) r

  pub keep_of : (f : A → Bool) {x : A} (l : List A) → x ∈ keep f l → x ∈ l × (f x ≡ true)
  unfolding keep
  keep_of f [] m = absurd (Memᴰ.not-nil m)
  keep_of f {x} (y ∷ l) m = go (split (f y)) (keep_of f l)
    where
      head : f y ≡ true → (x ≡ y) ⊎ x ∈ keep f l → (x ∈ keep f l → x ∈ l × (f x ≡ true)) → x ∈ (y ∷ l) × (f x ≡ true)
      head e (inl s) rest = (Memᴰ.head s, ap f s ∙ e)
      head e (inr n) rest = let r = rest n in (Memᴰ.tail r.0, r.1)

      go : (f y ≡ true) ⊎ (f y ≡ false) → (x ∈ keep f l → x ∈ l × (f x ≡ true)) → x ∈ (y ∷ l) × (f x ≡ true)
      go (inl e) rest = head e (Memᴰ.cases_cons (subst (λ (z : List A). x ∈ z) (keep_yes f y l e) m)) rest
      go (inr e) rest = let r = rest (subst (λ (z : List A). x ∈ z) (keep_no f y l e) m) in (Memᴰ.tail r.0, r.1)

  -- the same test, the same list
  pub keep_same : (f g : A → Bool) (l : List A) → ((x : A) → x ∈ l → f x ≡ g x) → keep f l ≡ keep g l
  unfolding keep
  keep_same f g [] h = refl
  keep_same f g (x ∷ l) h = go (split (g x)) (keep_same f g l (λ y m. h y (Memᴰ.tail m)))
    where
      go : (g x ≡ true) ⊎ (g x ≡ false) → keep f l ≡ keep g l → keep f (x ∷ l) ≡ keep g (x ∷ l)
      go (inl e) r = keep_yes f x l (h x (Memᴰ.head refl) ∙ e) ∙ ap (λ (z : List A). x ∷ z) r ∙ sym (keep_yes g x l e)
      go (inr e) r = keep_no f x l (h x (Memᴰ.head refl) ∙ e) ∙ r ∙ sym (keep_no g x l e)

  pub keep_all : (f : A → Bool) (l : List A) → ((x : A) → x ∈ l → f x ≡ true) → keep f l ≡ l
  unfolding keep
  keep_all f [] h = refl
  keep_all f (x ∷ l) h =
      keep_yes f x l (h x (Memᴰ.head refl)) ∙ ap (λ (z : List A). x ∷ z) (keep_all f l (λ y m. h y (Memᴰ.tail m)))

  -- a test that passes wherever another does keeps no fewer
  pub keep_le : (f g : A → Bool) (l : List A) → ((x : A) → x ∈ l → f x ≡ true → g x ≡ true) → length (keep f l) ≤ length (keep g l)
  unfolding keep
  keep_le f g [] h = omega arith
  keep_le f g (x ∷ l) h = go (split (f x)) (split (g x)) (keep_le f g l (λ y m. h y (Memᴰ.tail m)))
    where
      go : (f x ≡ true) ⊎ (f x ≡ false) → (g x ≡ true) ⊎ (g x ≡ false) → length (keep f l) ≤ length (keep g l) → length (keep f (x ∷ l)) ≤ length (keep g (x ∷ l))
      go (inl e) d r = let i : g x ≡ true = h x (Memᴰ.head refl) e in omega (arith, ap length (keep_yes f x l e), ap length (keep_yes g x l i))
      go (inr e) (inl d) r = omega (arith, ap length (keep_no f x l e), ap length (keep_yes g x l d))
      go (inr e) (inr d) r = omega (arith, ap length (keep_no f x l e), ap length (keep_no g x l d))

  -- of those that pass one test, those that pass another
  pub keep_both : (f g : A → Bool) (l : List A) → keep g (keep f l) ≡ keep (λ x. f x && g x) l
  unfolding keep
  keep_both f g [] = refl
  keep_both f g (x ∷ l) = go (split (f x)) (split (g x)) (keep_both f g l)
    where
      go : (f x ≡ true) ⊎ (f x ≡ false) → (g x ≡ true) ⊎ (g x ≡ false) → keep g (keep f l) ≡ keep (λ y. f y && g y) l
          → keep g (keep f (x ∷ l)) ≡ keep (λ y. f y && g y) (x ∷ l)
      go (inl e) (inl d) ih =
          ap (keep g) (keep_yes f x l e) ∙ keep_yes g x (keep f l) d
          ∙ ap (λ (t : List A). x ∷ t) ih ∙ sym (keep_yes (λ y. f y && g y) x l (and_intro (f x) (g x) e d))
      go (inl e) (inr d) ih =
          ap (keep g) (keep_yes f x l e) ∙ keep_no g x (keep f l) d ∙ ih ∙ sym (keep_no (λ y. f y && g y) x l (ap (λ (b : Bool). b && g x) e ∙ d))
      go (inr e) d ih = ap (keep g) (keep_no f x l e) ∙ ih ∙ sym (keep_no (λ y. f y && g y) x l (ap (λ (b : Bool). b && g x) e))

  -- a test that never passes keeps none
  pub keep_none : (f : A → Bool) (l : List A) → ((x : A) → x ∈ l → f x ≡ false) → length (keep f l) ≡ 0
  unfolding keep
  keep_none f [] h = refl
  keep_none f (x ∷ l) h = ap length (keep_no f x l (h x (Memᴰ.head refl))) ∙ keep_none f l (λ y m. h y (Memᴰ.tail m))

  pub flat_at : {x : A} {c : List A} (C : List (List A)) → c ∈ C → x ∈ c → x ∈ flatten C
  unfolding flatten
  flat_at {x} C (Memᴰ.head {x = d} {xs = ds} e) m = Memᴰ.append_left (flatten ds) (subst (λ (z : List A). x ∈ z) e m)
  flat_at C (Memᴰ.tail {x = d} {xs = ds} n) m = Memᴰ.append_right d (flat_at ds n m)

  pub flat_of : {x : A} (C : List (List A)) → x ∈ flatten C → (c : List A) × c ∈ C × x ∈ c
  unfolding flatten
  flat_of [] m = absurd (Memᴰ.not-nil m)
  flat_of {x} (d ∷ C) m = go (Memᴰ.append_cases d m) (flat_of C)
    where
      go : x ∈ d ⊎ x ∈ flatten C → (x ∈ flatten C → (c : List A) × c ∈ C × x ∈ c) → (c : List A) × c ∈ (d ∷ C) × x ∈ c
      go (inl n) rest = (d, Memᴰ.head refl, n)
      go (inr n) rest = let r = rest n in (r.0, Memᴰ.tail r.1, r.2)

  pub flat_append : (C D : List (List A)) → flatten (C ++ D) ≡ flatten C ++ flatten D
  unfolding flatten
  flat_append [] D = refl
  flat_append (c ∷ C) D = ap (λ (l : List A). c ++ l) (flat_append C D) ∙ sym (append_assoc c (flatten C) (flatten D))

  -- ---- tests at the end of a list, and at each two

  pub no_member : (l : List A) → ((x : A) → x ∈ l → ⊥) → l ≡ []
  no_member [] h = refl
  no_member (x ∷ l) h = absurd (h x (Memᴰ.head refl))

  -- each fails exactly when none passes
  pub all_not : (f : A → Bool) (l : List A) → all (λ x. not (f x)) l ≡ not (any f l)
  unfolding all any
  all_not f [] = refl
  all_not f (x ∷ l) = go (f x) (all_not f l)
    where
      go : (b : Bool) → all (λ y. not (f y)) l ≡ not (any f l) → not b && all (λ y. not (f y)) l ≡ not (b || any f l)
      go true e = refl
      go false e = e

  -- one more at the end
  pub all_more : (f : A → Bool) (l : List A) (x : A) → all f (l ++ (x ∷ [])) ≡ all f l && f x
  unfolding all
  all_more f [] x = and-true (f x)
  all_more f (y ∷ l) x = ap (λ (b : Bool). f y && b) (all_more f l x) ∙ sym (and_assoc (f y) (all f l) (f x))

  pub any_same : (f g : A → Bool) (l : List A) → ((x : A) → x ∈ l → f x ≡ g x) → any f l ≡ any g l
  unfolding any
  any_same f g [] h = refl
  any_same f g (x ∷ l) h = ap₂ ◌||◌ (h x (Memᴰ.head refl)) (any_same f g l (λ y m. h y (Memᴰ.tail m)))

  pub any_more : (f : A → Bool) (l : List A) (x : A) → any f (l ++ (x ∷ [])) ≡ any f l || f x
  unfolding any
  any_more f [] x = or-false (f x)
  any_more f (y ∷ l) x = ap (λ (b : Bool). f y || b) (any_more f l x) ∙ sym (or_assoc (f y) (any f l) (f x))

  pub each_two_more : (f : A → A → Bool) (l : List A) (x : A) → each_two f (l ++ (x ∷ [])) ≡ each_two f l && all (λ y. f y x) l
  unfolding each_two all
  each_two_more f [] x = refl
  each_two_more f (y ∷ l) x = ap₂ ◌&&◌ (all_more (f y) l x) (each_two_more f l x) ∙ swap (all (f y) l) (f y x) (each_two f l) (all (λ z. f z x) l)
    where
      swap : (a b c d : Bool) → (a && b) && (c && d) ≡ (a && c) && (b && d)
      swap true true c d = refl
      swap true false true d = refl
      swap true false false d = refl
      swap false b c d = refl

  -- an element and a later one
  pub each_two_later : (f : A → A → Bool) (K M : List A) (x y : A) → each_two f (K ++ (x ∷ M)) ≡ true → y ∈ M → f x y ≡ true
  unfolding each_two
  each_two_later f [] M x y t m = all_of (f x) M (and_left (all (f x) M) (each_two f M) t) m
  each_two_later f (z ∷ K) M x y t m = each_two_later f K M x y (and_right (all (f z) (K ++ (x ∷ M))) (each_two f (K ++ (x ∷ M))) t) m

  -- a list of two or more has two at which the test passes
  pub each_two_some : (f : A → A → Bool) (l : List A) → 2 ≤ length l → each_two f l ≡ true → (x : A) × (y : A) × (f x y ≡ true)
  unfolding each_two all
  each_two_some f [] h t = absurd (omega arith)
  each_two_some f (x ∷ []) h t = absurd (omega arith)
  each_two_some f (x ∷ y ∷ l) h t =
      (x, y, and_left (f x y) (all (f x) l) (and_left (all (f x) (y ∷ l)) (each_two f (y ∷ l)) t))

  -- elements that a symmetric test ties are one, where the test fails at each two
  pub each_two_once : (R : A → A → Bool) → ((x y : A) → R x y ≡ true → R y x ≡ true) → (L : List A) → each_two (λ x y. not (R x y)) L ≡ true
      → (x y : A) → x ∈ L → y ∈ L → R x y ≡ true → x ≡ y
  unfolding each_two
  each_two_once R turn [] t x y m n h = absurd (Memᴰ.not-nil m)
  each_two_once R turn (z ∷ L) t x y m n h =
      go (Memᴰ.cases_cons m) (Memᴰ.cases_cons n) (each_two_once R turn L (and_right (all (λ v. not (R z v)) L) (each_two (λ u v. not (R u v)) L) t) x y)
    where
      apart : (v : A) → v ∈ L → R z v ≡ false
      apart v i = not-true (R z v) (all_of (λ u. not (R z u)) L (and_left (all (λ u. not (R z u)) L) (each_two (λ u w. not (R u w)) L) t) i)

      go : (x ≡ z) ⊎ x ∈ L → (y ≡ z) ⊎ y ∈ L → (x ∈ L → y ∈ L → R x y ≡ true → x ≡ y) → x ≡ y
      go (inl d) (inl e) rest = d ∙ sym e
      go (inl d) (inr j) rest = never (R z y) (ap (λ (v : A). R v y) (sym d) ∙ h) (apart y j)
      go (inr i) (inl e) rest = never (R z x) (turn x z (ap (R x) (sym e) ∙ h)) (apart x i)
      go (inr i) (inr j) rest = rest i j h

-- ---- a strict total order, and lists that rise in it

pub record Order {A : Type 0} (first : A → A → Bool) : Type 0 where
  pub irrefl : (x : A) → first x x ≡ false
  pub trans : (x y z : A) → first x y ≡ true → first y z ≡ true → first x z ≡ true
  pub total : (x y : A) → first x y ≡ false → first y x ≡ false → x ≡ y

module _ {A : Type 0} (first : A → A → Bool) where
  unfoldable pub Rising : List A → Type 0
  Rising [] = Unit {0}
  Rising (x ∷ l) = ((y : A) → y ∈ l → first x y ≡ true) × Rising l

  pub rising_each : (l : List A) → Rising l → each_two first l ≡ true
  unfolding each_two Rising
  rising_each [] r = refl
  rising_each (x ∷ l) r = and_intro (all (first x) l) (each_two first l) (all_at (first x) l (λ y m. r.0 y m)) (rising_each l r.1)

  pub each_rising : (l : List A) → each_two first l ≡ true → Rising l
  unfolding each_two Rising
  each_rising [] t = tt
  each_rising (x ∷ l) t =
      ((λ y m. all_of (first x) l (and_left (all (first x) l) (each_two first l) t) m), each_rising l (and_right (all (first x) l) (each_two first l) t))

  pub keep_rising : (f : A → Bool) (l : List A) → Rising l → Rising (keep f l)
  unfolding keep Rising
  keep_rising f [] r = tt
  keep_rising f (x ∷ l) r = go (split (f x)) (keep_rising f l r.1)
    where
      go : (f x ≡ true) ⊎ (f x ≡ false) → Rising (keep f l) → Rising (keep f (x ∷ l))
      go (inl e) s = rw (keep_yes f x l e) ((λ y m. r.0 y (keep_of f l m).0), s)
      go (inr e) s = rw (keep_no f x l e) s

  module _ (order : Order first) where
    pub asym : (x y : A) → first x y ≡ true → first y x ≡ false
    asym x y e = not_so (first y x) (λ h. never (first x x) (order.trans x y x e h) (order.irrefl x))

    -- z is not before y, nor y before x: nor is z before x
    pub not_before : (x y z : A) → first y x ≡ false → first z y ≡ false → first z x ≡ false
    not_before x y z e h = go (split (first z x)) (split (first y z))
      where
        go : (first z x ≡ true) ⊎ (first z x ≡ false) → (first y z ≡ true) ⊎ (first y z ≡ false) → first z x ≡ false
        go (inr s) t = s
        go (inl s) (inl t) = never (first y x) (order.trans y z x t s) e
        go (inl s) (inr t) = ap (λ (w : A). first w x) (order.total z y h t) ∙ e

    -- two rising lists with the same members are one list
    pub rising_same : (l m : List A) → Rising l → Rising m → Holds m l → Holds l m → l ≡ m
    unfolding Rising
    rising_same [] [] r s f g = refl
    rising_same [] (y ∷ m) r s f g = absurd (Memᴰ.not-nil (g y (Memᴰ.head refl)))
    rising_same (x ∷ l) [] r s f g = absurd (Memᴰ.not-nil (f x (Memᴰ.head refl)))
    rising_same (x ∷ l) (y ∷ m) r s f g = ap₂ (λ (a : A) (t : List A). a ∷ t) heads (rising_same l m r.1 s.1 fwd bwd)
      where
        -- a member of a rising list is not before its head
        low : (a b : A) (t : List A) → ((z : A) → z ∈ t → first b z ≡ true) → (a ≡ b) ⊎ a ∈ t → first a b ≡ false
        low a b t h (inl e) = ap (λ (z : A). first z b) e ∙ order.irrefl b
        low a b t h (inr n) = asym b a (h a n)

        heads : x ≡ y
        heads =
            order.total x y (low x y m s.0 (Memᴰ.cases_cons (f x (Memᴰ.head refl))))
            (low y x l r.0 (Memᴰ.cases_cons (g y (Memᴰ.head refl))))

        off : (z a b : A) (t : List A) → a ≡ b → first a z ≡ true → (z ≡ b) ⊎ z ∈ t → z ∈ t
        off z a b t e h (inl q) = never (first a z) h (ap (first a) (q ∙ sym e) ∙ order.irrefl a)
        off z a b t e h (inr n) = n

        fwd : (z : A) → z ∈ l → z ∈ m
        fwd z n = off z x y m heads (r.0 z n) (Memᴰ.cases_cons (f z (Memᴰ.tail n)))

        bwd : (z : A) → z ∈ m → z ∈ l
        bwd z n = off z y x l (sym heads) (s.0 z n) (Memᴰ.cases_cons (g z (Memᴰ.tail n)))

    -- the first of a rising list is before, or is, each member
    pub first_least : (x : A) (l : List A) → Rising (x ∷ l) → (y : A) → y ∈ (x ∷ l) → first y x ≡ false
    unfolding Rising
    first_least x l r y m = go (Memᴰ.cases_cons m)
      where
        go : (y ≡ x) ⊎ y ∈ l → first y x ≡ false
        go (inl e) = ap (λ (z : A). first z x) e ∙ order.irrefl x
        go (inr n) = asym x y (r.0 y n)

    -- ---- sorting: the same members, rising

    placed_of : (x : A) (l : List A) {z : A} → z ∈ placed first x l → (z ≡ x) ⊎ z ∈ l
    unfolding placed
    placed_of x [] m = Memᴰ.cases_cons m
    placed_of x (y ∷ l) {z} m = go (split (first x y)) (split (first y x)) (placed_of x l)
      where
        tail : (z ≡ x) ⊎ z ∈ l → (z ≡ x) ⊎ z ∈ (y ∷ l)
        tail (inl e) = inl e
        tail (inr n) = inr (Memᴰ.tail n)

        cons : (z ≡ y) ⊎ z ∈ placed first x l → (z ∈ placed first x l → (z ≡ x) ⊎ z ∈ l) → (z ≡ x) ⊎ z ∈ (y ∷ l)
        cons (inl e) rest = inr (Memᴰ.head e)
        cons (inr n) rest = tail (rest n)

        go : (first x y ≡ true) ⊎ (first x y ≡ false) → (first y x ≡ true) ⊎ (first y x ≡ false)
            → (z ∈ placed first x l → (z ≡ x) ⊎ z ∈ l) → (z ≡ x) ⊎ z ∈ (y ∷ l)
        go (inl e) h rest = Memᴰ.cases_cons (rw (placed, e) at m)
        go (inr e) (inl h) rest = cons (Memᴰ.cases_cons (rw (placed, e, h) at m)) rest
        go (inr e) (inr h) rest = inr (rw (placed, e, h) at m)

    placed_at : (x : A) (l : List A) {z : A} → (z ≡ x) ⊎ z ∈ l → z ∈ placed first x l
    unfolding placed
    placed_at x [] {z} (inl e) = Memᴰ.head e
    placed_at x [] {z} (inr n) = absurd (Memᴰ.not-nil n)
    placed_at x (y ∷ l) {z} c = go (split (first x y)) (split (first y x)) (placed_at x l) c
      where
        old : ((z ≡ x) ⊎ z ∈ l → z ∈ placed first x l) → (z ≡ y) ⊎ z ∈ l → z ∈ (y ∷ placed first x l)
        old rest (inl e) = Memᴰ.head e
        old rest (inr n) = Memᴰ.tail (rest (inr n))

        go : (first x y ≡ true) ⊎ (first x y ≡ false) → (first y x ≡ true) ⊎ (first y x ≡ false)
            → ((z ≡ x) ⊎ z ∈ l → z ∈ placed first x l) → (z ≡ x) ⊎ z ∈ (y ∷ l) → z ∈ placed first x (y ∷ l)
        go (inl e) h rest (inl s) = rw (placed, e) (Memᴰ.head s)
        go (inl e) h rest (inr n) = rw (placed, e) (Memᴰ.tail n)
        go (inr e) (inl h) rest (inl s) = rw (placed, e, h) (Memᴰ.tail (rest (inl s)))
        go (inr e) (inl h) rest (inr n) = rw (placed, e, h) (old rest (Memᴰ.cases_cons n))
        go (inr e) (inr h) rest (inl s) = rw (placed, e, h) (Memᴰ.head (s ∙ order.total x y e h))
        go (inr e) (inr h) rest (inr n) = rw (placed, e, h) n

    placed_rising : (x : A) (l : List A) → Rising l → Rising (placed first x l)
    unfolding placed Rising
    placed_rising x [] r = ((λ y m. absurd (Memᴰ.not-nil m)), tt)
    placed_rising x (y ∷ l) r = go (split (first x y)) (split (first y x)) (placed_rising x l r.1)
      where
        over : first x y ≡ true → (z : A) → (z ≡ y) ⊎ z ∈ l → first x z ≡ true
        over e z (inl s) = ap (first x) s ∙ e
        over e z (inr n) = order.trans x y z e (r.0 z n)

        under : first y x ≡ true → (z : A) → (z ≡ x) ⊎ z ∈ l → first y z ≡ true
        under h z (inl s) = ap (first y) s ∙ h
        under h z (inr n) = r.0 z n

        go : (first x y ≡ true) ⊎ (first x y ≡ false) → (first y x ≡ true) ⊎ (first y x ≡ false) → Rising (placed first x l) → Rising (placed first x (y ∷ l))
        go (inl e) h s = rw (placed, e) ((λ z m. over e z (Memᴰ.cases_cons m)), r)
        go (inr e) (inl h) s = rw (placed, e, h) ((λ z m. under h z (placed_of x l m)), s)
        go (inr e) (inr h) s = rw (placed, e, h) r

    pub sorted_of : (l : List A) {z : A} → z ∈ sorted first l → z ∈ l
    unfolding sorted
    sorted_of [] m = m
    sorted_of (x ∷ l) {z} m = go (placed_of x (sorted first l) m) (sorted_of l)
      where
        go : (z ≡ x) ⊎ z ∈ sorted first l → (z ∈ sorted first l → z ∈ l) → z ∈ (x ∷ l)
        go (inl e) rest = Memᴰ.head e
        go (inr n) rest = Memᴰ.tail (rest n)

    pub sorted_at : {z : A} (l : List A) → z ∈ l → z ∈ sorted first l
    unfolding sorted
    sorted_at l (Memᴰ.head {x = x} {xs = xs} e) = placed_at x (sorted first xs) (inl e)
    sorted_at l (Memᴰ.tail {x = x} {xs = xs} m) = placed_at x (sorted first xs) (inr (sorted_at xs m))

    pub sorted_rising : (l : List A) → Rising (sorted first l)
    unfolding sorted Rising
    sorted_rising [] = tt
    sorted_rising (x ∷ l) = placed_rising x (sorted first l) (sorted_rising l)

    -- sorting goes by the members alone
    pub sorted_same : (l m : List A) → Holds m l → Holds l m → sorted first l ≡ sorted first m
    sorted_same l m f g =
        rising_same (sorted first l) (sorted first m) (sorted_rising l) (sorted_rising m) (λ x n. sorted_at m (f x (sorted_of l n)))
        (λ x n. sorted_at l (g x (sorted_of m n)))

-- ---- no element twice

unfoldable pub Distinct : {A : Type 0} → List A → Type 0
Distinct [] = Unit {0}
Distinct (x ∷ l) = (x ∈ l → ⊥) × Distinct l

module _ {A : Type 0} where
  pub rising_distinct : (first : A → A → Bool) → Order first → (l : List A) → Rising first l → Distinct l
  unfolding Rising Distinct
  rising_distinct first order [] r = tt
  rising_distinct first order (x ∷ l) r = ((λ m. never (first x x) (r.0 x m) (order.irrefl x)), rising_distinct first order l r.1)

  pub keep_distinct : (f : A → Bool) (l : List A) → Distinct l → Distinct (keep f l)
  unfolding keep Distinct
  keep_distinct f [] d = tt
  keep_distinct f (x ∷ l) d = go (split (f x)) (keep_distinct f l d.1)
    where
      go : (f x ≡ true) ⊎ (f x ≡ false) → Distinct (keep f l) → Distinct (keep f (x ∷ l))
      go (inl e) r = rw (keep_yes f x l e) ((λ m. d.0 (keep_of f l m).0), r)
      go (inr e) r = rw (keep_no f x l e) r

  pub append_distinct : (l m : List A) → Distinct l → Distinct m → ((x : A) → x ∈ l → x ∈ m → ⊥) → Distinct (l ++ m)
  unfolding Distinct
  append_distinct [] m d e h = e
  append_distinct (x ∷ l) m d e h = ((λ i. go (Memᴰ.append_cases l i)), append_distinct l m d.1 e (λ y i. h y (Memᴰ.tail i)))
    where
      go : x ∈ l ⊎ x ∈ m → ⊥
      go (inl i) = d.0 i
      go (inr i) = h x (Memᴰ.head refl) i

  -- m without the member at i
  less : {x : A} (m : List A) → x ∈ m → List A
  less m (Memᴰ.head {xs = xs} e) = xs
  less m (Memᴰ.tail {x = y} {xs = xs} i) = y ∷ less xs i

  less_length : {x : A} (m : List A) (i : x ∈ m) → suc (length (less m i)) ≡ length m
  unfolding less
  less_length m (Memᴰ.head e) = refl
  less_length m (Memᴰ.tail {xs = xs} i) = ap suc (less_length xs i)

  less_at : {x z : A} (m : List A) (i : x ∈ m) → z ∈ m → (z ≡ x → ⊥) → z ∈ less m i
  unfolding less
  less_at {x} {z} m (Memᴰ.head {x = y} {xs = xs} e) j n = go (Memᴰ.cases_cons j)
    where
      go : (z ≡ y) ⊎ z ∈ xs → z ∈ xs
      go (inl s) = absurd (n (s ∙ sym e))
      go (inr k) = k
  less_at {x} {z} m (Memᴰ.tail {x = y} {xs = xs} i) j n = go (Memᴰ.cases_cons j) (λ k. less_at xs i k n)
    where
      go : (z ≡ y) ⊎ z ∈ xs → (z ∈ xs → z ∈ less xs i) → z ∈ (y ∷ less xs i)
      go (inl s) rest = Memᴰ.head s
      go (inr k) rest = Memᴰ.tail (rest k)

  -- a list with no element twice is no longer than one that has its members
  pub distinct_le : (l m : List A) → Distinct l → Holds m l → length l ≤ length m
  unfolding Distinct
  distinct_le [] m d h = omega arith
  distinct_le (x ∷ l) m d h =
      let i = h x (Memᴰ.head refl) in
      let r = distinct_le l (less m i) d.1 (λ z n. less_at m i (h z (Memᴰ.tail n)) (λ e. d.0 (Memᴰ.cast (sym e) n))) in
      omega (arith, less_length m i)

  pub distinct_same : (l m : List A) → Distinct l → Distinct m → Holds m l → Holds l m → length l ≡ length m
  distinct_same l m d e f g = omega (arith, distinct_le l m d f, distinct_le m l e g)

  -- those that pass f: those that pass g too, and those that do not
  pub keep_split : (f g : A → Bool) (l : List A) → length (keep f l) ≡ length (keep (λ x. f x && g x) l) + length (keep (λ x. f x && not (g x)) l)
  unfolding keep
  keep_split f g [] = refl
  keep_split f g (x ∷ l) = go (split (f x)) (split (g x)) (keep_split f g l)
    where
      go : (f x ≡ true) ⊎ (f x ≡ false) → (g x ≡ true) ⊎ (g x ≡ false)
          → length (keep f l) ≡ length (keep (λ y. f y && g y) l) + length (keep (λ y. f y && not (g y)) l)
          → length (keep f (x ∷ l)) ≡ length (keep (λ y. f y && g y) (x ∷ l)) + length (keep (λ y. f y && not (g y)) (x ∷ l))
      go (inl a) (inl b) r =
          omega (
            arith,
            ap length (keep_yes f x l a),
            ap length (keep_yes (λ y. f y && g y) x l (ap₂ ◌&&◌ a b)),
            ap length (keep_no (λ y. f y && not (g y)) x l (ap₂ ◌&&◌ a (ap not b))),
          )
      go (inl a) (inr b) r =
          omega (
            arith,
            ap length (keep_yes f x l a),
            ap length (keep_no (λ y. f y && g y) x l (ap₂ ◌&&◌ a b)),
            ap length (keep_yes (λ y. f y && not (g y)) x l (ap₂ ◌&&◌ a (ap not b))),
          )
      go (inr a) b r =
          omega (
            arith,
            ap length (keep_no f x l a),
            ap length (keep_no (λ y. f y && g y) x l (ap (λ (t : Bool). t && g x) a)),
            ap length (keep_no (λ y. f y && not (g y)) x l (ap (λ (t : Bool). t && not (g x)) a)),
          )

pub map_distinct : {A B : Type 0} (f : A → B) (l : List A) → Distinct l → ((x y : A) → x ∈ l → y ∈ l → f x ≡ f y → x ≡ y) → Distinct (map f l)
unfolding Distinct
map_distinct f [] d h = tt
map_distinct f (x ∷ l) d h = (
  (λ m.
      let r = Memᴰ.of_map f l m in
      d.0 (Memᴰ.cast (h x r.0 (Memᴰ.head refl) (Memᴰ.tail r.1) (sym r.2)) r.1)),
  map_distinct f l d.1 (λ y z i j. h y z (Memᴰ.tail i) (Memᴰ.tail j)),
)

-- ---- whether a number is in a list

pub elem_at : {a : ℕ} (l : List ℕ) → a ∈ l → any (eqb a) l ≡ true
elem_at {a} l m = any_at (eqb a) l m (eq-eqb a a refl)

pub elem_of : (a : ℕ) (l : List ℕ) → any (eqb a) l ≡ true → a ∈ l
elem_of a l t = let r = any_of (eqb a) l t in Memᴰ.cast (eqb-true a r.0 r.2) r.1

-- ---- the numbers below n, rising

pub number_order : Order ltb
number_order = record {
  irrefl = λ x. le-ltb x x (omega arith);
  trans = λ x y z e h. lt-ltb x z (omega (arith, ltb-true x y e, ltb-true y z h));
  total = λ x y e h. omega (arith, ltb-false x y e, ltb-false y x h);
}

pub from_of : {x : ℕ} (i n : ℕ) → x ∈ from i n → (i ≤ x) × (x < i + n)
unfolding from
from_of i zero m = absurd (Memᴰ.not-nil m)
from_of {x} i (suc n) m = go (Memᴰ.cases_cons m) (from_of (suc i) n)
  where
    go : (x ≡ i) ⊎ x ∈ from (suc i) n → (x ∈ from (suc i) n → (suc i ≤ x) × (x < suc i + n)) → (i ≤ x) × (x < i + suc n)
    go (inl e) rest = (omega arith, omega arith)
    go (inr r) rest = let h = rest r in (omega arith, omega arith)

pub from_at : (x i n : ℕ) → i ≤ x → x < i + n → x ∈ from i n
unfolding from
from_at x i zero l h = absurd (omega arith)
from_at x i (suc n) l h = go (lt_or_le i x) (from_at x (suc i) n)
  where
    go : (i < x) ⊎ (x ≤ i) → (suc i ≤ x → x < suc i + n → x ∈ from (suc i) n) → x ∈ from i (suc n)
    go (inl t) rest = Memᴰ.tail (rest t (omega arith))
    go (inr t) rest = let e : x ≡ i = omega arith in Memᴰ.head e

pub below_of : {x : ℕ} (n : ℕ) → x ∈ below n → x < n
unfolding below
below_of n m = omega (arith, from_of 0 n m)

pub below_at : (x n : ℕ) → x < n → x ∈ below n
unfolding below
below_at x n h = from_at x 0 n (omega arith) (omega arith)

from_rising : (i n : ℕ) → Rising ltb (from i n)
unfolding Rising from
from_rising i zero = tt
from_rising i (suc n) = ((λ y m. lt-ltb i y (from_of (suc i) n m).0), from_rising (suc i) n)

pub below_rising : (n : ℕ) → Rising ltb (below n)
unfolding below
below_rising n = from_rising 0 n

from_length : (i n : ℕ) → length (from i n) ≡ n
unfolding from
from_length i zero = refl
from_length i (suc n) = ap suc (from_length (suc i) n)

pub below_length : (n : ℕ) → length (below n) ≡ n
unfolding below
below_length n = from_length 0 n

-- ---- each two of a rising list of numbers

pub each_two_of : (f : ℕ → ℕ → Bool) (l : List ℕ) → Rising ltb l → each_two f l ≡ true → (q r : ℕ) → q ∈ l → r ∈ l → q < r → f q r ≡ true
unfolding each_two Rising
each_two_of f [] ri t q r m n h = absurd (Memᴰ.not-nil m)
each_two_of f (x ∷ l) ri t q r m n h =
    go (Memᴰ.cases_cons m) (Memᴰ.cases_cons n) (each_two_of f l ri.1 (and_right (all (f x) l) (each_two f l) t) q r)
  where
    go : (q ≡ x) ⊎ q ∈ l → (r ≡ x) ⊎ r ∈ l → (q ∈ l → r ∈ l → q < r → f q r ≡ true) → f q r ≡ true
    go (inl d) (inl e) rest = absurd (omega arith)
    go (inl d) (inr e) rest = ap (λ (z : ℕ). f z r) d ∙ all_of (f x) l (and_left (all (f x) l) (each_two f l) t) e
    go (inr d) (inl e) rest = absurd (omega (arith, ltb-true x q (ri.0 q d)))
    go (inr d) (inr e) rest = rest d e h

pub each_two_at : (f : ℕ → ℕ → Bool) (l : List ℕ) → Rising ltb l → ((q r : ℕ) → q ∈ l → r ∈ l → q < r → f q r ≡ true) → each_two f l ≡ true
unfolding each_two Rising
each_two_at f [] ri h = refl
each_two_at f (x ∷ l) ri h =
    and_intro (all (f x) l) (each_two f l) (all_at (f x) l (λ y m. h x y (Memᴰ.head refl) (Memᴰ.tail m) (ltb-true x y (ri.0 y m))))
    (each_two_at f l ri.1 (λ q r m n. h q r (Memᴰ.tail m) (Memᴰ.tail n)))

-- ---- what is read of a list

-- inside a list what is read does not turn on what stands for an element past its end
pub get_d_in : (xs : List ℕ) (i d e : ℕ) → i < length xs → get_or xs i d ≡ get_or xs i e
get_d_in [] i d e h = absurd (omega arith)
get_d_in (x ∷ xs) zero d e h = refl
get_d_in (x ∷ xs) (suc i) d e h = get_d_in xs i d e (omega arith)

-- ---- map and keep

pub map_append : {A B : Type 0} (f : A → B) (l m : List A) → map f (l ++ m) ≡ map f l ++ map f m
map_append f [] m = refl
map_append f (x ∷ l) m = ap (λ (t : List _). f x ∷ t) (map_append f l m)

pub map_same : {A B : Type 0} (f g : A → B) (l : List A) → ((x : A) → f x ≡ g x) → map f l ≡ map g l
map_same f g [] h = refl
map_same f g (x ∷ l) h = ap₂ ◌∷◌ (h x) (map_same f g l h)

module _ {A : Type 0} (f : A → Bool) where
  pub keep_append : (l m : List A) → keep f (l ++ m) ≡ keep f l ++ keep f m
  unfolding keep
  keep_append [] m = refl
  keep_append (x ∷ l) m = go (split (f x)) (keep_append l m)
    where
      go : (f x ≡ true) ⊎ (f x ≡ false) → keep f (l ++ m) ≡ keep f l ++ keep f m → keep f (x ∷ (l ++ m)) ≡ keep f (x ∷ l) ++ keep f m
      go (inl e) ih = keep_yes f x (l ++ m) e ∙ ap (λ (t : List A). x ∷ t) ih ∙ ap (λ (t : List A). t ++ keep f m) (sym (keep_yes f x l e))
      go (inr e) ih = keep_no f x (l ++ m) e ∙ ih ∙ ap (λ (t : List A). t ++ keep f m) (sym (keep_no f x l e))

  pub keep_map : {B : Type 0} (g : B → A) (l : List B) → keep f (map g l) ≡ map g (keep (λ x. f (g x)) l)
  unfolding keep
  keep_map g [] = refl
  keep_map {B} g (x ∷ l) = go (split (f (g x))) (keep_map g l)
    where
      go : (f (g x) ≡ true) ⊎ (f (g x) ≡ false) → keep f (map g l) ≡ map g (keep (λ y. f (g y)) l)
          → keep f (g x ∷ map g l) ≡ map g (keep (λ y. f (g y)) (x ∷ l))
      go (inl e) ih = keep_yes f (g x) (map g l) e ∙ ap (λ (t : List A). g x ∷ t) ih ∙ ap (map g) (sym (keep_yes (λ y. f (g y)) x l e))
      go (inr e) ih = keep_no f (g x) (map g l) e ∙ ih ∙ ap (map g) (sym (keep_no (λ y. f (g y)) x l e))

-- a rising list without its first
pub rising_rest : {A : Type 0} (first : A → A → Bool) (x : A) (l : List A) → Rising first (x ∷ l) → Rising first l
unfolding Rising
rising_rest first x l r = r.1

-- what is read inside a list is a member
pub get_d_member : {A : Type 0} (l : List A) (i : ℕ) (d : A) → i < length l → get_or l i d ∈ l
get_d_member [] i d h = absurd (omega arith)
get_d_member (x ∷ l) zero d h = Memᴰ.head refl
get_d_member (x ∷ l) (suc i) d h = Memᴰ.tail (get_d_member l i d (omega arith))

-- ---- the numbers below one more

from_more : (i n : ℕ) → from i (suc n) ≡ from i n ++ ((i + n) ∷ [])
unfolding from
from_more i zero = ap (λ (j : ℕ). j ∷ []) (let e : i ≡ i + 0 = omega arith in e)
from_more i (suc n) =
    ap (λ (l : List ℕ). i ∷ l) (from_more (suc i) n ∙ ap (λ (j : ℕ). from (suc i) n ++ (j ∷ [])) (let e : suc i + n ≡ i + suc n = omega arith in e))

pub below_more : (n : ℕ) → below (suc n) ≡ below n ++ (n ∷ [])
unfolding below
below_more n = from_more 0 n ∙ ap (λ (j : ℕ). from 0 n ++ (j ∷ [])) (let e : 0 + n ≡ n = omega arith in e)

-- ---- the numbers below one less are the first of them

from_split : (i k m : ℕ) → from i (k + m) ≡ from i k ++ from (i + k) m
unfolding from
from_split i zero m = ap₂ from (let e : i ≡ i + 0 = omega arith in e) (let e : 0 + m ≡ m = omega arith in e)
from_split i (suc k) m =
    ap (from i) (let e : suc k + m ≡ suc (k + m) = omega arith in e)
    ∙ ap (λ (l : List ℕ). i ∷ l) (from_split (suc i) k m ∙ ap (λ (j : ℕ). from (suc i) k ++ from j m) (let e : suc i + k ≡ i + suc k = omega arith in e))

pub below_split : (i n : ℕ) → i ≤ n → below n ≡ below i ++ from i (n - i)
unfolding below
below_split i n h =
    ap (from 0) (let e : n ≡ i + (n - i) = omega arith in e) ∙ from_split 0 i (n - i) ∙ ap (λ (j : ℕ). from 0 i ++ from j (n - i)) (let e : 0 + i ≡ i = omega arith in e)

-- a test passes no more often below a number than below a greater one
pub keep_below_le : (f : ℕ → Bool) (i n : ℕ) → i ≤ n → length (keep f (below i)) ≤ length (keep f (below n))
keep_below_le f i n h =
    omega (
      arith,
      ap (λ (l : List ℕ). length (keep f l)) (below_split i n h),
      ap length (keep_append f (below i) (from i (n - i))),
      length-append (keep f (below i)) (keep f (from i (n - i))),
    )

-- what a test keeps of them
pub keep_below_yes : (f : ℕ → Bool) (n : ℕ) → f n ≡ true → keep f (below (suc n)) ≡ keep f (below n) ++ (n ∷ [])
unfolding keep
keep_below_yes f n e = ap (keep f) (below_more n) ∙ keep_append f (below n) (n ∷ []) ∙ ap (λ (l : List ℕ). keep f (below n) ++ l) (keep_yes f n [] e)

pub keep_below_no : (f : ℕ → Bool) (n : ℕ) → f n ≡ false → keep f (below (suc n)) ≡ keep f (below n)
unfolding keep
keep_below_no f n e =
    ap (keep f) (below_more n) ∙ keep_append f (below n) (n ∷ []) ∙ ap (λ (l : List ℕ). keep f (below n) ++ l) (keep_no f n [] e) ∙ append-nil (keep f (below n))

-- ---- lists that rise in what f gives of their elements

module _ {A B : Type 0} (first : B → B → Bool) (f : A → B) where
  pub rising_map : (l : List A) → Rising first (map f l) → Rising (λ x y. first (f x) (f y)) l
  unfolding Rising
  rising_map [] r = tt
  rising_map (x ∷ l) r = ((λ y m. r.0 (f y) (Memᴰ.map f m)), rising_map l r.1)

  -- two such lists with the same members are one list; f need not tell all elements of A apart
  pub rising_map_same : Order first → (l m : List A) → Rising (λ x y. first (f x) (f y)) l → Rising (λ x y. first (f x) (f y)) m → Holds m l → Holds l m → l ≡ m
  unfolding Rising
  rising_map_same order [] [] r s p q = refl
  rising_map_same order [] (y ∷ m) r s p q = absurd (Memᴰ.not-nil (q y (Memᴰ.head refl)))
  rising_map_same order (x ∷ l) [] r s p q = absurd (Memᴰ.not-nil (p x (Memᴰ.head refl)))
  rising_map_same order (x ∷ l) (y ∷ m) r s p q = ap₂ (λ (a : A) (t : List A). a ∷ t) heads (rising_map_same order l m r.1 s.1 to fro)
    where
      one : (x ≡ y) ⊎ x ∈ m → (y ≡ x) ⊎ y ∈ l → x ≡ y
      one (inl e) d = e
      one (inr i) (inl e) = sym e
      one (inr i) (inr j) = never (first (f x) (f y)) (r.0 y j) (asym first order (f y) (f x) (s.0 x i))

      heads : x ≡ y
      heads = one (Memᴰ.cases_cons (p x (Memᴰ.head refl))) (Memᴰ.cases_cons (q y (Memᴰ.head refl)))

      off : (z a b : A) (t : List A) → a ≡ b → first (f a) (f z) ≡ true → (z ≡ b) ⊎ z ∈ t → z ∈ t
      off z a b t e h (inl g) = never (first (f a) (f z)) h (ap (λ (u : A). first (f a) (f u)) (g ∙ sym e) ∙ order.irrefl (f a))
      off z a b t e h (inr n) = n

      to : Holds m l
      to z n = off z x y m heads (r.0 z n) (Memᴰ.cases_cons (p z (Memᴰ.tail n)))

      fro : Holds l m
      fro z n = off z y x l (sym heads) (s.0 z n) (Memᴰ.cases_cons (q z (Memᴰ.tail n)))

-- ---- by members

-- functions that agree on the members of a list
pub map_on : {A B : Type 0} (f g : A → B) (l : List A) → ((x : A) → x ∈ l → f x ≡ g x) → map f l ≡ map g l
map_on f g [] h = refl
map_on f g (x ∷ l) h = ap₂ ◌∷◌ (h x (Memᴰ.head refl)) (map_on f g l (λ y m. h y (Memᴰ.tail m)))

pub distinct_map : {A B : Type 0} (f : A → B) (l : List A) → Distinct (map f l) → Distinct l
unfolding Distinct
distinct_map f [] d = tt
distinct_map f (x ∷ l) d = ((λ m. d.0 (Memᴰ.map f m)), distinct_map f l d.1)

-- rising_map the other way round
pub map_rising : {A B : Type 0} (first : B → B → Bool) (f : A → B) (l : List A) → Rising (λ x y. first (f x) (f y)) l → Rising first (map f l)
unfolding Rising
map_rising first f [] r = tt
map_rising first f (x ∷ l) r = ((λ y m. let q = Memᴰ.of_map f l m in ap (first (f x)) (sym q.2) ∙ r.0 q.0 q.1), map_rising first f l r.1)

-- a member with what stands before and after it
pub member_split : {A : Type 0} (x : A) (l : List A) → x ∈ l → (B : List A) × (C : List A) × (l ≡ B ++ (x ∷ C))
member_split x l (Memᴰ.head {x = y} {xs = xs} e) = ([], xs, ap (λ (z : _). z ∷ xs) (sym e))
member_split x l (Memᴰ.tail {x = y} {xs = xs} m) = let r = member_split x xs m in (y ∷ r.0, r.1, ap (λ (z : List _). y ∷ z) r.2)

-- ---- places in a list

pub member_index : {A : Type 0} (x d : A) (l : List A) → x ∈ l → (j : ℕ) × (j < length l) × (get_or l j d ≡ x)
member_index x d [] m = absurd (Memᴰ.not-nil m)
member_index x d (y ∷ l) m = go (Memᴰ.cases_cons m) (member_index x d l)
  where
    go : (x ≡ y) ⊎ x ∈ l → (x ∈ l → (j : ℕ) × (j < length l) × (get_or l j d ≡ x)) → (j : ℕ) × (j < suc (length l)) × (get_or (y ∷ l) j d ≡ x)
    go (inl e) rest = (0, omega arith, sym e)
    go (inr n) rest = let r = rest n in (suc r.0, omega (arith, r.1), r.2)

pub distinct_index : {A : Type 0} (d : A) (l : List A) → Distinct l → (i j : ℕ) → i < length l → j < length l → get_or l i d ≡ get_or l j d → i ≡ j
unfolding Distinct
distinct_index d [] s i j a b e = absurd (omega arith)
distinct_index d (x ∷ l) s zero zero a b e = refl
distinct_index d (x ∷ l) s zero (suc j) a b e = absurd (s.0 (subst⁻¹ (λ (y : _). y ∈ l) e (get_d_member l j d (omega arith))))
distinct_index d (x ∷ l) s (suc i) zero a b e = absurd (s.0 (subst (λ (y : _). y ∈ l) e (get_d_member l i d (omega arith))))
distinct_index d (x ∷ l) s (suc i) (suc j) a b e = ap suc (distinct_index d l s.1 i j (omega arith) (omega arith) e)

pub map_at : {A B : Type 0} (f : A → B) (l : List A) (j : ℕ) (d : A) (c : B) → j < length l → get_or (map f l) j c ≡ f (get_or l j d)
map_at f [] j d c h = absurd (omega arith)
map_at f (x ∷ l) zero d c h = refl
map_at f (x ∷ l) (suc j) d c h = map_at f l j d c (omega arith)

pub member_length : {A : Type 0} {x : A} (l : List A) → x ∈ l → 1 ≤ length l
member_length [] m = absurd (Memᴰ.not-nil m)
member_length (y ∷ l) m = omega arith

-- the test passes at each two places
pub each_two_places : {A : Type 0} (f : A → A → Bool) (l : List A) (d : A) → each_two f l ≡ true → (q r : ℕ) → q < r → r < length l → f (get_or l q d) (get_or l r d) ≡ true
unfolding each_two
each_two_places f [] d t q r h k = absurd (omega arith)
each_two_places f (x ∷ l) d t q zero h k = absurd (omega arith)
each_two_places f (x ∷ l) d t zero (suc r) h k = all_of (f x) l (and_left (all (f x) l) (each_two f l) t) (get_d_member l r d (omega arith))
each_two_places f (x ∷ l) d t (suc q) (suc r) h k = each_two_places f l d (and_right (all (f x) l) (each_two f l) t) q r (omega arith) (omega arith)

-- ---- lists of numbers that are the same

pub same_self : (l : List ℕ) → same l l ≡ true
unfolding same
same_self [] = refl
same_self (b ∷ l) = and_intro (eqb b b) _ (eq-eqb b b refl) (same_self l)

pub same_of : (a b : List ℕ) → same a b ≡ true → a ≡ b
unfolding same
same_of [] [] e = refl
same_of [] (c ∷ b) e = never false e refl
same_of (x ∷ a) [] e = never false e refl
same_of (x ∷ a) (c ∷ b) e = ap₂ ◌∷◌ (eqb-true x c (and_left (eqb x c) (same a b) e)) (same_of a b (and_right (eqb x c) (same a b) e))

-- ---- as iterators give them: a range's numbers, and tests over a list

range_from : (a n : ℕ) → range_with_len a n ≡ from a n
unfolding from
range_from a zero = refl
range_from a (suc n) = ap (λ (l : List ℕ). a ∷ l) (ap (λ (k : ℕ). range_with_len k n) (add-one a) ∙ range_from (suc a) n)

pub range_below : (n : ℕ) → range_with_len 0 n ≡ below n
unfolding below
range_below n = range_from 0 n

pub any_list : {A : Type 0} (f : A → Bool) (l : List A) → list_any f l ≡ any f l
unfolding any
any_list f [] = refl
any_list f (x ∷ l) = ap (λ (t : Bool). f x || t) (any_list f l)

pub all_list : {A : Type 0} (f : A → Bool) (l : List A) → list_all f l ≡ all f l
unfolding all
all_list f [] = refl
all_list f (x ∷ l) = ap (λ (t : Bool). f x && t) (all_list f l)

pub all_same : {A : Type 0} (f g : A → Bool) (l : List A) → ((x : A) → f x ≡ g x) → all f l ≡ all g l
unfolding all
all_same f g [] h = refl
all_same f g (x ∷ l) h = ap₂ ◌&&◌ (h x) (all_same f g l h)

pub pointwise_same : (a b : List ℕ) → pointwise eqb a b ≡ same a b
unfolding same
pointwise_same [] [] = refl
pointwise_same [] (c ∷ b) = refl
pointwise_same (x ∷ a) [] = refl
pointwise_same (x ∷ a) (c ∷ b) = ap (λ (t : Bool). eqb x c && t) (pointwise_same a b)
