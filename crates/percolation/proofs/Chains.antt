-- `joined_by R` passes exactly where a chain exists, for every R that holds both ways round; what one member more joins. Assumes nothing.
use mathlib.Core.Path.{◌≡◌, refl, sym, ap, ◌∙◌, subst}
use mathlib.Core.Logic.{◌⊎◌, inl, inr}
use mathlib.Core.Bool.{Bool, true, false, not, ◌&&◌}
use mathlib.Core.List.Memᴰ
use mathlib.Core.List.{List, [], ◌∷◌, flatten}
use Prim.Native.Nat.{ℕ}
use lib.Dec.{eqb}
use borrow.Author.Tests.{not-true}
use Rattle.sets.specs.Lists.{◌∈◌, any, keep}
use Rattle.sets.proofs.Tests.{never, split, iff, and_intro, and_left, and_right, false_not}
use Rattle.sets.proofs.ListLaws.{Holds, any_at, any_of, elem_at, elem_of, keep_at, keep_of, flat_at, flat_of}
use Rattle.sets.proofs.Laws.{meet_comm}
use Rattle.percolation.specs.Percolate.{adjacent, overlap, Chain, alone, next, touches, take_in, classes, joined_by, joined}

-- R holds both ways round
abbrev pub Symmetric : (ℕ → ℕ → Bool) → Type 0
Symmetric R = (a b : ℕ) → R a b ≡ true → R b a ≡ true

pub adjacent_sym : (k : ℕ) → Symmetric (adjacent k)
unfolding adjacent
adjacent_sym k a b t = rw (meet_comm b a) t

pub overlap_sym : (k : ℕ) → Symmetric (overlap k)
unfolding overlap
overlap_sym k a b t = rw (meet_comm b a) t

-- ---- chains

pub first_in : {R : ℕ → ℕ → Bool} {F : List ℕ} {a b : ℕ} → Chain R F a b → a ∈ F
first_in (alone m) = m
first_in (next m t c) = m

pub last_in : {R : ℕ → ℕ → Bool} {F : List ℕ} {a b : ℕ} → Chain R F a b → b ∈ F
last_in (alone m) = m
last_in (next m t c) = last_in c

pub chain_trans : {R : ℕ → ℕ → Bool} {F : List ℕ} {a b c : ℕ} → Chain R F a b → Chain R F b c → Chain R F a c
chain_trans (alone m) d = d
chain_trans (next m t c) d = next m t (chain_trans c d)

pub chain_sym : {R : ℕ → ℕ → Bool} {F : List ℕ} {a b : ℕ} → Symmetric R → Chain R F a b → Chain R F b a
chain_sym y (alone m) = alone m
chain_sym y (next {a = a} {b = b} m t c) = chain_trans (chain_sym y c) (next (first_in c) (y a b t) (alone m))

-- a chain of a family is a chain of every family that has its members
pub chain_mono : {R : ℕ → ℕ → Bool} {F G : List ℕ} {a b : ℕ} → Holds G F → Chain R F a b → Chain R G a b
chain_mono s (alone {a = a} m) = alone (s a m)
chain_mono s (next {a = a} m t c) = next (s a m) t (chain_mono s c)

-- ---- what the classes C of F have: members of a class are joined by chains (Joins); each member of F is in a class (Covers);
-- a class has whatever of F is in R with one of its members (Closed)

unfoldable Joins : (ℕ → ℕ → Bool) → List ℕ → List (List ℕ) → Type 0
Joins R F C = (c : List ℕ) → c ∈ C → (x y : ℕ) → x ∈ c → y ∈ c → Chain R F x y

unfoldable Covers : List ℕ → List (List ℕ) → Type 0
Covers F C = (x : ℕ) → x ∈ F → (c : List ℕ) × c ∈ C × x ∈ c

unfoldable Closed : (ℕ → ℕ → Bool) → List ℕ → List (List ℕ) → Type 0
Closed R F C = (c : List ℕ) → c ∈ C → (x y : ℕ) → x ∈ c → R x y ≡ true → y ∈ F → y ∈ c

module _ (R : ℕ → ℕ → Bool) (both : Symmetric R) where
  touched : (m : ℕ) (c : List ℕ) → touches R m c ≡ true → (y : ℕ) × y ∈ c × (R m y ≡ true)
  unfolding touches
  touched m c t = any_of (R m) c t

  touch : (m : ℕ) {y : ℕ} (c : List ℕ) → y ∈ c → R m y ≡ true → touches R m c ≡ true
  unfolding touches
  touch m c n t = any_at (R m) c n t

  module _ (m : ℕ) (F : List ℕ) (C : List (List ℕ)) where
    more : Holds (m ∷ F) F
    more x n = Memᴰ.tail n

    hub : Joins R F C → (x : ℕ) → x ∈ (m ∷ flatten (keep (touches R m) C)) → Chain R (m ∷ F) m x
    unfolding Joins
    hub j x n = go (Memᴰ.cases_cons n)
      where
        go : (x ≡ m) ⊎ x ∈ flatten (keep (touches R m) C) → Chain R (m ∷ F) m x
        go (inl e) = subst (λ (z : ℕ). Chain R (m ∷ F) m z) (sym e) (alone (Memᴰ.head refl))
        go (inr r) =
            let f = flat_of (keep (touches R m) C) r in
            let g = keep_of (touches R m) C f.1 in
            let y = touched m f.0 g.1 in
            next (Memᴰ.head refl) y.2 (chain_mono more (j f.0 g.0 y.0 x y.1 f.2))

    take_in_joins : Joins R F C → Joins R (m ∷ F) (take_in R m C)
    unfolding take_in Joins
    take_in_joins j c n x y p q = go (Memᴰ.cases_cons n)
      where
        go : (c ≡ m ∷ flatten (keep (touches R m) C)) ⊎ c ∈ keep (λ d. not (touches R m d)) C → Chain R (m ∷ F) x y
        go (inl e) = chain_trans (chain_sym both (hub j x (subst (λ (z : List ℕ). x ∈ z) e p))) (hub j y (subst (λ (z : List ℕ). y ∈ z) e q))
        go (inr r) = chain_mono more (j c (keep_of (λ d. not (touches R m d)) C r).0 x y p q)

    take_in_covers : Covers F C → Covers (m ∷ F) (take_in R m C)
    unfolding take_in Covers
    take_in_covers v x n = go (Memᴰ.cases_cons n)
      where
        into : (c : List ℕ) → c ∈ C → x ∈ c → (touches R m c ≡ true) ⊎ (touches R m c ≡ false) → (d : List ℕ) × d ∈ take_in R m C × x ∈ d
        into c p q (inl t) = (_, Memᴰ.head refl, Memᴰ.tail (flat_at (keep (touches R m) C) (keep_at (touches R m) C p t) q))
        into c p q (inr t) = (c, Memᴰ.tail (keep_at (λ d. not (touches R m d)) C p (false_not (touches R m c) t)), q)

        go : (x ≡ m) ⊎ x ∈ F → (c : List ℕ) × c ∈ take_in R m C × x ∈ c
        go (inl e) = (_, Memᴰ.head refl, Memᴰ.head e)
        go (inr r) = let f = v x r in into f.0 f.1 f.2 (split (touches R m f.0))

    take_in_closed : Covers F C → Closed R F C → Closed R (m ∷ F) (take_in R m C)
    unfolding take_in Covers Closed
    take_in_closed v h c n x y p t q = go (Memᴰ.cases_cons n)
      where
        new : List ℕ
        new = m ∷ flatten (keep (touches R m) C)

        -- of a class that the new member touches, each member is in the new class
        touching : (d : List ℕ) (z : ℕ) → d ∈ C → touches R m d ≡ true → z ∈ d → z ∈ new
        touching d z e s w = Memᴰ.tail (flat_at (keep (touches R m) C) (keep_at (touches R m) C e s) w)

        -- x is the new member itself
        from_new : x ≡ m → (y ≡ m) ⊎ y ∈ F → y ∈ new
        from_new e (inl w) = Memᴰ.head w
        from_new e (inr w) = let f = v y w in touching f.0 y f.1 (touch m f.0 f.2 (ap (λ (z : ℕ). R z y) (sym e) ∙ t)) f.2

        -- x is a member of a class that the new one touches
        from_old : (d : List ℕ) → d ∈ C → touches R m d ≡ true → x ∈ d → (y ≡ m) ⊎ y ∈ F → y ∈ new
        from_old d e s w (inl r) = Memᴰ.head r
        from_old d e s w (inr r) = touching d y e s (h d e x y w t r)

        in_new : (x ≡ m) ⊎ x ∈ flatten (keep (touches R m) C) → y ∈ new
        in_new (inl e) = from_new e (Memᴰ.cases_cons q)
        in_new (inr r) =
            let f = flat_of (keep (touches R m) C) r in
            let g = keep_of (touches R m) C f.1 in
            from_old f.0 g.0 g.1 f.2 (Memᴰ.cases_cons q)

        in_old : c ∈ C × (not (touches R m c) ≡ true) → (y ≡ m) ⊎ y ∈ F → y ∈ c
        in_old g (inl e) = never (touches R m c) (touch m c p (both x m (ap (R x) (sym e) ∙ t))) (not-true (touches R m c) g.1)
        in_old g (inr r) = h c g.0 x y p t r

        go : (c ≡ new) ⊎ c ∈ keep (λ d. not (touches R m d)) C → y ∈ c
        go (inl e) = subst (λ (z : List ℕ). y ∈ z) (sym e) (in_new (Memᴰ.cases_cons (subst (λ (z : List ℕ). x ∈ z) e p)))
        go (inr r) = in_old (keep_of (λ d. not (touches R m d)) C r) (Memᴰ.cases_cons q)

  classes_join : (F : List ℕ) → Joins R F (classes R F)
  unfolding classes Joins
  classes_join [] = λ c n. absurd (Memᴰ.not-nil n)
  classes_join (m ∷ F) = take_in_joins m F (classes R F) (classes_join F)

  classes_cover : (F : List ℕ) → Covers F (classes R F)
  unfolding classes Covers
  classes_cover [] = λ x n. absurd (Memᴰ.not-nil n)
  classes_cover (m ∷ F) = take_in_covers m F (classes R F) (classes_cover F)

  classes_closed : (F : List ℕ) → Closed R F (classes R F)
  unfolding classes Closed
  classes_closed [] = λ c n. absurd (Memᴰ.not-nil n)
  classes_closed (m ∷ F) = take_in_closed m F (classes R F) (classes_cover F) (classes_closed F)

  -- a class that has a chain's first member has its last
  walks : {F : List ℕ} {a b : ℕ} (c : List ℕ) → c ∈ classes R F → Chain R F a b → a ∈ c → b ∈ c
  unfolding Closed
  walks c n (alone m) p = p
  walks {F} c n (next {a = a} {b = b} m t d) p = walks c n d (classes_closed F c n a b p t (first_in d))

  pub joined_by_chain : (F : List ℕ) (a b : ℕ) → joined_by R F a b ≡ true → Chain R F a b
  unfolding joined_by Joins
  joined_by_chain F a b t =
      let r = any_of (λ c. any (eqb a) c && any (eqb b) c) (classes R F) t in
      classes_join F r.0 r.1 a b (elem_of a r.0 (and_left (any (eqb a) r.0) (any (eqb b) r.0) r.2))
      (elem_of b r.0 (and_right (any (eqb a) r.0) (any (eqb b) r.0) r.2))

  pub chain_joined_by : (F : List ℕ) (a b : ℕ) → Chain R F a b → joined_by R F a b ≡ true
  unfolding joined_by Covers
  chain_joined_by F a b d =
      let r = classes_cover F a (first_in d) in
      any_at (λ c. any (eqb a) c && any (eqb b) c) (classes R F) r.1
      (and_intro (any (eqb a) r.0) (any (eqb b) r.0) (elem_at r.0 r.2) (elem_at r.0 (walks r.0 r.1 d r.2)))

  -- being joined goes by the members of the family alone
  pub joined_by_same : (F G : List ℕ) → Holds G F → Holds F G → (a b : ℕ) → joined_by R F a b ≡ joined_by R G a b
  joined_by_same F G f g a b =
      iff (joined_by R F a b) (joined_by R G a b) (λ t. chain_joined_by G a b (chain_mono f (joined_by_chain F a b t)))
      (λ t. chain_joined_by F a b (chain_mono g (joined_by_chain G a b t)))

-- ---- the two halves for adjacent k-sets

pub joined_chain : (k : ℕ) (F : List ℕ) (a b : ℕ) → joined k F a b ≡ true → Chain (adjacent k) F a b
unfolding joined
joined_chain k F a b t = joined_by_chain (adjacent k) (adjacent_sym k) F a b t

pub chain_joined : (k : ℕ) (F : List ℕ) (a b : ℕ) → Chain (adjacent k) F a b → joined k F a b ≡ true
unfolding joined
chain_joined k F a b c = chain_joined_by (adjacent k) (adjacent_sym k) F a b c

pub joined_same : (k : ℕ) (F G : List ℕ) → Holds G F → Holds F G → (a b : ℕ) → joined k F a b ≡ joined k G a b
unfolding joined
joined_same k F G f g a b = joined_by_same (adjacent k) (adjacent_sym k) F G f g a b

-- ---- one member more

module _ (R : ℕ → ℕ → Bool) (both : Symmetric R) (m : ℕ) (F : List ℕ) where
  -- x is m, or a chain of F joins it to a member in R with m
  abbrev pub Reach : ℕ → Type 0
  Reach x = (x ≡ m) ⊎ ((y : ℕ) × (R m y ≡ true) × Chain R F y x)

  -- a chain with one member more: a chain without it, or both ends reach it
  pub chain_cons : {a b : ℕ} → Chain R (m ∷ F) a b → Chain R F a b ⊎ (Reach a × Reach b)
  chain_cons (alone {a = a} n) = go (Memᴰ.cases_cons n)
    where
      go : (a ≡ m) ⊎ a ∈ F → Chain R F a a ⊎ (Reach a × Reach a)
      go (inl e) = inr (inl e, inl e)
      go (inr r) = inl (alone r)
  chain_cons (next {a = a} {b = b} {c = c} n t d) = go (Memᴰ.cases_cons n) (chain_cons d)
    where
      back : a ∈ F → Reach b → Reach a
      back r (inl e) = inr (a, both a m (ap (R a) (sym e) ∙ t), alone r)
      back r (inr y) = inr (y.0, y.1, chain_trans y.2 (next (last_in y.2) (both a b t) (alone r)))

      go : (a ≡ m) ⊎ a ∈ F → Chain R F b c ⊎ (Reach b × Reach c) → Chain R F a c ⊎ (Reach a × Reach c)
      go (inl e) (inl f) = inr (inl e, inr (b, ap (λ (z : ℕ). R z b) (sym e) ∙ t, f))
      go (inl e) (inr h) = inr (inl e, h.1)
      go (inr r) (inl f) = inl (next r t f)
      go (inr r) (inr h) = inr (back r h.0, h.1)

  reach_chain : {x : ℕ} → Reach x → Chain R (m ∷ F) m x
  reach_chain {x} (inl e) = subst (λ (z : ℕ). Chain R (m ∷ F) m z) (sym e) (alone (Memᴰ.head refl))
  reach_chain (inr y) = next (Memᴰ.head refl) y.1 (chain_mono (λ z n. Memᴰ.tail n) y.2)

  pub cons_chain : {a b : ℕ} → Chain R F a b ⊎ (Reach a × Reach b) → Chain R (m ∷ F) a b
  cons_chain (inl c) = chain_mono (λ z n. Memᴰ.tail n) c
  cons_chain (inr h) = chain_trans (chain_sym both (reach_chain h.0)) (reach_chain h.1)
