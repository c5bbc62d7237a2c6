-- Tests, as equations with true and false. Assumes nothing.
use mathlib.Core.Bool.{Bool, true, false, true≢false, false≢true, cond, not, ◌&&◌, ◌||◌}
use mathlib.Core.Path.{◌≡◌, refl, sym, ap, subst}
use mathlib.Core.Logic.{◌⊎◌, inl, inr}
use Prim.Native.Nat.{ℕ, ◌+◌, ◌≤◌, ◌<◌}
use native.Mathlib.Omega.{arith}
use borrow.Author.Tests.{ltb-true, ltb-false, eqb-true, eqb-false}
use lib.Dec.{eqb, ltb}

pub never : {A : Type 0} (x : Bool) → x ≡ true → x ≡ false → A
never x p q = let z : ◌≡◌ {A = ℕ} 0 1 = cc in absurd (omega arith)

pub split : (x : Bool) → (x ≡ true) ⊎ (x ≡ false)
split true = inl refl
split false = inr refl

pub not_so : (x : Bool) → (x ≡ true → ⊥) → x ≡ false
not_so true f = absurd (f refl)
not_so false f = refl

-- two tests that pass together are one
pub iff : (x y : Bool) → (x ≡ true → y ≡ true) → (y ≡ true → x ≡ true) → x ≡ y
iff true y f g = sym (f refl)
iff false true f g = g refl
iff false false f g = refl

pub and_intro : (x y : Bool) → x ≡ true → y ≡ true → x && y ≡ true
and_intro true y p q = q
and_intro false y p q = p

pub and_left : (x y : Bool) → x && y ≡ true → x ≡ true
and_left true y e = refl
and_left false y e = e

pub and_right : (x y : Bool) → x && y ≡ true → y ≡ true
and_right true y e = e
and_right false true e = refl
and_right false false e = e

pub no_and : (x : Bool) → x && false ≡ false
no_and true = refl
no_and false = refl

pub or_left : (x y : Bool) → x ≡ true → x || y ≡ true
or_left true y e = refl
or_left false y e = never false e refl

pub or_right : (x y : Bool) → y ≡ true → x || y ≡ true
or_right true y e = refl
or_right false y e = e

pub or_cases : (x y : Bool) → x || y ≡ true → (x ≡ true) ⊎ (y ≡ true)
or_cases true y e = inl refl
or_cases false y e = inr e

pub false_not : (x : Bool) → x ≡ false → not x ≡ true
false_not x e = ap not e

pub and_absorb : (x y : Bool) → (x ≡ true → y ≡ true) → x && y ≡ x
and_absorb true y f = f refl
and_absorb false y f = refl

pub or_absorb : (x y : Bool) → (y ≡ true → x ≡ true) → x || y ≡ x
or_absorb true y f = refl
or_absorb false true f = sym (f refl)
or_absorb false false f = refl

pub lt_or_le : (a b : ℕ) → (a < b) ⊎ (b ≤ a)
lt_or_le a b = go (ltb a b) refl
  where
    go : (t : Bool) → ltb a b ≡ t → (a < b) ⊎ (b ≤ a)
    go true e = inl (ltb-true a b e)
    go false e = inr (ltb-false a b e)

pub eq_or_ne : (a b : ℕ) → (a ≡ b) ⊎ (eqb a b ≡ false)
eq_or_ne a b = go (eqb a b) refl
  where
    go : (t : Bool) → eqb a b ≡ t → (a ≡ b) ⊎ (eqb a b ≡ false)
    go true e = inl (eqb-true a b e)
    go false e = inr e

pub same_or_not : (a b : ℕ) → (a ≡ b) ⊎ (a ≡ b → ⊥)
same_or_not a b = go (eq_or_ne a b)
  where
    go : (a ≡ b) ⊎ (eqb a b ≡ false) → (a ≡ b) ⊎ (a ≡ b → ⊥)
    go (inl e) = inl e
    go (inr e) = inr (eqb-false a b e)

-- what holds below q and at q holds below q + 1
pub one_more : (P : ℕ → Type 0) (q : ℕ) → ((i : ℕ) → i < q → P i) → P q → (i : ℕ) → i < q + 1 → P i
one_more P q h k i l = go (same_or_not i q)
  where
    go : (i ≡ q) ⊎ (i ≡ q → ⊥) → P i
    go (inl e) = subst P (sym e) k
    go (inr n) = h i (omega arith)

-- ---- what a test that is known decides

pub and_stop : (a b : Bool) → a ≡ false → false ≡ a && b
and_stop true b e = absurd (true≢false e)
and_stop false b e = refl

pub and_go : (a b : Bool) {r : Bool} → a ≡ true → r ≡ b → r ≡ a && b
and_go true b e f = f
and_go false b e f = absurd (false≢true e)

module _ {A : Type 0} where
  pub cond_go : (b : Bool) (x y : A) {r : A} → b ≡ true → r ≡ x → r ≡ cond b x y
  cond_go true x y e f = f
  cond_go false x y e f = absurd (false≢true e)

  pub cond_stop : (b : Bool) (x y : A) {r : A} → b ≡ false → r ≡ y → r ≡ cond b x y
  cond_stop true x y e f = absurd (true≢false e)
  cond_stop false x y e f = f
