-- The order of sets: strict and total; the lesser of two sets. Assumes nothing.
use mathlib.Core.Bool.{true, false}
use mathlib.Core.Logic.{◌⊎◌, inl, inr}
use mathlib.Core.Path.{◌≡◌, sym, ap, ◌∙◌, subst}
use Prim.Native.Nat.{ℕ}
use native.Mathlib.Nat.{le_refl}
use native.Mathlib.Omega.{arith}
use borrow.Author.Tests.{ltb-true, ltb-false, lt-ltb, le-ltb}
use Rattle.std.proofs.Common.{rules, Bool, cond, eqb}
use Rattle.std.specs.Ordering.{is_lt, nat_cmp}
use Rattle.sets.specs.declared.Set.{Set}
use Rattle.sets.specs.Sets.{before, lesser}
use Rattle.sets.specs.Value.{num}
use Rattle.sets.proofs.ListLaws.{Order, not_before}
use Rattle.sets.proofs.Tests.{split, never, not_so}

pub before_irrefl : (a : ℕ) → before a a ≡ false
unfolding before
before_irrefl a = le-ltb a a (le_refl a)

pub before_trans : (a b c : ℕ) → before a b ≡ true → before b c ≡ true → before a c ≡ true
unfolding before
before_trans a b c p q = lt-ltb a c (omega (arith, ltb-true a b p, ltb-true b c q))

-- not after and not before: the same
pub before_total : (a b : ℕ) → before a b ≡ false → before b a ≡ false → a ≡ b
unfolding before
before_total a b p q = omega (arith, ltb-false a b p, ltb-false b a q)

-- for whoever needs no more than these three
pub set_order : Order before
set_order = record { irrefl = before_irrefl; trans = before_trans; total = before_total }

-- ---- what `==`, `<` and `min` say of two sets, for a caller that compares them so

module _ (s t : Set) where
  pub equal_is : (r : Bool) → r ≡ eqb s.word t.word → r ≡ eqb (num s) (num t)
  unfolding num
  equal_is r e = e

  pub less_is : (r : Bool) → r ≡ is_lt (nat_cmp s.word t.word) → r ≡ before (num s) (num t)
  unfolding before num
  less_is r e = search rules

  pub lesser_is : (u : Set) → u ≡ cond (is_lt (nat_cmp t.word s.word)) t s → num u ≡ lesser (num s) (num t)
  unfolding before num lesser
  lesser_is u e = search rules

-- ---- the lesser of two sets

module _ (a b : ℕ) where
  lesser_second : before b a ≡ true → lesser a b ≡ b
  unfolding lesser
  lesser_second e = rw (lesser, e)

  lesser_first : before b a ≡ false → lesser a b ≡ a
  unfolding lesser
  lesser_first e = rw (lesser, e)

  -- it is one of them
  pub lesser_one : (P : ℕ → Type 0) → P a → P b → P (lesser a b)
  lesser_one P x y = go (split (before b a))
    where
      go : (before b a ≡ true) ⊎ (before b a ≡ false) → P (lesser a b)
      go (inl e) = subst P (sym (lesser_second e)) y
      go (inr e) = subst P (sym (lesser_first e)) x

  -- what is not before one of them is not before it
  pub lesser_left : (c : ℕ) → before c a ≡ false → before c (lesser a b) ≡ false
  lesser_left c h = go (split (before b a))
    where
      go : (before b a ≡ true) ⊎ (before b a ≡ false) → before c (lesser a b) ≡ false
      go (inl e) = ap (before c) (lesser_second e) ∙ not_so (before c b) (λ t. never (before c a) (set_order.trans c b a t e) h)
      go (inr e) = ap (before c) (lesser_first e) ∙ h

  pub lesser_right : (c : ℕ) → before c b ≡ false → before c (lesser a b) ≡ false
  lesser_right c h = go (split (before b a))
    where
      go : (before b a ≡ true) ⊎ (before b a ≡ false) → before c (lesser a b) ≡ false
      go (inl e) = ap (before c) (lesser_second e) ∙ h
      go (inr e) = ap (before c) (lesser_first e) ∙ not_before before set_order a b c e h
