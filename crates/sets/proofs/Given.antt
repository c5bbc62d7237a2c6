-- What an iterator over the parts of a set gives, by the set of those that are left. Its `next` promises `rest s ≡ q ∷ rest t` where it gives q, and
-- `rest s ≡ []` where it gives none; a caller cites these laws at that. Assumes nothing.
use mathlib.Core.Bool.{Bool, true, false, cond}
use mathlib.Core.List.Memᴰ
use mathlib.Core.List.{List, [], ◌∷◌}
use mathlib.Core.Path.{◌≡◌, refl, sym, ap, ◌∙◌, subst}
use Prim.Native.Nat.{ℕ, ◌^◌, ◌<◌}
use native.Mathlib.Omega.{arith}
use borrow.Author.Tests.{eqb-false, eq-eqb, ne_eqb}
use lib.Dec.{eqb}
use Rattle.sets.specs.declared.walk.Iter.{Iter}
use Rattle.sets.specs.Lists.{◌∈◌}
use Rattle.sets.specs.Rest.{left_of, rest}
use Rattle.sets.specs.Sets.{has, out, lowest, members}
use Rattle.sets.specs.Value.{width}
use Rattle.sets.proofs.Laws.{has_empty, has_lt, out_lt, out_less, ext}
use Rattle.sets.proofs.Members.{members_none, members_next, member_in, in_member}
use Rattle.sets.proofs.Tests.{never, iff}

pub left_lt : (s : Iter) → left_of s < 2 ^ width
unfolding left_of
left_lt s = s.fits

pub rest_is : (s : Iter) → rest s ≡ members width (left_of s)
unfolding rest
rest_is s = refl

-- a set is told by its members
pub members_same : (w s t : ℕ) → s < 2 ^ w → t < 2 ^ w → members w s ≡ members w t → s ≡ t
members_same w s t a b e = ext s t (λ q. iff (has q s) (has q t) (λ h. over s t a e q h) (λ h. over t s b (sym e) q h))
  where
    over : (s t : ℕ) → s < 2 ^ w → members w s ≡ members w t → (q : ℕ) → has q s ≡ true → has q t ≡ true
    over s t a e q h = (in_member w t q (subst (λ (l : List ℕ). q ∈ l) e (member_in w s q (has_lt w q s a h) h))).1

-- ---- where none is given

module _ (s : Iter) (e : rest s ≡ []) where
  pub none_left : left_of s ≡ 0
  unfolding rest
  none_left = members_same width (left_of s) 0 (left_lt s) (omega arith) (e ∙ sym (members_none width))

  -- as `is_empty` says it
  pub none_empty : eqb (left_of s) 0 ≡ true
  none_empty = eq-eqb (left_of s) 0 none_left

-- ---- where q is given

module _ (s t : Iter) (q : ℕ) (e : rest s ≡ q ∷ rest t) where
  pub given_next : members width (left_of s) ≡ q ∷ members width (left_of t)
  unfolding rest
  given_next = e

  pub given_part : (q < width) × (has q (left_of s) ≡ true)
  given_part = in_member width (left_of s) q (rw given_next (Memᴰ.head refl))

  -- as `is_empty` says it
  pub given_some : eqb (left_of s) 0 ≡ false
  given_some = ne_eqb (left_of s) 0 (λ z. never (has q 0) (ap (has q) (sym z) ∙ given_part.1) (has_empty q))

  peeled : lowest (left_of s) ∷ members width (out (lowest (left_of s)) (left_of s)) ≡ q ∷ members width (left_of t)
  peeled = sym (members_next width (left_of s) (eqb-false (left_of s) 0 given_some) (left_lt s)) ∙ given_next

  pub given_low : q ≡ lowest (left_of s)
  given_low = let p = peeled in cc

  -- as `lowest` says it
  pub given_lowest : q ≡ cond (eqb (left_of s) 0) width (lowest (left_of s))
  given_lowest = given_low ∙ sym (ap (λ (b : Bool). cond b width (lowest (left_of s))) given_some)

  -- as `without` says it
  pub given_out : left_of t ≡ out q (left_of s)
  given_out =
      let p = peeled in
      let m : members width (left_of t) ≡ members width (out (lowest (left_of s)) (left_of s)) = cc in
      members_same width (left_of t) (out (lowest (left_of s)) (left_of s)) (left_lt t) (out_lt width (lowest (left_of s)) (left_of s) (left_lt s)) m
      ∙ ap (λ (x : ℕ). out x (left_of s)) (sym given_low)

  pub given_less : left_of t < left_of s
  given_less = rw given_out (out_less q (left_of s) given_part.1)
