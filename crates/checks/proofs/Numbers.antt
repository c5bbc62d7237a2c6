-- The first of 6 to 9 that applies to a link, case by case, and what it says of the link's check. Assumes nothing.
use mathlib.Core.Path.{◌≡◌, refl, sym, ap, ◌∙◌}
use mathlib.Core.Bool.{Bool, true, false, cond, not}
use mathlib.Core.List.{[], List, ◌∷◌}
use Prim.Native.Nat.{ℕ, zero, suc, ◌≤◌, ◌<◌}
use native.Mathlib.Omega.{arith}
use lib.Dec.{eqb, ltb}
use borrow.Author.Tests.{eq-eqb, ne_eqb, lt-ltb, le-ltb}
use Rattle.answers.specs.Verdict.{Verdict, accepted, refused, ◌then◌, unless}
use Rattle.sets.specs.Sets.{has}
use Rattle.sets.specs.Value.{width, row}
use Rattle.percolation.specs.Links.{Link, link, linked}
use Rattle.percolation.specs.Steps.{good_parts, rises, check_link}
use Rattle.percolation.proofs.Accepted.{good_parts_lem}
use Rattle.checks.specs.Neighbours.{Neighbours, last_weight}
use Rattle.checks.specs.Model.{link_number}

-- a part check looks at no weight
pub parts_alone : (p low high v w : ℕ) → good_parts p (link low high v) ≡ good_parts p (link low high w)
unfolding good_parts
parts_alone p low high v w = refl

module _ (p : ℕ) (R : List ℕ) (b : ℕ) (l : Link) where
  pub number_6 : good_parts p l ≡ false → 6 ≡ link_number p R b l
  unfolding link_number
  number_6 e = rw e refl

  module _ (e : good_parts p l ≡ true) where
    pub number_7 : l.weight ≡ 0 → 7 ≡ link_number p R b l
    unfolding link_number
    number_7 f = rw (e, eq-eqb l.weight 0 f) refl

    module _ (f : l.weight ≡ 0 → ⊥) where
      pub number_8 : b < l.weight → 8 ≡ link_number p R b l
      unfolding link_number
      number_8 g = rw (e, ne_eqb l.weight 0 f, lt-ltb b l.weight g) refl

      module _ (g : l.weight ≤ b) where
        pub number_9 : has l.high (row R l.low) ≡ true → 9 ≡ link_number p R b l
        unfolding link_number
        number_9 h = rw (e, ne_eqb l.weight 0 f, le-ltb b l.weight g, h) refl

        pub number_0 : has l.high (row R l.low) ≡ false → 0 ≡ link_number p R b l
        unfolding link_number
        number_0 h = rw (e, ne_eqb l.weight 0 f, le-ltb b l.weight g, h) refl

-- ---- the number is the verdict on the link

-- a number that is not 0 refuses
unfoldable pub numbered : ℕ → ℕ → Verdict
numbered zero a = accepted
numbered (suc n) a = refused (suc n) a

pub numbered_0 : (n a : ℕ) → n ≡ 0 → numbered n a ≡ accepted
unfolding numbered
numbered_0 n a e = ap (λ (m : ℕ). numbered m a) e

pub numbered_not : (n a : ℕ) → (n ≡ 0 → ⊥) → numbered n a ≡ refused n a
unfolding numbered
numbered_not zero a h = absurd (h refl)
numbered_not (suc n) a h = refl

-- the number by its four tests
abbrev number_of : Bool → Bool → Bool → Bool → ℕ
number_of g z r x = cond g (cond z 7 (cond r 8 (cond x 9 0))) 6

by_number : (g z r x : Bool) (a : ℕ)
    → (unless g 6 a then unless (not z) 7 a then unless (not r) 8 a then unless (not x) 9 a) ≡ numbered (number_of g z r x) a
unfolding numbered unless ◌then◌
by_number false z r x a = refl
by_number true true r x a = refl
by_number true false true x a = refl
by_number true false false true a = refl
by_number true false false false a = refl

-- a weight rises over the last one; with no link before, over the largest there is
rises_last : (L : List Link) (l : Link) → l.weight < 65536 → rises L l ≡ ltb (last_weight L) l.weight
unfolding rises last_weight
rises_last [] l h = sym (le-ltb 65535 l.weight (omega arith))
rises_last (b ∷ []) l h = refl
rises_last (b ∷ c ∷ L) l h = rises_last (c ∷ L) l h

-- the rows need only be right where the parts are
same_number : (g z r x y : Bool) → (g ≡ true → x ≡ y) → number_of g z r x ≡ number_of g z r y
same_number true z r x y h = ap (number_of true z r) (h refl)
same_number false z r x y h = refl

pub link_says : (p : ℕ) (L : List Link) (R : List ℕ) (l : Link) (a : ℕ) → p ≤ width → Neighbours L R → l.weight < 65536
    → check_link p L l a ≡ numbered (link_number p R (last_weight L) l) a
unfolding check_link link_number
link_says p L R l a w n h =
    let e = rises_last L l h in
    ap (λ (r : Bool). unless (good_parts p l) 6 a then unless (not (eqb l.weight 0)) 7 a then unless (not r) 8 a then unless (not (linked L l.low l.high)) 9 a) e
    ∙ by_number (good_parts p l) (eqb l.weight 0) (ltb (last_weight L) l.weight) (linked L l.low l.high) a
    ∙ ap (λ (m : ℕ). numbered m a)
    (same_number (good_parts p l) (eqb l.weight 0) (ltb (last_weight L) l.weight) (linked L l.low l.high) (has l.high (row R l.low))
    (λ g. let k = good_parts_lem p l g in sym (n.near l.low l.high (omega (arith, k.0, k.1)) (omega (arith, k.1)))))

-- a link with number 0 has good parts
pub number_parts : (p : ℕ) (R : List ℕ) (b : ℕ) (l : Link) → link_number p R b l ≡ 0 → good_parts p l ≡ true
unfolding link_number
number_parts p R b l e = go (good_parts p l) _ e
  where
    go : (g : Bool) (x : ℕ) → cond g x 6 ≡ 0 → g ≡ true
    go true x h = refl
    go false x h = let z : ⊥ = omega arith in absurd z
