-- Tests over lists of bytes, from one place on. Assumes nothing.
use mathlib.Core.Path.{◌≡◌, refl, ap}
use mathlib.Core.Bool.{Bool, true, ◌&&◌}
use mathlib.Core.List.{List, [], ◌∷◌}
use Prim.Native.Nat.{ℕ, ◌+◌, ◌-◌}
use native.Mathlib.Omega.{arith}
use lib.ListN.{take, drop}
use Rattle.std.specs.List.{list_all}
use Rattle.sets.specs.Lists.{all}
use Rattle.sets.proofs.Tests.{and_intro, and_left, and_right}

-- ---- a test of each

pub all_sub : {A : Type 0} (f g : A → Bool) (l : List A) → ((x : A) → f x ≡ true → g x ≡ true) → all f l ≡ true → all g l ≡ true
unfolding all
all_sub f g [] h e = refl
all_sub f g (x ∷ l) h e = and_intro (g x) (all g l) (h x (and_left (f x) (all f l) e)) (all_sub f g l h (and_right (f x) (all f l) e))

pub all_list : {A : Type 0} (f : A → Bool) (l : List A) → list_all f l ≡ all f l
unfolding all
all_list f [] = refl
all_list f (x ∷ l) = ap (λ (b : Bool). f x && b) (all_list f l)

-- ---- a part of a list

pub part_take : (a n : ℕ) (l : List ℕ) → take (a + n - a) (drop a l) ≡ take n (drop a l)
part_take a n l = ap (λ (m : ℕ). take m (drop a l)) (let e : a + n - a ≡ n = omega arith in e)
