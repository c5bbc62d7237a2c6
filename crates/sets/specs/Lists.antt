-- Tests over lists that compute, and a list in an order. Assumes nothing.
use Rattle.std.specs.Prelude.{Bool, false, ◌&&◌, ◌||◌, ℕ, zero, suc, eqb}
use Rattle.std.proofs.Math.Bool.{true}
use mathlib.Core.List.{List, [], ◌∷◌, Memᴰ}

infix 20 ◌∈◌
abbrev pub ◌∈◌ : {A : Type 0} → A → List A → Type 0
x ∈ l = Memᴰ x l

module _ {A : Type 0} where
  unfoldable pub any : (A → Bool) → List A → Bool
  any f [] = false
  any f (x ∷ l) = f x || any f l

  unfoldable pub all : (A → Bool) → List A → Bool
  all f [] = true
  all f (x ∷ l) = f x && all f l

  -- those that pass the test, in their order
  unfoldable pub keep : (A → Bool) → List A → List A
  keep f [] = []
  keep f (x ∷ l) = elim (f x) [ true ↦ x ∷ keep f l | false ↦ keep f l ]

  -- the test passes at each two, the earlier first
  unfoldable pub each_two : (A → A → Bool) → List A → Bool
  unfolding all
  each_two f [] = true
  each_two f (x ∷ l) = all (f x) l && each_two f l

  -- x put into a list that stands in the order `first`, unless it is there
  unfoldable pub placed : (A → A → Bool) → A → List A → List A
  placed first x [] = x ∷ []
  placed first x (y ∷ l) = elim (first x y) [ true ↦ x ∷ y ∷ l | false ↦ elim (first y x) [ true ↦ y ∷ placed first x l | false ↦ y ∷ l ] ]

  -- the members of a list in the order `first`, each once
  unfoldable pub sorted : (A → A → Bool) → List A → List A
  unfolding placed
  sorted first [] = []
  sorted first (x ∷ l) = placed first x (sorted first l)

  -- x put before the first that comes after it, whether it is there or not
  unfoldable pub insert_by : (A → A → Bool) → A → List A → List A
  insert_by first x [] = x ∷ []
  insert_by first x (y ∷ l) = elim (first x y) [ true ↦ x ∷ y ∷ l | false ↦ y ∷ insert_by first x l ]

  -- each of a list put so among those of l, one after the other
  unfoldable pub insert_all : (A → A → Bool) → List A → List A → List A
  unfolding insert_by
  insert_all first l [] = l
  insert_all first l (x ∷ k) = insert_all first (insert_by first x l) k

-- i, i + 1, .., n of them
unfoldable pub from : ℕ → ℕ → List ℕ
from i zero = []
from i (suc n) = i ∷ from (suc i) n

-- the numbers below n, rising
unfoldable pub below : ℕ → List ℕ
unfolding from
below n = from zero n

-- two lists of numbers are the same
unfoldable pub same : List ℕ → List ℕ → Bool
same [] [] = true
same [] (c ∷ cs) = false
same (b ∷ bs) [] = false
same (b ∷ bs) (c ∷ cs) = eqb b c && same bs cs
