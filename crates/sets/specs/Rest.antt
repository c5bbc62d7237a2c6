-- What an iterator over the parts of a set has yet to give: the set of those parts, and their list. Assumes nothing.
use Rattle.std.specs.Prelude.{◌≡◌, ℕ, List, [], ◌∷◌, Option, MatchOption}
use Rattle.sets.specs.declared.Set.{Set}
use Rattle.sets.specs.declared.walk.Iter.{Iter}
use Rattle.sets.specs.Sets.{members}
use Rattle.sets.specs.Value.{width, num}

unfoldable pub left_of : Iter → ℕ
unfolding num
left_of p = num p.set

-- rising
unfoldable pub rest : Iter → List ℕ
unfolding left_of members
rest p = members width (left_of p)

-- the first of those that s has yet to give, with the set of the others, and t has yet to give these; or none where s has given all
abbrev pub GivesWithRest : Iter → Option (ℕ × Set) → Iter → Type 0
GivesWithRest s r t = MatchOption r ((rest s ≡ []) × (rest t ≡ [])) (λ x. (rest s ≡ x.0 ∷ rest t) × (num x.1 ≡ left_of t))
