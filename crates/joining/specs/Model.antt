-- Model of the code: path halving, on the list of entries. What that means is proved of it (proofs/Follow.antt). Assumes nothing.
use Rattle.std.specs.Prelude.{true, false, List, ℕ, zero, suc, ltb, get_or, set}

-- path halving: each other slot on the way from r gets its entry's entry
unfoldable pub halved_from : ℕ → List ℕ → ℕ → List ℕ
halved_from zero es r = es
halved_from (suc n) es r =
    elim (ltb (get_or es r r) r) [
      | true ↦ elim (ltb (get_or es (get_or es r r) (get_or es r r)) (get_or es r r)) [
        | true ↦ halved_from n (set es r (get_or es (get_or es r r) (get_or es r r))) (get_or es (get_or es r r) (get_or es r r))
        | false ↦ es
      ]
      | false ↦ es
    ]

unfoldable pub halved : List ℕ → ℕ → List ℕ
unfolding halved_from
halved es i = halved_from i es i
