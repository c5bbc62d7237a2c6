-- Joining entries, the parents of a union-find, and where following them ends. Assumes nothing.
use Rattle.std.specs.Prelude.{◌≡◌, true, false, List, ℕ, zero, suc, ltb, get_or}

-- following joining entries (the union-find parents) from slot i ends at slot r, whose entry is its own number
pub data Ends (es : List ℕ) : ℕ → ℕ → Type 0 where
  own : {i : ℕ} → get_or es i 0 ≡ i → Ends es i i
  on : {i r : ℕ} → Ends es (get_or es i 0) r → Ends es i r

-- at most n entries followed from slot i, each only where it is below its slot
unfoldable pub follow : ℕ → List ℕ → ℕ → ℕ
follow zero es i = i
follow (suc n) es i = elim (ltb (get_or es i i) i) [ true ↦ follow n es (get_or es i i) | false ↦ i ]

-- where following joining entries from slot i ends (`root_reached`, `reached_root` of proofs/Follow.antt): each step goes down, so that i steps are enough
unfoldable pub root_of : List ℕ → ℕ → ℕ
unfolding follow
root_of es i = follow i es i
