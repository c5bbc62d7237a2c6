-- Model of the code: communities put in the order of their smallest cliques, and those that stand at the ends of slots. That these are the
-- communities of the family that the tables show is proved of it (proofs/Listed.antt). Assumes nothing.
use Rattle.std.specs.Prelude.{Bool, List, [], map, ℕ, eqb}
use Rattle.sets.specs.Lists.{keep, below, insert_all}
use Rattle.sets.specs.Sets.{before}
use Rattle.sets.specs.Value.{row}
use Rattle.percolation.specs.Percolate.{Community, shown}
use Rattle.slots.specs.Tables.{root_of}

-- the order of a listing: by smallest clique
abbrev pub by_small : Community → Community → Bool
by_small c d = before c.small d.small

-- the slots below n that are their own ends
unfoldable pub root_slots : List ℕ → ℕ → List ℕ
unfolding keep below root_of
root_slots es n = keep (λ i. eqb (root_of es i) i) (below n)

-- what stands at slot i of the smallest cliques and unions
unfoldable pub stands_at : List ℕ → List ℕ → ℕ → Community
unfolding row
stands_at ms us i = shown (row ms i) (row us i)

-- what stands at the ends of the n used slots, by smallest clique
unfoldable pub listed : List ℕ → List ℕ → List ℕ → ℕ → List Community
unfolding insert_all before root_slots stands_at
listed es ms us n = insert_all by_small [] (map (stands_at ms us) (root_slots es n))
