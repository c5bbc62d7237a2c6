-- Model of the code: rows with a link more, and the first of 6 to 9 that applies to a link. What that means is proved of it (proofs/Near.antt, Numbers.antt).
-- Assumes nothing.
use Rattle.std.specs.Prelude.{cond, List, ℕ, eqb, ltb}
use Rattle.sets.specs.Sets.{has, into}
use Rattle.sets.specs.Value.{width, row, store}
use Rattle.percolation.specs.Links.{Link, link}
use Rattle.percolation.specs.Steps.{good_parts}
use Rattle.checks.specs.declared.Link.{Link as Row}

-- a link as the code holds it, whatever the width of its part numbers
abbrev pub as_link : Row ℕ → Link
as_link r = link r.low r.high r.weight

-- b among the neighbours of a, and each end of a link among those of the other
unfoldable pub with_neighbour : List ℕ → ℕ → ℕ → List ℕ
unfolding row store into
with_neighbour R a b = store R a (cond (ltb b width) (into b (row R a)) (row R a))

unfoldable pub marked : List ℕ → ℕ → ℕ → List ℕ
unfolding with_neighbour
marked R a b = with_neighbour (with_neighbour R a b) b a

-- the first of 6 to 9 that applies to the link l after links whose rows are R and whose last weight is w; 0 where none does
unfoldable pub link_number : ℕ → List ℕ → ℕ → Link → ℕ
unfolding good_parts has row
link_number p R w l =
    cond (good_parts p l) (cond (eqb l.weight 0) 7 (cond (ltb w l.weight) 8 (cond (has l.high (row R l.low)) 9 0))) 6
