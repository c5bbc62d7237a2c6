-- Model of the code: the classes of the sets in a table by the frontier method (paper 004). The table stands in the order done, frontier, not yet visited;
-- a set of the frontier is compared with those not yet visited only, and what it touches moves up. What the classes are is proved of it
-- (proofs/Frontier.antt). Assumes nothing.
use Rattle.std.specs.Prelude.{true, false, List, map, ℕ, zero, suc, ◌-◌, ltb}
use Rattle.sets.specs.Lists.{below}
use Rattle.sets.specs.Sets.{union, lesser, lows}
use Rattle.sets.specs.Value.{row, store}
use Rattle.percolation.specs.Percolate.{overlap, Community, shown}

-- rows i and j change places
unfoldable pub swapped : List ℕ → ℕ → ℕ → List ℕ
unfolding row store
swapped A i j = store (store A i (row A j)) j (row A i)

-- a table and where its frontier ends
pub record Swept : Type 0 where
  pub table : List ℕ
  pub end : ℕ

abbrev pub swept : List ℕ → ℕ → Swept
swept A e = record { table = A; end = e }

-- the n rows from j on compared with the set s: each that shares k - 1 parts or more with it moves to the frontier's end e
unfoldable pub swept_from : ℕ → ℕ → ℕ → List ℕ → ℕ → ℕ → Swept
unfolding swapped overlap row
swept_from zero k s A e j = swept A e
swept_from (suc n) k s A e j = elim (overlap k s (row A j)) [ true ↦ swept_from n k s (swapped A e j) (suc e) (suc j) | false ↦ swept_from n k s A e (suc j) ]

-- the class that grows from a frontier: its table, where it ends, its smallest clique and its union so far
pub record Grown : Type 0 where
  pub table : List ℕ
  pub end : ℕ
  pub small : ℕ
  pub whole : ℕ

abbrev pub grown : List ℕ → ℕ → ℕ → ℕ → Grown
grown A e s u = record { table = A; end = e; small = s; whole = u }

-- the frontier from row f on, one set after the other, until it is done; n sets in all, and no more than d sets are taken
unfoldable pub grown_from : ℕ → ℕ → ℕ → Grown → ℕ → Grown
unfolding swept_from lesser lows union row
grown_from zero k n g f = g
grown_from (suc d) k n g f =
    elim (ltb f g.end) [
      | true ↦
          grown_from d k n
          (grown (swept_from (n - g.end) k (row g.table f) g.table g.end g.end).table
          (swept_from (n - g.end) k (row g.table f) g.table g.end g.end).end (lesser g.small (lows k (row g.table f)))
          (union g.whole (row g.table f)))
          (suc f)
      | false ↦ g
    ]

-- the class of row i, where the rows before it are done
unfoldable pub class_at : ℕ → ℕ → List ℕ → ℕ → Grown
unfolding grown_from lows row
class_at k n A i = grown_from (n - i) k n (grown A (suc i) (lows k (row A i)) (row A i)) i

-- the table of sets, and the smallest cliques and unions of the classes so far
pub record Classed : Type 0 where
  pub sets : List ℕ
  pub smallest : List ℕ
  pub unions : List ℕ
  pub count : ℕ

abbrev pub classed : List ℕ → List ℕ → List ℕ → ℕ → Classed
classed A m u c = record { sets = A; smallest = m; unions = u; count = c }

-- the classes of the rows from i on, and no more than d of them
unfoldable pub classed_from : ℕ → ℕ → ℕ → Classed → ℕ → Classed
unfolding class_at store
classed_from zero k n w i = w
classed_from (suc d) k n w i =
    elim (ltb i n) [
      | true ↦
          classed_from d k n
          (classed (class_at k n w.sets i).table (store w.smallest w.count (class_at k n w.sets i).small)
          (store w.unions w.count (class_at k n w.sets i).whole) (suc w.count))
          (class_at k n w.sets i).end
      | false ↦ w
    ]

-- all classes of the first n rows
unfoldable pub classed_all : ℕ → ℕ → List ℕ → List ℕ → List ℕ → Classed
unfolding classed_from
classed_all k n A m u = classed_from n k n (classed A m u 0) 0

-- the sets in the first n rows of a table
abbrev pub first_rows : ℕ → List ℕ → List ℕ
first_rows n A = map (row A) (below n)

-- what stands in the rows of the classes: the smallest clique and the union of each
abbrev pub shown_classes : Classed → List Community
shown_classes w = map (λ c. shown (row w.smallest c) (row w.unions c)) (below w.count)
