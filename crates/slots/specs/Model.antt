-- Model of the code: what each step does to the four tables, on lists. What that means is proved of it (crate slots_theory). Assumes nothing.
use Rattle.std.specs.Prelude.{true, false, ◌&&◌, [], List, ◌∷◌, ℕ, zero, suc, min, max, eqb, ltb, set}
use Rattle.sets.specs.Sets.{union, out, lesser, lowest, members}
use Rattle.sets.specs.Value.{width, row, store}
use Rattle.joining.specs.Entries.{root_of}
use Rattle.joining.specs.Model.{halved}
use Rattle.slots.specs.Tables.{Tables, tables, room}

-- the first of the n slots from i on that holds s, else the slot after them
unfoldable pub find_from : ℕ → List ℕ → ℕ → ℕ → ℕ
find_from zero sets i s = i
find_from (suc n) sets i s = elim (eqb (row sets i) s) [ true ↦ i | false ↦ find_from n sets (suc i) s ]

-- the used slot that holds s; where there is none, the first that is not used
unfoldable pub find : List ℕ → ℕ → ℕ → ℕ
unfolding find_from
find sets used s = find_from used sets 0 s

-- the lower and the higher of the roots of slots i and j
unfoldable pub low_root : List ℕ → ℕ → ℕ → ℕ
unfolding root_of
low_root es i j = min (root_of es i) (root_of es j)

unfoldable pub high_root : List ℕ → ℕ → ℕ → ℕ
unfolding root_of
high_root es i j = max (root_of es i) (root_of es j)

-- row lo becomes f of rows lo and hi
unfoldable pub merged : (ℕ → ℕ → ℕ) → List ℕ → ℕ → ℕ → List ℕ
unfolding row store
merged f xs lo hi = store xs lo (f (row xs lo) (row xs hi))

-- the classes of slots i and j become one: the lower root stays one, and gets the lesser smallest clique and the union of both
unfoldable pub joined : Tables → ℕ → ℕ → Tables
unfolding halved low_root high_root lesser merged union
joined T i j =
    tables T.sets
    (set (halved (halved T.entries i) j) (high_root T.entries i j) (low_root T.entries i j))
    (merged lesser T.smallest (low_root T.entries i j) (high_root T.entries i j))
    (merged union T.unions (low_root T.entries i j) (high_root T.entries i j))
    T.used

-- the set s of the clique Q in the first slot that is not used, a class of its own
abbrev pub appended : Tables → ℕ → ℕ → Tables
appended T s Q =
    tables (store T.sets T.used s) (set T.entries T.used T.used) (store T.smallest T.used Q) (store T.unions T.used Q) (suc T.used)

-- a slot for s, a part of the clique Q: the one that holds it, else a new one, of a class of its own, where there is room
unfoldable pub placed : Tables → ℕ → ℕ → Tables
unfolding find room store
placed T s Q =
    elim (ltb (find T.sets T.used s) T.used) [
      | true ↦ T
      | false ↦ elim (ltb T.used (room T.entries)) [ true ↦ appended T s Q | false ↦ T ]
    ]

-- slots f and i joined, where both are used
unfoldable pub joined_used : Tables → ℕ → ℕ → Tables
unfolding joined
joined_used T f i = elim (ltb f T.used && ltb i T.used) [ true ↦ joined T f i | false ↦ T ]

-- the sub-clique of Q without its part q in a slot, and that slot joined to slot f
unfoldable pub took_part : ℕ → ℕ → ℕ → Tables → Tables
unfolding find placed joined_used out
took_part f Q q T = joined_used (placed T (out q Q) Q) f (find T.sets T.used (out q Q))

unfoldable pub took_parts : ℕ → ℕ → List ℕ → Tables → Tables
unfolding took_part
took_parts f Q [] T = T
took_parts f Q (q ∷ qs) T = took_parts f Q qs (took_part f Q q T)

-- the community of slot f, where it is used, has the clique Q
unfoldable pub touched : Tables → ℕ → ℕ → Tables
unfolding root_of lesser union row store
touched T f Q =
    elim (ltb f T.used) [
      | true ↦
          tables T.sets T.entries
          (store T.smallest (root_of T.entries f) (lesser (row T.smallest (root_of T.entries f)) Q))
          (store T.unions (root_of T.entries f) (union (row T.unions (root_of T.entries f)) Q))
          T.used
      | false ↦ T
    ]

-- the tables with the clique Q: its sub-cliques in slots, those slots one class, and Q among the cliques of that class
unfoldable pub took_in : Tables → ℕ → Tables
unfolding find took_parts touched out lowest members
took_in T Q =
    touched
    (took_parts (find T.sets T.used (out (lowest Q) Q)) Q (members width Q) T)
    (find T.sets T.used (out (lowest Q) Q)) Q
