-- Model of the code: cliques taken into the tables one after the other, as long as there are slots for them. What the tables then show is proved of it
-- (proofs/Fitting.antt). Assumes nothing.
use Rattle.std.specs.Prelude.{Bool, cond, ◌||◌, List, [], ◌∷◌, ℕ, suc, ◌-◌, leb, ltb, length}
use Rattle.sets.specs.Lists.{keep}
use Rattle.sets.specs.Sets.{out, members}
use Rattle.sets.specs.Value.{width}
use Rattle.products.specs.declared.Measure.{Measure}
use Rattle.products.specs.Measures.{strong_with}
use Rattle.products.specs.Model.{table_weights}
use Rattle.slots.specs.Tables.{Tables, tables, room}
use Rattle.slots.specs.Model.{find, took_in}

-- no used slot holds the sub-clique of Q without its part q
unfoldable pub lacks : List ℕ → ℕ → ℕ → ℕ → Bool
lacks sets used Q q = leb used (find sets used (out q Q))

-- the parts of Q without which it has no slot
unfoldable pub lacking : List ℕ → ℕ → ℕ → List ℕ
lacking sets used Q = keep (lacks sets used Q) (members width Q)

-- they are no more than the free slots
abbrev pub has_room : Tables → ℕ → Bool
has_room T Q = leb (length (lacking T.sets T.used Q)) (room T.entries - T.used)

-- the tables with one slot more in use than there may be: what is left to take in did not fit
unfoldable pub overfull : Tables → Tables
overfull T = tables T.sets T.entries T.smallest T.unions (suc (room T.entries))

-- the tables with the clique Q, where there are slots for it, which may be sure beforehand
unfoldable pub took_fitting : Bool → Tables → ℕ → Tables
took_fitting sure T Q =
    cond (ltb (room T.entries) T.used) T
    (cond (sure || has_room T Q) (took_in T Q) (overfull T))

unfoldable pub took_each : Bool → Tables → List ℕ → Tables
took_each sure T [] = T
took_each sure T (Q ∷ F) = took_each sure (took_fitting sure T Q) F

-- the test of strength, by a table of weights by pair
unfoldable pub strong_by : Measure → List ℕ → ℕ → Bool
strong_by M W Q = strong_with M (table_weights W Q)
