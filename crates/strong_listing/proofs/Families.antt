-- A family of k-cliques taken into zeroed tables: 15 exactly where its slots do not suffice, and else what stands at the ends of the slots is the listing of
-- its communities. Assumes nothing.
use mathlib.Core.Path.{◌≡◌, sym, ap, ◌∙◌, subst}
use mathlib.Core.Logic.{◌⊎◌, inl, inr}
use mathlib.Core.Bool.{Bool, true, false}
use mathlib.Core.List.{List}
use Prim.Native.Nat.{ℕ, ◌≤◌, ◌<◌}
use native.Mathlib.Omega.{arith}
use lib.ListN.{length}
use Rattle.sets.specs.Value.{width}
use Rattle.sets.proofs.Tests.{lt_or_le}
use Rattle.percolation.specs.Percolate.{Community, communities}
use Rattle.percolation.specs.Links.{slots}
use Rattle.percolation.specs.Steps.{enough}
use Rattle.percolation.proofs.Accepted.{cliques_none}
use Rattle.slots.specs.Tables.{Tables, room}
use Rattle.slots.proofs.Lengths.{same_room, enough_room, enough_short, room_enough}
use Rattle.slots_theory.specs.Shows.{Shows}
use Rattle.slots_theory.proofs.Shown.{Family}
use Rattle.listings.specs.Model.{listed}
use Rattle.listings.proofs.Listed.{listed_communities}
use Rattle.runs.specs.Lent.{level, cleared}
use Rattle.runs.proofs.Left.{cleared_room, cleared_shown}
use Rattle.percolating.specs.Model.{took_each}
use Rattle.percolating.proofs.Fitting.{all_fitting}

module _ (p k : ℕ) (wide : p ≤ width) (two : 2 ≤ k) (F : List ℕ) (family : Family p k F) (T : Tables) (ok : level T ≡ true)
    (sure : Bool) (plenty : sure ≡ true → enough (length T.entries) (slots p k F) ≡ true)
    (Z U : Tables) (zero : Z ≡ cleared T) (took : U ≡ took_each sure Z F) (kept : length U.entries ≡ length T.entries) where
  fitting : (slots p k F ≤ room (cleared T).entries → Shows p k F (took_each sure (cleared T) F))
      × (room (cleared T).entries < slots p k F → room (cleared T).entries < (took_each sure (cleared T) F).used)
  fitting =
      all_fitting p k wide two sure F (cleared T) family
      (subst (λ (X : List ℕ). Shows p k X (cleared T)) (cliques_none p k two) (cleared_shown p k T two ok))
      (λ e. omega (arith, room_enough T.entries (slots p k F) (plenty e), cleared_room T))

  same : U ≡ took_each sure (cleared T) F
  same = took ∙ ap (λ (X : Tables). took_each sure X F) zero

  is_room : room U.entries ≡ room T.entries
  is_room = same_room T.entries U.entries kept

  shows : slots p k F ≤ room T.entries → Shows p k F U
  shows l = subst (Shows p k F) (sym same) (fitting.0 (omega (arith, cleared_room T)))

  over : room T.entries < slots p k F → room T.entries < U.used
  over l = omega (arith, ap (λ (X : Tables). X.used) same, fitting.1 (omega (arith, cleared_room T)), cleared_room T)

  pub family_short : room U.entries < U.used → enough (length T.entries) (slots p k F) ≡ false
  family_short h = go (lt_or_le (room T.entries) (slots p k F))
    where
      go : (room T.entries < slots p k F) ⊎ (slots p k F ≤ room T.entries) → enough (length T.entries) (slots p k F) ≡ false
      go (inl l) = enough_short T.entries (slots p k F) l
      go (inr l) = absurd (omega (arith, (shows l).fits))

  fits : U.used ≤ room U.entries → slots p k F ≤ room T.entries
  fits h = go (lt_or_le (room T.entries) (slots p k F))
    where
      go : (room T.entries < slots p k F) ⊎ (slots p k F ≤ room T.entries) → slots p k F ≤ room T.entries
      go (inl l) = absurd (omega (arith, over l, is_room))
      go (inr l) = l

  pub family_fits : U.used ≤ room U.entries → enough (length T.entries) (slots p k F) ≡ true
  family_fits h = enough_room T.entries (slots p k F) (fits h)

  pub family_listed : U.used ≤ room U.entries → listed U.entries U.smallest U.unions U.used ≡ communities k F
  family_listed h = listed_communities p k F U family (omega (arith, two)) (shows (fits h))

-- of the tables T, which are U
pub tables_listed : {T U : Tables} {C : List Community} → T ≡ U → listed U.entries U.smallest U.unions U.used ≡ C
    → listed T.entries T.smallest T.unions T.used ≡ C
tables_listed e c = ap (λ (X : Tables). listed X.entries X.smallest X.unions X.used) e ∙ c
