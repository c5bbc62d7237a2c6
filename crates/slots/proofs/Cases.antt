-- What a step does to the tables, case by case: a slot placed, two slots joined, a clique counted in. Assumes nothing.
use mathlib.Core.Path.{◌≡◌}
use mathlib.Core.Bool.{Bool, true, false, ◌&&◌}
use mathlib.Core.Logic.{◌⊎◌, inl, inr}
use Prim.Native.Nat.{ℕ, ◌≤◌, ◌<◌}
use lib.Dec.{ltb}
use borrow.Author.Tests.{lt-ltb, le-ltb}
use Rattle.sets.specs.Sets.{union, lesser}
use Rattle.sets.specs.Value.{row, store}
use Rattle.sets.proofs.Tests.{no_and, lt_or_le}
use Rattle.joining.specs.Entries.{root_of}
use Rattle.slots.specs.Tables.{Tables, tables, room}
pub use Rattle.slots.specs.Model.{appended}
use Rattle.slots.specs.Model.{find, joined, placed, joined_used, touched}

-- the tables with the clique Q counted in at the end of slot f
abbrev pub counted : Tables → ℕ → ℕ → Tables
counted T f Q =
    tables T.sets T.entries
    (store T.smallest (root_of T.entries f) (lesser (row T.smallest (root_of T.entries f)) Q))
    (store T.unions (root_of T.entries f) (union (row T.unions (root_of T.entries f)) Q))
    T.used

module _ (T : Tables) (s Q : ℕ) where
  pub placed_old : find T.sets T.used s < T.used → placed T s Q ≡ T
  unfolding placed
  placed_old h = rw (placed, lt-ltb (find T.sets T.used s) T.used h)

  pub placed_full : T.used ≤ find T.sets T.used s → room T.entries ≤ T.used → placed T s Q ≡ T
  unfolding placed
  placed_full h l = rw (placed, le-ltb (find T.sets T.used s) T.used h, le-ltb T.used (room T.entries) l)

  pub placed_new : T.used ≤ find T.sets T.used s → T.used < room T.entries → placed T s Q ≡ appended T s Q
  unfolding placed
  placed_new h l = rw (placed, le-ltb (find T.sets T.used s) T.used h, lt-ltb T.used (room T.entries) l)

  pub placed_none : room T.entries ≤ T.used → placed T s Q ≡ T
  placed_none l = go (lt_or_le (find T.sets T.used s) T.used)
    where
      go : (find T.sets T.used s < T.used) ⊎ (T.used ≤ find T.sets T.used s) → placed T s Q ≡ T
      go (inl h) = placed_old h
      go (inr h) = placed_full h l

  -- a slot is placed only where there is room, or nothing changes
  pub placed_cases : (P : Tables → Type 0) → P T → (T.used < room T.entries → P (appended T s Q)) → P (placed T s Q)
  placed_cases P a b = go (lt_or_le (find T.sets T.used s) T.used) (lt_or_le T.used (room T.entries))
    where
      go : (find T.sets T.used s < T.used) ⊎ (T.used ≤ find T.sets T.used s) → (T.used < room T.entries) ⊎ (room T.entries ≤ T.used) → P (placed T s Q)
      go (inl h) r = rw (placed_old h) a
      go (inr h) (inl l) = rw (placed_new h l) (b l)
      go (inr h) (inr l) = rw (placed_full h l) a

module _ (T : Tables) (f i : ℕ) where
  pub joined_both : f < T.used → i < T.used → joined_used T f i ≡ joined T f i
  unfolding joined_used
  joined_both a b = rw (joined_used, lt-ltb f T.used a, lt-ltb i T.used b)

  pub joined_idle : (T.used ≤ f) ⊎ (T.used ≤ i) → joined_used T f i ≡ T
  unfolding joined_used
  joined_idle (inl a) = rw (joined_used, le-ltb f T.used a)
  joined_idle (inr b) = rw (joined_used, le-ltb i T.used b, no_and (ltb f T.used))

  pub joined_cases : (P : Tables → Type 0) → P T → P (joined T f i) → P (joined_used T f i)
  unfolding joined_used
  joined_cases P a b = go (ltb f T.used && ltb i T.used)
    where
      go : (t : Bool) → P (elim t [ true ↦ joined T f i | false ↦ T ])
      go true = b
      go false = a

module _ (T : Tables) (f Q : ℕ) where
  pub touched_used : f < T.used → touched T f Q ≡ counted T f Q
  unfolding touched
  touched_used a = rw (touched, lt-ltb f T.used a)

  pub touched_idle : T.used ≤ f → touched T f Q ≡ T
  unfolding touched
  touched_idle a = rw (touched, le-ltb f T.used a)

  pub touched_cases : (P : Tables → Type 0) → P T → P (counted T f Q) → P (touched T f Q)
  unfolding touched
  touched_cases P a b = go (ltb f T.used)
    where
      go : (t : Bool) → P (elim t [ true ↦ counted T f Q | false ↦ T ])
      go true = b
      go false = a
