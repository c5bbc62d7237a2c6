-- The four lent tables: of one length, zeroed, and as a call leaves them. Assumes nothing.
use mathlib.Core.Path.{◌≡◌, refl, sym, ap, ap₂, ◌∙◌, subst⁻¹}
use mathlib.Core.Logic.{◌⊎◌, inl, inr}
use mathlib.Core.Bool.{Bool, true, false, ◌&&◌}
use mathlib.Core.List.{List, []}
use Prim.Native.Nat.{ℕ, ◌≤◌, ◌<◌}
use native.Mathlib.Omega.{arith}
use lib.ListN.{length, get_or, replicate, length-replicate, get_or-replicate, get_or-eq_default}
use Rattle.answers.specs.Verdict.{Verdict, accepted, refused}
use Rattle.sets.specs.Value.{sized}
use Rattle.sets.proofs.Tests.{and_left, and_right, and_stop, and_go, lt_or_le}
use Rattle.sets.proofs.Tables.{sized_same, sized_clear, row_clear}
use Rattle.percolation.specs.Links.{cliques}
use Rattle.percolation.proofs.Accepted.{cliques_none}
use Rattle.slots.specs.Tables.{Tables, tables, Level, room}
use Rattle.slots.specs.declared.Lent.{Lent}
use Rattle.slots.specs.Lent.{tables_of, SameLent}
use Rattle.slots_theory.specs.Shows.{Shows}
use Rattle.slots.proofs.Lengths.{Kept, same_room}
use Rattle.slots_theory.proofs.Shown.{none_shown}
use Rattle.runs.specs.Lent.{lent, level, cleared, left}

-- ---- tables of one length

module _ (T : Tables) where
  abbrev in_sets_lem : Bool
  in_sets_lem = sized T.sets (length T.entries)

  abbrev in_smallest : Bool
  in_smallest = sized T.smallest (length T.entries)

  abbrev in_unions_lem : Bool
  in_unions_lem = sized T.unions (length T.entries)

  pub level_of_lem : level T ≡ true → Level T
  unfolding level
  level_of_lem e =
      let rest = and_right in_sets_lem (in_smallest && in_unions_lem) e in
      record { sets = and_left in_sets_lem (in_smallest && in_unions_lem) e; smallest = and_left in_smallest in_unions_lem rest; unions = and_right in_smallest in_unions_lem rest }

  -- the same, test by test as the code does them: a test that fails is the answer, and the last is in any case
  module _ (a : Bool) (sa : a ≡ in_sets_lem) where
    pub level_one : a ≡ false → a ≡ level T
    unfolding level
    level_one f = f ∙ and_stop in_sets_lem _ (sym sa ∙ f)

    module _ (fa : a ≡ true) (b : Bool) (sb : b ≡ in_smallest) where
      pub level_two : b ≡ false → b ≡ level T
      unfolding level
      level_two f = f ∙ and_go in_sets_lem _ (sym sa ∙ fa) (and_stop in_smallest _ (sym sb ∙ f))

      pub level_three : b ≡ true → (d : Bool) → d ≡ in_unions_lem → d ≡ level T
      unfolding level
      level_three fb d sd = and_go in_sets_lem _ (sym sa ∙ fa) (and_go in_smallest _ (sym sb ∙ fb) sd)

-- how many slots are used is no matter
pub level_used : (s e m u : List ℕ) (n : ℕ) → level (tables s e m u n) ≡ level (lent s e m u)
unfolding level
level_used s e m u n = refl

-- nor what a step writes
pub level_kept : (T U : Tables) → Kept T U → level U ≡ level T
unfolding level
level_kept T U k =
    ap₂ ◌&&◌ (sized_same U.sets T.sets _ _ k.sets k.entries)
    (ap₂ ◌&&◌ (sized_same U.smallest T.smallest _ _ k.smallest k.entries) (sized_same U.unions T.unions _ _ k.unions k.entries))

-- ---- zeroed tables

-- they go by the lengths alone
pub cleared_kept : (T U : Tables) → length U.sets ≡ length T.sets → length U.entries ≡ length T.entries
    → length U.smallest ≡ length T.smallest → length U.unions ≡ length T.unions → cleared U ≡ cleared T
unfolding cleared
cleared_kept T U s e m u = λ i. tables (replicate (s i) 0) (replicate (e i) 0) (replicate (m i) 0) (replicate (u i) 0) 0

-- so they are the same whatever calls wrote to the lent tables
pub cleared_lent : (l m : Lent) → SameLent l m → (i j : ℕ) → cleared (tables_of m j) ≡ cleared (tables_of l i)
cleared_lent l m k i j = cleared_kept (tables_of l i) (tables_of m j) k.sets_length k.entries_length k.smallest_length k.unions_length

-- four lists, each zeroed
pub cleared_lists : (T : Tables) {s e m u : List ℕ} → s ≡ replicate (length T.sets) 0 → e ≡ replicate (length T.entries) 0
    → m ≡ replicate (length T.smallest) 0 → u ≡ replicate (length T.unions) 0 → lent s e m u ≡ cleared T
unfolding cleared
cleared_lists T s e m u = λ i. tables (s i) (e i) (m i) (u i) 0

pub cleared_entries : (T : Tables) → length (cleared T).entries ≡ length T.entries
unfolding cleared
cleared_entries T = length-replicate (length T.entries) 0

pub cleared_room : (T : Tables) → room (cleared T).entries ≡ room T.entries
cleared_room T = same_room T.entries (cleared T).entries (cleared_entries T)

-- an entry of a zeroed table
zero_at : (n i : ℕ) → get_or (replicate {A = ℕ} n 0) i 0 ≡ 0
zero_at n i = go (lt_or_le i n)
  where
    go : (i < n) ⊎ (n ≤ i) → get_or (replicate {A = ℕ} n 0) i 0 ≡ 0
    go (inl l) = get_or-replicate n i 0 0 l
    go (inr l) = get_or-eq_default (replicate n 0) 0 (omega (arith, length-replicate {A = ℕ} n 0))

-- zeroed tables show no link
pub cleared_shown : (p k : ℕ) (T : Tables) → 2 ≤ k → level T ≡ true → Shows p k (cliques [] p k) (cleared T)
unfolding cleared
cleared_shown p k T two ok =
    let l = level_of_lem T ok in
    let n = length-replicate {A = ℕ} (length T.entries) 0 in
    subst⁻¹ (λ (F : List ℕ). Shows p k F (cleared T)) (cliques_none p k two)
    (none_shown p k _ _ _ _ (sized_clear T.sets _ _ n ∙ l.sets) (sized_clear T.smallest _ _ n ∙ l.smallest) (sized_clear T.unions _ _ n ∙ l.unions)
    (row_clear (length T.sets)) (zero_at (length T.entries)) (row_clear (length T.smallest)) (row_clear (length T.unions)))

-- ---- the tables after a call

pub left_passed : (v : Verdict) (T : Tables) → v ≡ accepted → left v T ≡ cleared T
unfolding left
left_passed v T e = ap (λ (w : Verdict). left w T) e

pub left_refused : (n a : ℕ) (v : Verdict) (T : Tables) → v ≡ refused n a → left v T ≡ T
unfolding left
left_refused n a v T e = ap (λ (w : Verdict). left w T) e
