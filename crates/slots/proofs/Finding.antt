-- What looking for a set among the used slots finds. Assumes nothing.
use mathlib.Core.Path.{◌≡◌, ap, ◌∙◌}
use mathlib.Core.Logic.{◌⊎◌, inl, inr}
use mathlib.Core.List.{List}
use Prim.Native.Nat.{ℕ, zero, suc, ◌+◌, ◌≤◌, ◌<◌}
use native.Mathlib.Omega.{arith}
use native.Mathlib.Numerals.{add-one}
use borrow.Author.Tests.{eq-eqb, ne_eqb}
use Rattle.sets.specs.Value.{row}
use Rattle.sets.proofs.Tests.{same_or_not}
use Rattle.slots.specs.Model.{find_from, find}

module _ (sets : List ℕ) (s : ℕ) where
  pub find_hit : (n i : ℕ) → 0 < n → row sets i ≡ s → find_from n sets i s ≡ i
  unfolding find_from
  find_hit zero i l e = absurd (omega arith)
  find_hit (suc n) i l e = rw (find_from, eq-eqb (row sets i) s e)

  pub find_miss : (n m i : ℕ) → n ≡ m + 1 → (row sets i ≡ s → ⊥) → find_from n sets i s ≡ find_from m sets (i + 1) s
  unfolding find_from
  find_miss zero m i l e = absurd (omega arith)
  find_miss (suc n) m i l e =
      let h : m ≡ n = omega arith in
      rw (h, add-one) (rw (find_from, ne_eqb (row sets i) s e))

  pub find_end : (n i : ℕ) → n ≡ 0 → find_from n sets i s ≡ i
  unfolding find_from
  find_end n i e = rw (e, find_from)

  -- slot k of the n from i on holds s; or none does, and k is the slot after them
  abbrev Outcome : ℕ → ℕ → ℕ → Type 0
  Outcome i n k = ((i ≤ k) × (k < i + n) × (row sets k ≡ s)) ⊎ ((k ≡ i + n) × ((j : ℕ) → i ≤ j → j < i + n → row sets j ≡ s → ⊥))

  outcome : (n i : ℕ) → Outcome i n (find_from n sets i s)
  unfolding find_from
  outcome zero i = inr (omega arith, λ j a b e. omega arith)
  outcome (suc n) i = go (same_or_not (row sets i) s) (outcome n (i + 1))
    where
      later : (k : ℕ) → (row sets i ≡ s → ⊥) → Outcome (i + 1) n k → Outcome i (suc n) k
      later k ne (inl h) = inl (omega arith, omega arith, h.2)
      later k ne (inr h) = inr (omega arith, λ j a b e. pick j a b e (same_or_not i j))
        where
          pick : (j : ℕ) → i ≤ j → j < i + suc n → row sets j ≡ s → (i ≡ j) ⊎ (i ≡ j → ⊥) → ⊥
          pick j a b e (inl d) = ne (ap (row sets) d ∙ e)
          pick j a b e (inr d) = h.1 j (omega arith) (omega arith) e

      go : (row sets i ≡ s) ⊎ (row sets i ≡ s → ⊥) → Outcome (i + 1) n (find_from n sets (i + 1) s) → Outcome i (suc n) (find_from (suc n) sets i s)
      go (inl e) rest = rw (find_hit (suc n) i (omega arith) e) (inl (omega arith, omega arith, e))
      go (inr e) rest = rw (find_miss (suc n) n i (omega arith) e) (later (find_from n sets (i + 1) s) e rest)

  module _ (used : ℕ) where
    pub find_le : find sets used s ≤ used
    unfolding find
    find_le = go (outcome used 0)
      where
        go : Outcome 0 used (find_from used sets 0 s) → find_from used sets 0 s ≤ used
        go (inl h) = omega arith
        go (inr h) = omega arith

    -- what is found holds s
    pub found_holds : find sets used s < used → row sets (find sets used s) ≡ s
    unfolding find
    found_holds l = go (outcome used 0)
      where
        go : Outcome 0 used (find_from used sets 0 s) → row sets (find_from used sets 0 s) ≡ s
        go (inl h) = h.2
        go (inr h) = absurd (omega arith)

    -- where none is found, no used slot holds s
    pub found_none : used ≤ find sets used s → (i : ℕ) → i < used → row sets i ≡ s → ⊥
    unfolding find
    found_none l i h e = go (outcome used 0)
      where
        go : Outcome 0 used (find_from used sets 0 s) → ⊥
        go (inl o) = omega arith
        go (inr o) = o.1 i (omega arith) (omega arith) e
