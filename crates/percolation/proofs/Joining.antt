-- The joining step of the sequential run: with one k-clique more, two slots are in one community exactly when they were, or both touch it.
-- Assumes nothing.
use mathlib.Core.Path.{◌≡◌, refl, sym, ap, ◌∙◌}
use mathlib.Core.Logic.{◌⊎◌, inl, inr, ◌↔◌}
use mathlib.Core.Bool.{true}
use mathlib.Core.List.Memᴰ
use mathlib.Core.List.{List, ◌∷◌}
use Prim.Native.Nat.{ℕ, suc, ◌≤◌}
use native.Mathlib.Omega.{arith}
use borrow.Author.Tests.{eqb-true}
use Rattle.sets.specs.Lists.{◌∈◌}
use Rattle.sets.specs.Sets.{meet, size, sub}
use Rattle.sets.proofs.Laws.{sub_size}
use Rattle.sets.proofs.Parts.{meet_sub_l, meet_sub_r, sub_both}
use Rattle.percolation.specs.Percolate.{adjacent, Chain, alone}
use Rattle.percolation.proofs.Chains.{adjacent_sym, first_in, chain_trans, chain_sym, chain_mono, Reach, chain_cons}
use Rattle.percolation.proofs.Exchange.{near}

-- s and t lie in members of F that a chain joins
pub record SlotsJoined (k : ℕ) (F : List ℕ) (s t : ℕ) : Type 0 where
  pub a : ℕ
  pub b : ℕ
  pub in_a : sub s a ≡ true
  pub in_b : sub t b ≡ true
  pub chain : Chain (adjacent k) F a b

-- the slot s lies in m, or is joined to a slot that does
abbrev pub Touched : ℕ → ℕ → List ℕ → ℕ → Type 0
Touched k m F s = (sub s m ≡ true) ⊎ ((u : ℕ) × (suc (size u) ≡ k) × (sub u m ≡ true) × SlotsJoined k F u s)

pub slots_sym : (k : ℕ) (F : List ℕ) (s t : ℕ) → SlotsJoined k F s t → SlotsJoined k F t s
slots_sym k F s t j = record { a = j.b; b = j.a; in_a = j.in_b; in_b = j.in_a; chain = chain_sym (adjacent_sym k) j.chain }

module _ (k m : ℕ) (F : List ℕ) (sm : size m ≡ k) (sizes : (x : ℕ) → x ∈ F → size x ≡ k) where
  slots_cons : (s t : ℕ) → SlotsJoined k (m ∷ F) s t → SlotsJoined k F s t ⊎ (Touched k m F s × Touched k m F t)
  unfolding adjacent
  slots_cons s t j = go (chain_cons (adjacent k) (adjacent_sym k) m F j.chain)
    where
      end : (z x : ℕ) → sub z x ≡ true → Reach (adjacent k) (adjacent_sym k) m F x → Touched k m F z
      end z x i (inl e) = inl (ap (sub z) (sym e) ∙ i)
      end z x i (inr y) =
          inr (
            meet m y.0,
            eqb-true (suc (size (meet m y.0))) k y.1,
            meet_sub_l m y.0,
            record { a = y.0; b = x; in_a = meet_sub_r m y.0; in_b = i; chain = y.2 },
          )

      go : Chain (adjacent k) F j.a j.b ⊎ (Reach (adjacent k) (adjacent_sym k) m F j.a × Reach (adjacent k) (adjacent_sym k) m F j.b)
          → SlotsJoined k F s t ⊎ (Touched k m F s × Touched k m F t)
      go (inl c) = inl (record { a = j.a; b = j.b; in_a = j.in_a; in_b = j.in_b; chain = c })
      go (inr h) = inr (end s j.a j.in_a h.0, end t j.b j.in_b h.1)

  touched_chain : (s : ℕ) → Touched k m F s → (x : ℕ) × (sub s x ≡ true) × Chain (adjacent k) (m ∷ F) m x
  touched_chain s (inl i) = (m, i, alone (Memᴰ.head refl))
  touched_chain s (inr u) =
      let j = u.3 in
      let g : k ≤ suc (size (meet m j.a)) = omega (arith, u.1, sub_size u.0 (meet m j.a) (sub_both u.0 m j.a u.2 j.in_a)) in (
        j.b,
        j.in_b,
        chain_trans (near k m j.a sm (sizes j.a (first_in j.chain)) g (Memᴰ.head refl) (Memᴰ.tail (first_in j.chain)))
            (chain_mono (λ z n. Memᴰ.tail n) j.chain),
      )

  cons_slots : (s t : ℕ) → SlotsJoined k F s t ⊎ (Touched k m F s × Touched k m F t) → SlotsJoined k (m ∷ F) s t
  cons_slots s t (inl j) = record { a = j.a; b = j.b; in_a = j.in_a; in_b = j.in_b; chain = chain_mono (λ z n. Memᴰ.tail n) j.chain }
  cons_slots s t (inr h) =
      let x = touched_chain s h.0 in
      let y = touched_chain t h.1 in
      record { a = x.0; b = y.0; in_a = x.1; in_b = y.1; chain = chain_trans (chain_sym (adjacent_sym k) x.2) y.2 }

  -- the joins of the new clique's slots are what it adds: no more, and no less
  pub joining : (s t : ℕ) → SlotsJoined k (m ∷ F) s t ↔ (SlotsJoined k F s t ⊎ (Touched k m F s × Touched k m F t))
  joining s t = (slots_cons s t, cons_slots s t)
