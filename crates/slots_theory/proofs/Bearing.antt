-- Which k-cliques are of the community of a slot, and when two slots are of one. Assumes nothing.
use mathlib.Core.Path.{◌≡◌}
use mathlib.Core.Logic.{◌⊎◌, inl, inr, ◌↔◌}
use mathlib.Core.Bool.{Bool, true, ◌&&◌}
use mathlib.Core.List.{List}
use Prim.Native.Nat.{ℕ, suc}
use native.Mathlib.Omega.{arith}
use Rattle.sets.specs.Lists.{◌∈◌, any}
use Rattle.sets.specs.Sets.{has, meet, union, size, sub}
use Rattle.sets.proofs.Tests.{and_intro, and_left, and_right}
use Rattle.sets.proofs.ListLaws.{Holds, any_at, any_of}
use Rattle.sets.proofs.Laws.{sub_size}
use Rattle.sets.proofs.Parts.{sub_both, union_cases}
use Rattle.percolation.specs.Percolate.{adjacent, Chain, alone, joined}
use Rattle.percolation.proofs.Chains.{adjacent_sym, first_in, last_in, chain_trans, chain_sym, chain_mono, joined_chain, chain_joined}
use Rattle.percolation.proofs.Exchange.{near}
use Rattle.percolation.proofs.Joining.{SlotsJoined}
use Rattle.slots_theory.specs.Shows.{in_one_community}

-- s lies in a member of F that a chain joins to a
pub record InClass (k : ℕ) (F : List ℕ) (s a : ℕ) : Type 0 where
  pub bearer : ℕ
  pub within : sub s bearer ≡ true
  pub chain : Chain (adjacent k) F bearer a

-- each part of v is one of a clique of the community of s
abbrev pub PartsIn : ℕ → List ℕ → ℕ → ℕ → Type 0
PartsIn k F s v = (q : ℕ) → has q v ≡ true → (a : ℕ) × InClass k F s a × (has q a ≡ true)

module _ (k : ℕ) (F : List ℕ) where
  pub class_own : (s a : ℕ) → a ∈ F → sub s a ≡ true → InClass k F s a
  class_own s a m i = record { bearer = a; within = i; chain = alone m }

  pub class_on : (s a b : ℕ) → InClass k F s a → Chain (adjacent k) F a b → InClass k F s b
  class_on s a b c d = record { bearer = c.bearer; within = c.within; chain = chain_trans c.chain d }

  pub class_mono : (G : List ℕ) → Holds G F → (s a : ℕ) → InClass k F s a → InClass k G s a
  class_mono G h s a c = record { bearer = c.bearer; within = c.within; chain = chain_mono h c.chain }

  pub slots_joined_mono : (G : List ℕ) → Holds G F → (s t : ℕ) → SlotsJoined k F s t → SlotsJoined k G s t
  slots_joined_mono G h s t j = record { a = j.a; b = j.b; in_a = j.in_a; in_b = j.in_b; chain = chain_mono h j.chain }

  pub parts_union : (s a b : ℕ) → PartsIn k F s a → PartsIn k F s b → PartsIn k F s (union a b)
  parts_union s a b x y q t = go (union_cases q a b t)
    where
      go : (has q a ≡ true) ⊎ (has q b ≡ true) → (c : ℕ) × InClass k F s c × (has q c ≡ true)
      go (inl e) = x q e
      go (inr e) = y q e

  -- slots of one clique's community are of one community
  pub class_slots : (s t a : ℕ) → InClass k F s a → InClass k F t a → SlotsJoined k F s t
  class_slots s t a c d = record {
    a = c.bearer;
    b = d.bearer;
    in_a = c.within;
    in_b = d.within;
    chain = chain_trans c.chain (chain_sym (adjacent_sym k) d.chain);
  }

  -- the test against the chains
  pub one_community : (s t : ℕ) → (in_one_community k F s t ≡ true) ↔ SlotsJoined k F s t
  unfolding in_one_community
  one_community s t = (to, fro)
    where
      inner : ℕ → ℕ → Bool
      inner a b = sub t b && joined k F a b

      outer : ℕ → Bool
      outer a = sub s a && any (inner a) F

      to : any outer F ≡ true → SlotsJoined k F s t
      to h =
          let x = any_of outer F h in
          let a : ℕ = x.0 in
          let y = any_of (inner a) F (and_right (sub s a) (any (inner a) F) x.2) in
          let b : ℕ = y.0 in
          record {
            a = a;
            b = b;
            in_a = and_left (sub s a) (any (inner a) F) x.2;
            in_b = and_left (sub t b) (joined k F a b) y.2;
            chain = joined_chain k F a b (and_right (sub t b) (joined k F a b) y.2);
          }

      fro : SlotsJoined k F s t → any outer F ≡ true
      fro j =
          any_at outer F (first_in j.chain) (and_intro (sub s j.a) (any (inner j.a) F) j.in_a
          (any_at (inner j.a) F (last_in j.chain) (and_intro (sub t j.b) (joined k F j.a j.b) j.in_b (chain_joined k F j.a j.b j.chain))))

  -- ---- a slot has k - 1 parts, and a member has k

  module _ (sizes : (x : ℕ) → x ∈ F → size x ≡ k) where
    -- members that bear one slot are one, or adjacent
    bearers : (s a b : ℕ) → suc (size s) ≡ k → a ∈ F → b ∈ F → sub s a ≡ true → sub s b ≡ true → Chain (adjacent k) F a b
    bearers s a b z m n i j = near k a b (sizes a m) (sizes b n) (omega (arith, sub_size s (meet a b) (sub_both s a b i j))) m n

    pub class_chain : (s a b : ℕ) → suc (size s) ≡ k → InClass k F s a → InClass k F s b → Chain (adjacent k) F a b
    class_chain s a b z c d =
        chain_trans (chain_sym (adjacent_sym k) c.chain)
        (chain_trans (bearers s c.bearer d.bearer z (first_in c.chain) (first_in d.chain) c.within d.within) d.chain)

    -- a clique of a slot's community is of the community of each slot joined to it
    pub class_over : (s t a : ℕ) → suc (size t) ≡ k → SlotsJoined k F s t → InClass k F t a → InClass k F s a
    class_over s t a z j c = record {
      bearer = j.a;
      within = j.in_a;
      chain = chain_trans j.chain (class_chain t j.b a z (class_own t j.b (last_in j.chain) j.in_b) c);
    }

    pub parts_over : (s t v : ℕ) → suc (size t) ≡ k → SlotsJoined k F s t → PartsIn k F t v → PartsIn k F s v
    parts_over s t v z j w q h = let b = w q h in (b.0, class_over s t b.0 z j b.1, b.2)

    pub slots_trans : (s t u : ℕ) → suc (size t) ≡ k → SlotsJoined k F s t → SlotsJoined k F t u → SlotsJoined k F s u
    slots_trans s t u z j l =
        class_slots s u l.b (class_over s t l.b z j (record { bearer = l.a; within = l.in_a; chain = l.chain }))
        (class_own u l.b (last_in l.chain) l.in_b)
