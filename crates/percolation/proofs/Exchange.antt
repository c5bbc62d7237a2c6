-- Any two k-sets of one set are joined by a chain of k-sets of that set: the ground of the maximal-clique run. Assumes nothing.
use mathlib.Core.Path.{◌≡◌, ap, ◌∙◌, subst}
use mathlib.Core.Logic.{◌⊎◌, inl, inr}
use mathlib.Core.Bool.{true, false}
use mathlib.Core.List.{List}
use Prim.Native.Nat.{ℕ, zero, suc, ◌+◌, ◌≤◌, ◌<◌}
use native.Mathlib.Omega.{arith}
use lib.Dec.{eqb}
use borrow.Author.Tests.{eqb-false}
use Rattle.sets.specs.Lists.{◌∈◌}
use Rattle.sets.specs.Sets.{has, meet, into, out, size, sub}
use Rattle.sets.proofs.Tests.{never, split, lt_or_le, not_so}
use Rattle.sets.proofs.Laws.{sub_has, has_sub, sub_trans, out_sub, into_has, meet_comm, sub_size}
use Rattle.sets.proofs.Parts.{same_parts, meet_in, meet_l, meet_r, into_keeps, into_cases, into_within, out_keeps, out_part, outside, same_set, size_more, size_less}
use Rattle.percolation.specs.Percolate.{adjacent, Chain, alone, next}
use Rattle.percolation.specs.Links.{Link, cliques}
use Rattle.percolation.proofs.Chains.{chain_trans}
use Rattle.percolation.proofs.Families.{Clique, inside_clique}

-- the exchange: a part of a that b lacks for a part of b that a lacks
pub record Nearer (k a b A c : ℕ) : Type 0 where
  pub sized : size c ≡ k
  pub within : sub c A ≡ true
  pub beside : suc (size (meet a c)) ≡ k
  pub closer : suc (size (meet a b)) ≤ size (meet c b)

pub exchange : (k a b A : ℕ) → size a ≡ k → size b ≡ k → sub a A ≡ true → sub b A ≡ true → size (meet a b) < k → (c : ℕ) × Nearer k a b A c
exchange k a b A sa sb ia ib h = (
  c,
  record {
    sized = omega (arith, size_more x r rx, size_less y a u.1);
    within = into_within x r A (sub_has x b A ib o.1) (sub_trans r a A (out_sub y a) ia);
    beside = omega (arith, ap size shared, size_less y a u.1);
    closer = omega (arith, size_more x (meet a b) mx, sub_size (into x (meet a b)) (meet c b) nearer);
  },
)
  where
    o : (q : ℕ) × (has q b ≡ true) × (has q a ≡ false)
    o = outside a b (omega arith)

    u : (q : ℕ) × (has q a ≡ true) × (has q b ≡ false)
    u = outside b a (omega (arith, ap size (meet_comm b a)))

    x : ℕ
    x = o.0

    y : ℕ
    y = u.0

    r : ℕ
    r = out y a

    c : ℕ
    c = into x r

    rx : has x r ≡ false
    rx = not_so (has x r) (λ t. never (has x a) (out_part y x a t) o.2)

    mx : has x (meet a b) ≡ false
    mx = not_so (has x (meet a b)) (λ t. never (has x a) (meet_l x a b t) o.2)

    -- a and c share a without y
    shared : meet a c ≡ r
    shared = same_parts (meet a c) r (λ q t. pick q (meet_l q a c t) (into_cases x q r (meet_r q a c t))) (λ q t. meet_in q a c (out_part y q a t) (into_keeps x q r t))
      where
        pick : (q : ℕ) → has q a ≡ true → (q ≡ x) ⊎ (has q r ≡ true) → has q r ≡ true
        pick q t (inl e) = never (has q a) t (ap (λ (z : ℕ). has z a) e ∙ o.2)
        pick q t (inr s) = s

    -- c and b share x and what a and b share
    nearer : sub (into x (meet a b)) (meet c b) ≡ true
    nearer =
        into_within x (meet a b) (meet c b) (meet_in x c b (into_has x r) o.1)
        (has_sub (meet a b) (meet c b) (λ q t. meet_in q c b (into_keeps x q r (out_keeps y q a (meet_l q a b t) (apart q (meet_r q a b t)))) (meet_r q a b t)))
      where
        apart : (q : ℕ) → has q b ≡ true → q ≡ y → ⊥
        apart q t e = never (has q b) t (ap (λ (z : ℕ). has z b) e ∙ u.2)

-- k-sets that share k - 1 parts or more are one, or adjacent
pub near : {F : List ℕ} (k a b : ℕ) → size a ≡ k → size b ≡ k → k ≤ suc (size (meet a b)) → a ∈ F → b ∈ F → Chain (adjacent k) F a b
unfolding adjacent
near {F} k a b sa sb l m n = go (split (eqb (suc (size (meet a b))) k))
  where
    go : (eqb (suc (size (meet a b))) k ≡ true) ⊎ (eqb (suc (size (meet a b))) k ≡ false) → Chain (adjacent k) F a b
    go (inl t) = next m t (alone n)
    go (inr t) =
        let d : suc (size (meet a b)) ≡ k → ⊥ = eqb-false (suc (size (meet a b))) k t in
        subst (λ (z : ℕ). Chain (adjacent k) F a z) (same_set k a b sa sb (far d)) (alone m)
      where
        far : (suc (size (meet a b)) ≡ k → ⊥) → k ≤ size (meet a b)
        far d = pick (lt_or_le (size (meet a b)) k)
          where
            pick : (size (meet a b) < k) ⊎ (k ≤ size (meet a b)) → k ≤ size (meet a b)
            pick (inl s) = absurd (d (omega arith))
            pick (inr s) = s

-- all k-sets of A are in F
module _ (k A : ℕ) (F : List ℕ) (full : (c : ℕ) → size c ≡ k → sub c A ≡ true → c ∈ F) where
  steps : (n a b : ℕ) → k ≤ size (meet a b) + n → size a ≡ k → size b ≡ k → sub a A ≡ true → sub b A ≡ true → Chain (adjacent k) F a b
  steps zero a b l sa sb ia ib = near k a b sa sb (omega arith) (full a sa ia) (full b sb ib)
  steps (suc n) a b l sa sb ia ib = go (lt_or_le (size (meet a b)) k) (steps n)
    where
      go : (size (meet a b) < k) ⊎ (k ≤ size (meet a b))
          → ((c d : ℕ) → k ≤ size (meet c d) + n → size c ≡ k → size d ≡ k → sub c A ≡ true → sub d A ≡ true → Chain (adjacent k) F c d) → Chain (adjacent k) F a b
      go (inl t) rest =
          let e = exchange k a b A sa sb ia ib t in
          let c : ℕ = e.0 in
          chain_trans (near k a c sa e.1.sized (omega (arith, e.1.beside)) (full a sa ia) (full c e.1.sized e.1.within))
          (rest c b (omega (arith, e.1.closer)) e.1.sized sb e.1.within ib)
      go (inr t) rest = near k a b sa sb (omega arith) (full a sa ia) (full b sb ib)

  pub within_chain : (a b : ℕ) → size a ≡ k → size b ≡ k → sub a A ≡ true → sub b A ≡ true → Chain (adjacent k) F a b
  within_chain a b = steps k a b (omega arith)

-- the k-cliques inside one clique are joined
pub clique_chain : (L : List Link) (p k n A a b : ℕ) → Clique L p n A → size a ≡ k → size b ≡ k → sub a A ≡ true → sub b A ≡ true
    → Chain (adjacent k) (cliques L p k) a b
clique_chain L p k n A a b t = within_chain k A (cliques L p k) (λ c s i. inside_clique L p n A k c t i s) a b
