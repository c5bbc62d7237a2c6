-- What the communities of a family are: each member is in exactly one, and they depend on the members alone. The order of sets is any strict
-- total order: only the laws of Rattle.sets.proofs.Order are cited. Assumes nothing.
use mathlib.Core.Path.{◌≡◌, refl, sym, ap, ap₂, ◌∙◌, subst}
use mathlib.Core.Bool.{true, false, ◌&&◌}
use mathlib.Core.List.Memᴰ
use mathlib.Core.List.{List, [], ◌∷◌, map}
use Prim.Native.Nat.{ℕ}
use borrow.Author.Tests.{not-true}
use Rattle.sets.specs.Lists.{◌∈◌, any, keep, sorted}
use Rattle.sets.specs.Sets.{has, before}
use Rattle.sets.proofs.Tests.{never, not_so, and_intro, and_left, and_right, false_not}
use Rattle.sets.proofs.ListLaws.{Holds, Rising, any_at, any_of, keep_at, keep_of, keep_rising, first_least, rising_same, sorted_of, sorted_at, sorted_rising}
use Rattle.sets.proofs.Members.{union_part, union_has, union_same}
use Rattle.sets.proofs.Order.{set_order}
use Rattle.percolation.specs.Percolate.{adjacent, Chain, alone, joined, Community, shown, smallest, union_at, communities}
use Rattle.percolation.proofs.Chains.{adjacent_sym, last_in, chain_sym, chain_trans, chain_mono, joined_chain, chain_joined}

-- a community is shown as the smallest of a class of members joined by chains, and the union of the class
pub record Shows (k : ℕ) (F : List ℕ) (c : Community) : Type 0 where
  pub member : c.small ∈ F
  pub least : (b : ℕ) → Chain (adjacent k) F c.small b → before b c.small ≡ false
  pub union : c.whole ≡ union_at k F c.small

-- ---- the union of a class

module _ (k : ℕ) (F : List ℕ) where
  pub at_part : (m q : ℕ) → has q (union_at k F m) ≡ true → (b : ℕ) × Chain (adjacent k) F m b × (has q b ≡ true)
  unfolding union_at
  at_part m q h =
      let r = union_part q (keep (joined k F m) F) h in
      (r.0, joined_chain k F m r.0 (keep_of (joined k F m) F r.1).1, r.2)

  pub at_has : (m q b : ℕ) → Chain (adjacent k) F m b → has q b ≡ true → has q (union_at k F m) ≡ true
  unfolding union_at
  at_has m q b c h = union_has q (keep (joined k F m) F) (keep_at (joined k F m) F (last_in c) (chain_joined k F m b c)) h

-- the union is that of the class, and of the members alone
pub at_same : (k : ℕ) (F G : List ℕ) → Holds G F → Holds F G → (m n : ℕ) → Chain (adjacent k) F m n → union_at k F m ≡ union_at k G n
unfolding union_at
at_same k F G f g m n c = union_same (keep (joined k F m) F) (keep (joined k G n) G) to fro
  where
    to : Holds (keep (joined k G n) G) (keep (joined k F m) F)
    to b i =
        let h = keep_of (joined k F m) F i in
        let d : Chain (adjacent k) F n b = chain_trans (chain_sym (adjacent_sym k) c) (joined_chain k F m b h.1) in
        keep_at (joined k G n) G (f b h.0) (chain_joined k G n b (chain_mono f d))

    fro : Holds (keep (joined k F m) F) (keep (joined k G n) G)
    fro b i =
        let h = keep_of (joined k G n) G i in
        keep_at (joined k F m) F (g b h.0) (chain_joined k F m b (chain_trans c (chain_mono g (joined_chain k G n b h.1))))

-- ---- the communities

module _ (k : ℕ) (F : List ℕ) where
  smallest_of : (m : ℕ) → smallest k F m ≡ true → (b : ℕ) → Chain (adjacent k) F m b → before b m ≡ false
  unfolding smallest
  smallest_of m t b c = not_so (before b m) (λ s.
      never (any (λ z. before z m && joined k F m z) F)
      (any_at (λ z. before z m && joined k F m z) F (last_in c) (and_intro (before b m) (joined k F m b) s (chain_joined k F m b c)))
      (not-true (any (λ z. before z m && joined k F m z) F) t))

  smallest_at : (m : ℕ) → ((b : ℕ) → Chain (adjacent k) F m b → before b m ≡ false) → smallest k F m ≡ true
  unfolding smallest
  smallest_at m h = false_not (any (λ z. before z m && joined k F m z) F) (not_so (any (λ z. before z m && joined k F m z) F) (λ t.
      let r = any_of (λ z. before z m && joined k F m z) F t in
      never (before r.0 m) (and_left (before r.0 m) (joined k F m r.0) r.2)
      (h r.0 (joined_chain k F m r.0 (and_right (before r.0 m) (joined k F m r.0) r.2)))))

  pub communities_of : (c : Community) → c ∈ communities k F → Shows k F c
  unfolding communities
  communities_of c n =
      let r = Memᴰ.of_map (λ m. shown m (union_at k F m)) (keep (smallest k F) (sorted before F)) n in
      let g = keep_of (smallest k F) (sorted before F) r.1 in
      subst (λ (z : Community). Shows k F z) r.2
      (record { member = sorted_of before set_order F g.0; least = smallest_of r.0 g.1; union = refl })

  pub communities_at : (c : Community) → Shows k F c → c ∈ communities k F
  unfolding communities
  communities_at c h =
      Memᴰ.cast (ap (shown c.small) h.union)
      (Memᴰ.map (λ m. shown m (union_at k F m))
      (keep_at (smallest k F) (sorted before F) (sorted_at before set_order F h.member) (smallest_at c.small h.least)))

  map_small : (l : List ℕ) → map (λ (c : Community). c.small) (map (λ m. shown m (union_at k F m)) l) ≡ l
  map_small [] = refl
  map_small (x ∷ l) = ap (λ (r : List ℕ). x ∷ r) (map_small l)

  -- they stand by smallest member
  pub communities_rising : Rising before (map (λ (c : Community). c.small) (communities k F))
  unfolding communities
  communities_rising =
      subst (λ (l : List ℕ). Rising before l) (sym (map_small (keep (smallest k F) (sorted before F))))
      (keep_rising before (smallest k F) (sorted before F) (sorted_rising before set_order F))

  -- the least of a list that has a member
  pub least_of : (l : List ℕ) {a : ℕ} → a ∈ l → (s : ℕ) × s ∈ l × ((b : ℕ) → b ∈ l → before b s ≡ false)
  least_of l m = go (sorted before l) refl (sorted_at before set_order l m)
    where
      go : (z : List ℕ) → sorted before l ≡ z → {a : ℕ} → a ∈ z → (s : ℕ) × s ∈ l × ((b : ℕ) → b ∈ l → before b s ≡ false)
      go [] e n = absurd (Memᴰ.not-nil n)
      go (s ∷ r) e n = (
        s,
        sorted_of before set_order l (subst (λ (z : List ℕ). s ∈ z) (sym e) (Memᴰ.head refl)),
        λ b i. first_least before set_order s r (subst (λ (z : List ℕ). Rising before z) e (sorted_rising before set_order l)) b
            (subst (λ (z : List ℕ). b ∈ z) e (sorted_at before set_order l i)),
      )

  -- each member is in one community: there is one, and it is the only one
  pub home : (a : ℕ) → a ∈ F → (c : Community) × c ∈ communities k F × Chain (adjacent k) F c.small a
  home a m =
      let f = least_of (keep (joined k F a) F) (keep_at (joined k F a) F m (chain_joined k F a a (alone m))) in
      let g = keep_of (joined k F a) F f.1 in
      let d = joined_chain k F a f.0 g.1 in
      let c = shown f.0 (union_at k F f.0) in (
        c,
        communities_at c (record {
          member = g.0;
          least = λ b e. f.2 b (keep_at (joined k F a) F (last_in e) (chain_joined k F a b (chain_trans d e)));
          union = refl;
        }),
        chain_sym (adjacent_sym k) d,
      )

  pub home_only : (c d : Community) → c ∈ communities k F → d ∈ communities k F → Chain (adjacent k) F c.small d.small → c ≡ d
  home_only c d m n e =
      let g = communities_of c m in
      let h = communities_of d n in
      let s : c.small ≡ d.small = set_order.total c.small d.small (h.least c.small (chain_sym (adjacent_sym k) e)) (g.least d.small e) in
      ap₂ shown s (g.union ∙ ap (union_at k F) s ∙ sym h.union)

  -- the communities of two members that a chain joins are one
  pub home_one : (a b : ℕ) (c d : Community) → c ∈ communities k F → d ∈ communities k F → Chain (adjacent k) F c.small a → Chain (adjacent k) F d.small b
      → Chain (adjacent k) F a b → c ≡ d
  home_one a b c d m n x y e = home_only c d m n (chain_trans x (chain_trans e (chain_sym (adjacent_sym k) y)))

-- ---- the communities depend on the members of the family alone

shown_same : (f : ℕ → ℕ) (l m : List ℕ) → l ≡ m → map (λ x. shown x (f x)) l ≡ map (λ x. shown x (f x)) m
shown_same f l m e = ap (λ (z : List ℕ). map (λ x. shown x (f x)) z) e

map_at : (f g : ℕ → ℕ) (l : List ℕ) → ((x : ℕ) → x ∈ l → f x ≡ g x) → map (λ x. shown x (f x)) l ≡ map (λ x. shown x (g x)) l
map_at f g [] h = refl
map_at f g (x ∷ l) h = ap₂ (λ (a : Community) (r : List Community). a ∷ r) (ap (shown x) (h x (Memᴰ.head refl))) (map_at f g l (λ y m. h y (Memᴰ.tail m)))

pub communities_same : (k : ℕ) (F G : List ℕ) → Holds G F → Holds F G → communities k F ≡ communities k G
unfolding communities
communities_same k F G f g =
    map_at (union_at k F) (union_at k G) (keep (smallest k F) (sorted before F))
    (λ m i. at_same k F G f g m m (alone (sorted_of before set_order F (keep_of (smallest k F) (sorted before F) i).0)))
    ∙ shown_same (union_at k G) (keep (smallest k F) (sorted before F)) (keep (smallest k G) (sorted before G))
    (rising_same before set_order (keep (smallest k F) (sorted before F)) (keep (smallest k G) (sorted before G))
    (keep_rising before (smallest k F) (sorted before F) (sorted_rising before set_order F))
    (keep_rising before (smallest k G) (sorted before G) (sorted_rising before set_order G)) (least_in F G f g) (least_in G F g f))
  where
    least_in : (A B : List ℕ) → Holds B A → Holds A B → Holds (keep (smallest k B) (sorted before B)) (keep (smallest k A) (sorted before A))
    least_in A B ab ba m i =
        let h = keep_of (smallest k A) (sorted before A) i in
        keep_at (smallest k B) (sorted before B) (sorted_at before set_order B (ab m (sorted_of before set_order A h.0)))
        (smallest_at k B m (λ b c. smallest_of k A m h.1 b (chain_mono ba c)))
