-- The listing is that of the chain classes, and no other list is. Assumes nothing.
use mathlib.Core.Path.{◌≡◌, refl, sym, ap₂, ◌∙◌, subst, subst⁻¹}
use mathlib.Core.Bool.{true}
use mathlib.Core.List.Memᴰ
use mathlib.Core.List.{List, [], ◌∷◌, map}
use Prim.Native.Nat.{ℕ}
use Rattle.sets.specs.Lists.{◌∈◌}
use Rattle.sets.specs.Sets.{has, before}
use Rattle.sets.proofs.ListLaws.{Holds, rising_each, each_rising, rising_same}
use Rattle.sets.proofs.Parts.{same_parts}
use Rattle.sets.proofs.Order.{set_order}
use Rattle.percolation.specs.Percolate.{adjacent, Chain, Community, shown, communities, ChainListing}
use Rattle.percolation.specs.Links.{Link, cliques, family, listing}
use Rattle.percolation.proofs.Chains.{adjacent_sym, chain_sym, chain_trans}
use Rattle.percolation.proofs.Communities.{communities_of, communities_rising, home, home_only, at_part, at_has}
use Rattle.percolation.proofs.Levels.{heavy_zero}

-- the communities are the classes that chains make
pub communities_chains : (k : ℕ) (F : List ℕ) → ChainListing k F (communities k F)
communities_chains k F = record {
  member = λ c m. (communities_of k F c m).member;
  least = λ c m. (communities_of k F c m).least;
  parts = λ c m b q d h. subst⁻¹ (λ (w : ℕ). has q w ≡ true) (communities_of k F c m).union (at_has k F c.small q b d h);
  part = λ c m q h. at_part k F c.small q (subst (λ (w : ℕ). has q w ≡ true) (communities_of k F c m).union h);
  every = home k F;
  once = λ a c d m n x y. home_only k F c d m n (chain_trans x (chain_sym (adjacent_sym k) y));
  rising = rising_each before (map (λ (c : Community). c.small) (communities k F)) (communities_rising k F);
}

-- so for a listing at a threshold
pub listing_chains : (L : List Link) (p k t : ℕ) → ChainListing k (family L p k t) (listing L p k t)
unfolding listing
listing_chains L p k t = communities_chains k (family L p k t)

-- the listing of all links is that of their k-cliques
pub all_chains : (L : List Link) (p k : ℕ) → ChainListing k (cliques L p k) (listing L p k 0)
unfolding family
all_chains L p k = subst (λ (M : List Link). ChainListing k (cliques M p k) (listing L p k 0)) (heavy_zero L) (listing_chains L p k 0)

-- ---- two lists of the chain classes of one family are the same list

module _ (k : ℕ) (F : List ℕ) where
  -- what one of them says of the other's communities
  module _ (C D : List Community) (x : ChainListing k F C) (y : ChainListing k F D) where
    class_small : (c : Community) → c ∈ C → (d : Community) × d ∈ D × (d.small ≡ c.small)
    class_small c m =
        let r = y.every c.small (x.member c m) in
        let d = r.0 in
        (d, r.1, set_order.total d.small c.small (x.least c m d.small (chain_sym (adjacent_sym k) r.2)) (y.least d r.1 c.small r.2))

    smalls_held : Holds (map (λ (d : Community). d.small) D) (map (λ (c : Community). c.small) C)
    smalls_held s m =
        let r = Memᴰ.of_map (λ (c : Community). c.small) C m in
        let h = class_small r.0 r.1 in
        subst (λ (z : ℕ). z ∈ map (λ (d : Community). d.small) D) (h.2 ∙ r.2) (Memᴰ.map (λ (d : Community). d.small) h.1)

    whole_held : (c d : Community) → c ∈ C → d ∈ D → c.small ≡ d.small → (q : ℕ) → has q c.whole ≡ true → has q d.whole ≡ true
    whole_held c d m n e q h =
        let r = x.part c m q h in
        y.parts d n r.0 q (subst (λ (a : ℕ). Chain (adjacent k) F a r.0) e r.1) r.2

  chains_same : (C D : List Community) → ChainListing k F C → ChainListing k F D → (c d : Community) → c ∈ C → d ∈ D → c.small ≡ d.small → c ≡ d
  chains_same C D x y c d m n e = ap₂ shown e (same_parts c.whole d.whole (whole_held C D x y c d m n e) (whole_held D C y x d c n m (sym e)))

  by_smalls : (C D : List Community) → ((c d : Community) → c ∈ C → d ∈ D → c.small ≡ d.small → c ≡ d)
      → map (λ (c : Community). c.small) C ≡ map (λ (d : Community). d.small) D → C ≡ D
  by_smalls [] [] f e = refl
  by_smalls [] (d ∷ D) f e = cc
  by_smalls (c ∷ C) [] f e = cc
  by_smalls (c ∷ C) (d ∷ D) f e =
      let first : c.small ≡ d.small = cc in
      let rest : map (λ (a : Community). a.small) C ≡ map (λ (b : Community). b.small) D = cc in
      ap₂ (λ (a : Community) (l : List Community). a ∷ l) (f c d (Memᴰ.head refl) (Memᴰ.head refl) first)
      (by_smalls C D (λ a b i j g. f a b (Memᴰ.tail i) (Memᴰ.tail j) g) rest)

  pub chains_only : (C D : List Community) → ChainListing k F C → ChainListing k F D → C ≡ D
  chains_only C D x y =
      by_smalls C D (chains_same C D x y)
      (rising_same before set_order _ _ (each_rising before _ x.rising) (each_rising before _ y.rising) (smalls_held C D x y) (smalls_held D C y x))
