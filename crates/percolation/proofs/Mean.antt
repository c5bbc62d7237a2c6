-- The mean link weight of a family: it has a link and the division is exact; each of its links weighs the threshold or more; and every clique of the
-- family gives the same. Assumes nothing.
use mathlib.Core.Path.{◌≡◌, sym, ap, ◌∙◌}
use mathlib.Core.Bool.{true, ◌&&◌}
use mathlib.Core.List.{List}
use Prim.Native.Nat.{ℕ, ◌+◌, ◌*◌, ◌≤◌, ◌<◌}
use native.Mathlib.Nat.{div-add-mod', mod-lt}
use lib.Dec.{leb}
use lib.ListN.{length}
use borrow.Author.Tests.{le-leb}
use Rattle.sets.specs.Lists.{◌∈◌, keep}
use Rattle.sets.proofs.Tests.{iff, and_intro, and_left, and_right}
use Rattle.sets.proofs.ListLaws.{any_at, any_of, keep_at, keep_of, keep_same, keep_both, member_length}
use Rattle.percolation.specs.Percolate.{alone, joined}
use Rattle.percolation.specs.Links.{Link, inside, heavy, family}
use Rattle.percolation.specs.Steps.{legal}
use Rattle.percolation.specs.Levels.{joined_at}
use Rattle.percolation.specs.Weights.{weight_sum}
use Rattle.percolation.specs.Mean.{in_family, family_links, mean_of}
use Rattle.percolation.proofs.Chains.{adjacent_sym, chain_trans, chain_sym, joined_chain, chain_joined}
use Rattle.percolation.proofs.Families.{clique_link}
use Rattle.percolation.proofs.Levels.{heavy_of}
use Rattle.percolation.proofs.Meet.{inside_heavy}

-- ---- the links in the cliques that are joined to c

module _ (k : ℕ) (F : List ℕ) (c : ℕ) where
  pub in_family_of : (l : Link) → in_family k F c l ≡ true → (a : ℕ) × a ∈ F × (inside a l ≡ true) × (joined k F c a ≡ true)
  unfolding in_family
  in_family_of l t =
      let f = any_of (λ a. inside a l && joined k F c a) F t in
      (f.0, f.1, and_left (inside f.0 l) (joined k F c f.0) f.2, and_right (inside f.0 l) (joined k F c f.0) f.2)

  pub in_family_at : (l : Link) (a : ℕ) → a ∈ F → inside a l ≡ true → joined k F c a ≡ true → in_family k F c l ≡ true
  unfolding in_family
  in_family_at l a m i t = any_at (λ z. inside z l && joined k F c z) F m (and_intro (inside a l) (joined k F c a) i t)

  -- what is joined to one of two that are joined is joined to the other
  in_family_moves : (d : ℕ) → joined k F c d ≡ true → (l : Link) → in_family k F d l ≡ true → in_family k F c l ≡ true
  unfolding in_family
  in_family_moves d j l t =
      let f = any_of (λ a. inside a l && joined k F d a) F t in
      in_family_at l f.0 f.1 (and_left (inside f.0 l) (joined k F d f.0) f.2)
      (chain_joined k F c f.0 (chain_trans (joined_chain k F c d j) (joined_chain k F d f.0 (and_right (inside f.0 l) (joined k F d f.0) f.2))))

-- ---- the family of the k-clique c at threshold t

module _ (L : List Link) (p k t c : ℕ) where
  pub family_link_of : (l : Link) → l ∈ family_links L p k t c → l ∈ L × (in_family k (family L p k t) c l ≡ true)
  unfolding family_links
  family_link_of l m = keep_of (in_family k (family L p k t) c) L m

  -- some link lies in c itself
  some_link : 2 ≤ k → c ∈ family L p k t → (l : Link) × l ∈ family_links L p k t c
  unfolding family_links family
  some_link two m =
      let f = clique_link (heavy t L) p k c two m in (
        f.0,
        keep_at (in_family k (family L p k t) c) L (heavy_of t L f.1).0
            (in_family_at k (family L p k t) c f.0 c m f.2 (chain_joined k (family L p k t) c c (alone m))),
      )

  -- there is a link, and quotient and remainder are those of an exact division
  pub mean_exact : 2 ≤ k → c ∈ family L p k t
      → (1 ≤ (mean_of (family_links L p k t c)).links)
      × ((mean_of (family_links L p k t c)).sum
      ≡ (mean_of (family_links L p k t c)).quotient * (mean_of (family_links L p k t c)).links + (mean_of (family_links L p k t c)).remainder)
      × ((mean_of (family_links L p k t c)).remainder < (mean_of (family_links L p k t c)).links)
  unfolding mean_of
  mean_exact two m =
      let K = family_links L p k t c in
      let n = member_length K (some_link two m).1 in
      (n, sym (div-add-mod' (weight_sum K) (length K)), mod-lt (weight_sum K) n)

  -- each link that is counted weighs t or more, so that the links of the sheet in these cliques are those at t
  pub family_heavy : legal p L ≡ true → (l : Link) → l ∈ family_links L p k t c → t ≤ l.weight
  unfolding family
  family_heavy ok l m =
      let g = family_link_of l m in
      let a = in_family_of k (family L p k t) c l g.1 in
      inside_heavy L p k t a.0 ok a.1 l g.0 a.2

  -- of the links at t, those that are counted
  pub family_at : legal p L ≡ true → keep (in_family k (family L p k t) c) (heavy t L) ≡ family_links L p k t c
  unfolding heavy family_links family
  family_at ok =
      let f = in_family k (family L p k t) c in
      keep_both (λ l. leb t l.weight) f L
      ∙ keep_same (λ l. leb t l.weight && f l) f L (λ l m. iff (leb t l.weight && f l) (f l) (λ e. and_right (leb t l.weight) (f l) e)
      (λ e. and_intro (leb t l.weight) (f l) (le-leb t l.weight (family_heavy ok l (keep_at f L m e))) e))

-- two k-cliques of one family at t give the same links, and so the same four numbers
pub family_same : (L : List Link) (p k t a b : ℕ) → joined_at L p k t a b ≡ true → family_links L p k t a ≡ family_links L p k t b
unfolding family_links joined_at
family_same L p k t a b j =
    let F = family L p k t in
    let back = chain_joined k F b a (chain_sym (adjacent_sym k) (joined_chain k F a b j)) in
    keep_same (in_family k F a) (in_family k F b) L
    (λ l _. iff (in_family k F a l) (in_family k F b l) (in_family_moves k F b a back l) (in_family_moves k F a b j l))

pub mean_same : (L : List Link) (p k t a b : ℕ) → joined_at L p k t a b ≡ true → mean_of (family_links L p k t a) ≡ mean_of (family_links L p k t b)
mean_same L p k t a b j = ap mean_of (family_same L p k t a b j)
