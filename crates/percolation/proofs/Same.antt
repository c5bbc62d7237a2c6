-- Families, listings, slots and meetings depend on the set of links alone: not on the order of links, nor on a larger part count.
-- Assumes nothing.
use mathlib.Core.Path.{◌≡◌, refl, sym, ap, ap₂, ◌∙◌}
use mathlib.Core.Logic.{◌⊎◌, inl, inr}
use mathlib.Core.Bool.{true}
use mathlib.Core.List.{List, [], ◌∷◌, ◌++◌}
use Prim.Native.Nat.{ℕ, suc, ◌+◌, ◌≤◌, ◌<◌}
use lib.ListN.{length}
use native.Mathlib.Omega.{arith}
use Rattle.sets.specs.Lists.{◌∈◌, keep}
use Rattle.sets.proofs.ListLaws.{Holds, any_of, keep_same, keep_at, keep_of}
use Rattle.sets.proofs.Members.{union_same}
use Rattle.sets.proofs.Parts.{another}
use Rattle.percolation.specs.Percolate.{Community, joined, union_at}
use Rattle.percolation.specs.Links.{Link, heavy, joins, linked, cliques, family, listing, slots}
use Rattle.percolation.specs.Levels.{levels, joined_at, largest, meeting}
use Rattle.percolation.specs.Steps.{legal}
use Rattle.percolation.specs.Tree.{Start, Branch, Level, class_at, held_by, level_of, starts_from, goes_into, Line, line, last_level, whole_of, lines_from, tree}
use Rattle.percolation.proofs.Accepted.{legal_parts, good_parts_lem}
use Rattle.percolation.proofs.Chains.{joined_same}
use Rattle.percolation.proofs.Communities.{communities_same}
use Rattle.percolation.proofs.Families.{cliques_of, cliques_at, joins_ends, linked_mono, in_sets}
use Rattle.percolation.proofs.Levels.{heavy_of, heavy_at, levels_same}
use Rattle.percolation.proofs.SlotCount.{slots_same}

-- every link has its parts below p
abbrev pub Below : ℕ → List Link → Type 0
Below p L = (l : Link) → l ∈ L → (l.low < p) × (l.high < p)

pub legal_below : (p : ℕ) (L : List Link) → legal p L ≡ true → Below p L
legal_below p L ok l m = let g = good_parts_lem p l (legal_parts p L ok l m) in (omega (arith, g.0, g.1), g.1)

pub heavy_held : (t : ℕ) (L M : List Link) → Holds M L → Holds (heavy t M) (heavy t L)
heavy_held t L M h l m = let r = heavy_of t L m in heavy_at t M (h l r.0) r.1

heavy_below : (t p : ℕ) (L : List Link) → Below p L → Below p (heavy t L)
heavy_below t p L h l m = h l (heavy_of t L m).0

linked_below : (p : ℕ) (L : List Link) → Below p L → (q r : ℕ) → linked L q r ≡ true → q < p
unfolding linked
linked_below p L h q r t = let f = any_of (joins q r) L t in go f.0 (h f.0 f.1) (joins_ends q r f.0 f.2)
  where
    go : (e : Link) → (e.low < p) × (e.high < p) → ((e.low ≡ q) × (e.high ≡ r)) ⊎ ((e.low ≡ r) × (e.high ≡ q)) → q < p
    go e b (inl s) = omega (arith, b.0, s.0)
    go e b (inr s) = omega (arith, b.1, s.1)

module _ (p r k : ℕ) (two : 2 ≤ k) where
  -- the cliques of the same links, whatever the part count above their parts
  pub cliques_held : (L M : List Link) → Holds M L → Below r M → Holds (cliques M r k) (cliques L p k)
  cliques_held L M h b s m =
      let c = cliques_of L p k m in
      cliques_at M r k s (record {
        fits = λ q x.
            let o = another q s (omega (arith, c.sized)) in
            linked_below r M b q o.0 (linked_mono L M h q o.0 (c.each q o.0 o.2 x o.1));
        sized = c.sized;
        each = λ q z ne x y. linked_mono L M h q z (c.each q z ne x y);
      })

  pub family_held : (L M : List Link) (t : ℕ) → Holds M L → Below r M → Holds (family M r k t) (family L p k t)
  unfolding family
  family_held L M t h b = cliques_held (heavy t L) (heavy t M) (heavy_held t L M h) (heavy_below t r M b)

module _ (L M : List Link) (p r k : ℕ) (two : 2 ≤ k) (f : Holds M L) (g : Holds L M) (lowL : Below p L) (lowM : Below r M) where
  pub listing_same : (t : ℕ) → listing L p k t ≡ listing M r k t
  unfolding listing
  listing_same t = communities_same k (family L p k t) (family M r k t) (family_held p r k two L M t f lowM) (family_held r p k two M L t g lowL)

  pub slots_links : (t : ℕ) → slots p k (family L p k t) ≡ slots r k (family M r k t)
  unfolding family
  slots_links t =
      slots_same p r k (family L p k t) (family M r k t) (family_held p r k two L M t f lowM) (family_held r p k two M L t g lowL)
      (λ s m. in_sets p s (cliques_of (heavy t L) p k m).fits) (λ s m. in_sets r s (cliques_of (heavy t M) r k m).fits)

  pub joined_links : (t a b : ℕ) → joined_at L p k t a b ≡ joined_at M r k t a b
  unfolding joined_at
  joined_links t a b = joined_same k (family L p k t) (family M r k t) (family_held p r k two L M t f lowM) (family_held r p k two M L t g lowL) a b

  pub meeting_same : (a b : ℕ) → meeting L p k a b ≡ meeting M r k a b
  unfolding meeting
  meeting_same a b =
      ap (λ (l : List ℕ). largest (keep (λ t. joined_at L p k t a b) l)) (levels_same L M f g)
      ∙ ap largest (keep_same (λ t. joined_at L p k t a b) (λ t. joined_at M r k t a b) (levels M) (λ t m. joined_links t a b))

  held_same : (w : ℕ) (P : List Branch) (c : Community) → held_by L p k w P c ≡ held_by M r k w P c
  unfolding held_by
  held_same w P c = keep_same (λ b. joined_at L p k w c.small b.small) (λ b. joined_at M r k w c.small b.small) P (λ b m. joined_links w c.small b.small)

  level_same : (w : ℕ) (P : List Branch) (n : ℕ) (C : List Community) → level_of L p k w P n C ≡ level_of M r k w P n C
  unfolding level_of
  level_same w P n [] = refl
  level_same w P n (c ∷ C) =
      ap (λ (h : List Branch). class_at w n c h (level_of L p k w P n C) (level_of L p k w P (suc n) C)) (held_same w P c)
      ∙ ap₂ (class_at w n c (held_by M r k w P c)) (level_same w P n C) (level_same w P (suc n) C)

  starts_same : (P : List Branch) (n : ℕ) (W : List ℕ) → starts_from L p k P n W ≡ starts_from M r k P n W
  unfolding starts_from listing
  starts_same P n [] = refl
  starts_same P n (w ∷ W) =
      ap (λ (v : Level). v.starts ++ starts_from L p k v.branches (n + length v.starts) W) one_level
      ∙ ap (λ (rest : List Start). next.starts ++ rest) (starts_same next.branches (n + length next.starts) W)
    where
      next : Level
      next = level_of M r k w P n (listing M r k w)

      one_level : level_of L p k w P n (listing L p k w) ≡ level_of M r k w P n (listing M r k w)
      one_level = level_same w P n (listing L p k w) ∙ ap (level_of M r k w P n) (listing_same w)

  union_links : (t a : ℕ) → union_at k (family L p k t) a ≡ union_at k (family M r k t) a
  unfolding union_at
  union_links t a =
      union_same (keep (joined k (family L p k t) a) (family L p k t)) (keep (joined k (family M r k t) a) (family M r k t))
      (λ b m. let h = keep_of (joined k (family L p k t) a) (family L p k t) m in
      keep_at (joined k (family M r k t) a) (family M r k t) (to b h.0) (sym (same a b) ∙ h.1))
      (λ b m. let h = keep_of (joined k (family M r k t) a) (family M r k t) m in
      keep_at (joined k (family L p k t) a) (family L p k t) (fro b h.0) (same a b ∙ h.1))
    where
      to : Holds (family M r k t) (family L p k t)
      to = family_held p r k two L M t f lowM

      fro : Holds (family L p k t) (family M r k t)
      fro = family_held r p k two M L t g lowL

      same : (a b : ℕ) → joined k (family L p k t) a b ≡ joined k (family M r k t) a b
      same = joined_same k (family L p k t) (family M r k t) to fro

  lines_links : (W : List ℕ) (S : List Start) (n : ℕ) (X : List Start) → lines_from L p k W S n X ≡ lines_from M r k W S n X
  unfolding lines_from whole_of
  lines_links W S n [] = refl
  lines_links W S n (x ∷ X) =
      ap₂ (λ (u : ℕ) (Y : List Line). line x.weight (length x.joins) (goes_into n 1 S) x.small u ∷ Y)
      (union_links (last_level W S n) x.small) (lines_links W S (suc n) X)

  pub tree_same : tree L p k ≡ tree M r k
  unfolding tree
  tree_same =
      let S = starts_from M r k [] 0 (levels M) in
      ap₂ (λ (W : List ℕ) (T : List Start). lines_from L p k W T 1 T) (levels_same L M f g)
      (starts_same [] 0 (levels L) ∙ ap (starts_from M r k [] 0) (levels_same L M f g))
      ∙ lines_links (levels M) S 1 S
