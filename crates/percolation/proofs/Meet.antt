-- The meeting weight is the largest threshold from 1 at which a chain joins the two, never where none does; with itself a clique's weakest link;
-- of three meeting weights the two lowest are equal. Assumes nothing.
use mathlib.Core.Path.{◌≡◌, refl, sym, ap, ◌∙◌, subst}
use mathlib.Core.Logic.{◌⊎◌, inl, inr}
use mathlib.Core.Bool.{Bool, true}
use mathlib.Core.List.{List}
use Prim.Native.Nat.{ℕ, zero, suc, ◌≤◌, ◌<◌, min}
use native.Mathlib.Omega.{arith}
use Rattle.sets.specs.Lists.{◌∈◌, any, keep}
use Rattle.sets.specs.Sets.{has}
use Rattle.sets.proofs.Tests.{lt_or_le}
use Rattle.sets.proofs.ListLaws.{any_at, any_of, keep_at, keep_of, each_two_once}
use Rattle.percolation.specs.Percolate.{adjacent, Chain, alone}
use Rattle.percolation.specs.Links.{Link, heavy, joins, linked, inside, cliques, family}
use Rattle.percolation.specs.Levels.{Meeting, met, never, levels, joined_at, meeting, weight_of, MeetsAt, Weakest, TwoLowest}
use Rattle.percolation.specs.Steps.{legal}
use Rattle.percolation.proofs.Accepted.{good_parts_lem, legal_parts, legal_positive, legal_apart, joins_turn}
use Rattle.percolation.proofs.Chains.{adjacent_sym, first_in, chain_trans, chain_sym, joined_chain, chain_joined}
use Rattle.percolation.proofs.Families.{Clique, cliques_of, cliques_at, joins_inside, inside_ends, ends_inside, clique_link, chain_lower}
use Rattle.percolation.proofs.Levels.{heavy_of, heavy_at, levels_of, levels_at, largest_met, largest_never, nearest, Nearest, raise_links}

module _ (L : List Link) (p k : ℕ) (two : 2 ≤ k) where
  -- a link lies in a member of the family at t, so some link weighs t or more
  kept_some : (t s : ℕ) → s ∈ family L p k t → (e : Link) × e ∈ L × (t ≤ e.weight)
  unfolding family
  kept_some t s m =
      let f = clique_link (heavy t L) p k s two m in
      let g = heavy_of t L f.1 in
      (f.0, g.0, g.1)

  -- a chain at a threshold is a chain at a level no lower
  raise : (t a b : ℕ) → Chain (adjacent k) (family L p k t) a b → (v : ℕ) × v ∈ levels L × (t ≤ v) × Chain (adjacent k) (family L p k v) a b
  unfolding family
  raise t a b c = go (nearest t L)
    where
      go : ((l : Link) → l ∈ L → l.weight < t) ⊎ ((v : Link) × Nearest t L v) → (v : ℕ) × v ∈ levels L × (t ≤ v) × Chain (adjacent k) (family L p k v) a b
      go (inl f) = let e = kept_some t a (first_in c) in absurd (omega (arith, f e.0 e.1, e.2))
      go (inr r) =
          (r.0.weight, levels_at L r.0 r.1.0, r.1.1, subst (λ (M : List Link). Chain (adjacent k) (cliques M p k) a b) (raise_links t L r.0 r.1) c)

  module _ (weights : (l : Link) → l ∈ L → 1 ≤ l.weight) (a b : ℕ) where
    test : ℕ → Bool
    test t = joined_at L p k t a b

    -- a weight that the meeting gives is the largest threshold at which a chain joins the two, and the other way round
    pub meeting_of_lem : (w : ℕ) → meeting L p k a b ≡ met w → MeetsAt L p k a b w
    unfolding meeting test joined_at
    meeting_of_lem w e =
        let h = largest_met (keep test (levels L)) w e in
        let g = keep_of test (levels L) h.0 in
        let l = levels_of L w g.0 in
        record {
          positive = omega (arith, weights l.0 l.1, l.2);
          joined = joined_chain k (family L p k w) a b g.1;
          top = λ t _ c.
              let r = raise t a b c in
              omega (arith, r.2, h.1 r.0 (keep_at test (levels L) r.1 (chain_joined k (family L p k r.0) a b r.3)));
        }

    pub never_of : meeting L p k a b ≡ never → (t : ℕ) → Chain (adjacent k) (family L p k t) a b → ⊥
    unfolding meeting test joined_at
    never_of e t c =
        let r = raise t a b c in
        largest_never (keep test (levels L)) e r.0 (keep_at test (levels L) r.1 (chain_joined k (family L p k r.0) a b r.3))

    pub meeting_at : (w : ℕ) → MeetsAt L p k a b w → meeting L p k a b ≡ met w
    meeting_at w h = go (meeting L p k a b) refl
      where
        go : (m : Meeting) → meeting L p k a b ≡ m → m ≡ met w
        go (met v) e =
            let g = meeting_of_lem v e in
            ap met (omega (arith, g.top w h.positive h.joined, h.top v g.positive g.joined))
        go never e = absurd (never_of e w h.joined)

    pub never_at : ((t : ℕ) → 1 ≤ t → Chain (adjacent k) (family L p k t) a b → ⊥) → meeting L p k a b ≡ never
    never_at h = go (meeting L p k a b) refl
      where
        go : (m : Meeting) → meeting L p k a b ≡ m → m ≡ never
        go (met v) e = let g = meeting_of_lem v e in absurd (h v g.positive g.joined)
        go never e = refl

  -- ---- the two lowest of three are equal

  module _ (weights : (l : Link) → l ∈ L → 1 ≤ l.weight) where
    weight : ℕ → ℕ → ℕ
    weight a b = weight_of (meeting L p k a b)

    -- what reaches a threshold is joined there
    reaches : (a b t : ℕ) → 1 ≤ t → t ≤ weight a b → Chain (adjacent k) (family L p k t) a b
    unfolding weight weight_of
    reaches a b t h l = go (meeting L p k a b) refl
      where
        go : (m : Meeting) → meeting L p k a b ≡ m → Chain (adjacent k) (family L p k t) a b
        go (met w) e =
            let s : weight a b ≡ w = ap weight_of e in
            chain_lower L p k w t (omega arith) (meeting_of_lem weights a b w e).joined
        go never e = let s : weight a b ≡ 0 = ap weight_of e in absurd (omega arith)

    reached : (a b t : ℕ) → 1 ≤ t → Chain (adjacent k) (family L p k t) a b → t ≤ weight a b
    unfolding weight weight_of
    reached a b t h c = go (meeting L p k a b) refl
      where
        go : (m : Meeting) → meeting L p k a b ≡ m → t ≤ weight a b
        go (met w) e = let s : weight a b ≡ w = ap weight_of e in omega (arith, (meeting_of_lem weights a b w e).top t h c)
        go never e = absurd (never_of weights a b e t c)

    pub meeting_sym : (a b : ℕ) → weight_of (meeting L p k a b) ≡ weight_of (meeting L p k b a)
    unfolding weight
    meeting_sym a b = omega (arith, half a b (weight a b) refl, half b a (weight b a) refl)
      where
        half : (x y n : ℕ) → weight x y ≡ n → weight x y ≤ weight y x
        half x y zero e = omega arith
        half x y (suc n) e =
            omega (arith, reached y x (suc n) (omega arith) (chain_sym (adjacent_sym k) (reaches x y (suc n) (omega arith) (omega arith))))

    -- the third is no lower than the lower of two
    pub meeting_ultra : (a b c : ℕ) → min (weight_of (meeting L p k a b)) (weight_of (meeting L p k b c)) ≤ weight_of (meeting L p k a c)
    unfolding weight
    meeting_ultra a b c = go (min (weight a b) (weight b c)) refl
      where
        go : (n : ℕ) → min (weight a b) (weight b c) ≡ n → min (weight a b) (weight b c) ≤ weight a c
        go zero e = omega arith
        go (suc n) e =
            omega (
              arith,
              reached a c (suc n) (omega arith)
                  (chain_trans (reaches a b (suc n) (omega arith) (omega arith)) (reaches b c (suc n) (omega arith) (omega arith))),
            )

pub two_lowest : (L : List Link) (p k : ℕ) → 2 ≤ k → ((l : Link) → l ∈ L → 1 ≤ l.weight) → (a b c : ℕ)
    → TwoLowest (weight_of (meeting L p k a b)) (weight_of (meeting L p k b c)) (weight_of (meeting L p k a c))
two_lowest L p k two weights a b c =
    sorted (w a b) (w b c) (w a c) (meeting_ultra L p k two weights a b c)
    (sym_min (meeting_ultra L p k two weights b a c)) (sym_min₂ (meeting_ultra L p k two weights a c b))
  where
    w : ℕ → ℕ → ℕ
    w x y = weight_of (meeting L p k x y)

    sym_min : min (w b a) (w a c) ≤ w b c → min (w a b) (w a c) ≤ w b c
    sym_min h = omega (arith, meeting_sym L p k two weights a b)

    sym_min₂ : min (w a c) (w c b) ≤ w a b → min (w a c) (w b c) ≤ w a b
    sym_min₂ h = omega (arith, meeting_sym L p k two weights b c)

    sorted : (x y z : ℕ) → min x y ≤ z → min x z ≤ y → min z y ≤ x → TwoLowest x y z
    sorted x y z f g h = go (lt_or_le x y) (lt_or_le y z) (lt_or_le x z)
      where
        go : (x < y) ⊎ (y ≤ x) → (y < z) ⊎ (z ≤ y) → (x < z) ⊎ (z ≤ x) → TwoLowest x y z
        go (inl a) b c = inr (inr (omega arith, omega arith))
        go (inr a) (inl b) c = inl (omega arith, omega arith)
        go (inr a) (inr b) (inl c) = inr (inl (omega arith, omega arith))
        go (inr a) (inr b) (inr c) = inr (inl (omega arith, omega arith))

-- ---- a clique with itself

-- two links of one pair in a legal list are one
pub one_link : (p : ℕ) (L : List Link) → legal p L ≡ true → (l m : Link) → l ∈ L → m ∈ L → joins l.low l.high m ≡ true → l ≡ m
one_link p L ok l m i j h = each_two_once (λ x y. joins x.low x.high y) (λ x y e. sym (joins_turn x y) ∙ e) L (legal_apart p L ok) l m i j h

-- a link of a legal list that lies in a clique at t weighs t or more: the clique's own link of that pair is this one
pub inside_heavy : (L : List Link) (p k t a : ℕ) → legal p L ≡ true → a ∈ cliques (heavy t L) p k → (l : Link) → l ∈ L → inside a l ≡ true → t ≤ l.weight
unfolding linked
inside_heavy L p k t a ok m l i x =
    let e = inside_ends a l x in
    let d = cliques_of (heavy t L) p k m in
    let f = any_of (joins l.low l.high) (heavy t L) (d.each l.low l.high (λ z. apart z) e.0 e.1) in
    let g = heavy_of t L f.1 in
    omega (arith, g.1, ap (λ (y : Link). y.weight) (one_link p L ok l f.0 i g.0 f.2))
  where
    apart : l.low ≡ l.high → ⊥
    apart e = omega (arith, (good_parts_lem p l (legal_parts p L ok l i)).0)

module _ (L : List Link) (p k : ℕ) (two : 2 ≤ k) (ok : legal p L ≡ true) where
  pub meeting_self : (a w : ℕ) → a ∈ cliques L p k → Weakest L a w → meeting L p k a a ≡ met w
  unfolding family linked
  meeting_self a w m h =
      meeting_at L p k two (legal_positive p L ok) a a w (record {
        positive = omega (arith, h.weighs, legal_positive p L ok h.bond h.member);
        joined = alone (cliques_at (heavy w L) p k a (record { fits = c.fits; sized = c.sized; each = kept }));
        top = λ t _ d. top t (first_in d);
      })
    where
      c : Clique L p k a
      c = cliques_of L p k m

      kept : (q r : ℕ) → (q ≡ r → ⊥) → has q a ≡ true → has r a ≡ true → any (joins q r) (heavy w L) ≡ true
      kept q r ne x y =
          let f = any_of (joins q r) L (c.each q r ne x y) in
          let i = inside_ends a f.0 (joins_inside a q r f.0 x y f.2) in
          any_at (joins q r) (heavy w L) (heavy_at w L f.1 (h.least f.0 f.1 i.0 i.1)) f.2

      top : (t : ℕ) → a ∈ cliques (heavy t L) p k → t ≤ w
      top t i = omega (arith, inside_heavy L p k t a ok i h.bond h.member (ends_inside a h.bond h.lower h.higher), h.weighs)

  -- a clique has a weakest link
  pub weakest_of_lem : (a : ℕ) → a ∈ cliques L p k → (w : ℕ) × Weakest L a w
  weakest_of_lem a m = go (nearest 0 (keep (inside a) L))
    where
      some : (l : Link) × l ∈ keep (inside a) L
      some = let f = clique_link L p k a two m in (f.0, keep_at (inside a) L f.1 f.2)

      go : ((l : Link) → l ∈ keep (inside a) L → l.weight < 0) ⊎ ((v : Link) × Nearest 0 (keep (inside a) L) v) → (w : ℕ) × Weakest L a w
      go (inl f) = absurd (omega (arith, f some.0 some.1))
      go (inr r) =
          let g = keep_of (inside a) L r.1.0 in
          let i = inside_ends a r.0 g.1 in (
            r.0.weight,
            record {
              bond = r.0;
              member = g.0;
              lower = i.0;
              higher = i.1;
              weighs = refl;
              least = λ l n x y. r.1.2 l (keep_at (inside a) L n (ends_inside a l x y)) (omega arith);
            },
          )
