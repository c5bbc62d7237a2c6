-- The weights of a clique's links, and its weakest link: the k-cliques whose weakest link weighs t or more are those of the links of weight t or more.
-- Assumes nothing.
use mathlib.Core.Path.{◌≡◌, refl, sym, ap, ◌∙◌, subst}
use mathlib.Core.Logic.{◌⊎◌, inl, inr}
use mathlib.Core.Bool.{true, false, ◌&&◌}
use mathlib.Core.List.Memᴰ
use mathlib.Core.List.{List, [], ◌∷◌, ◌++◌, map}
use Prim.Native.Nat.{ℕ, suc, ◌+◌, ◌*◌, ◌≤◌, ◌<◌}
use native.Mathlib.Nat.{suc-mul, mul-suc, mul-le-mul_right}
use native.Mathlib.Omega.{arith}
use lib.Dec.{eqb, ltb}
use lib.ListN.{length, length-append, length-map}
use borrow.Author.Tests.{leb-true, le-leb, ltb-true}
use Rattle.sets.specs.Lists.{◌∈◌, all, each_two}
use Rattle.sets.specs.Sets.{has, size, members, sets_of}
use Rattle.sets.proofs.Tests.{split, iff, never, and_intro, and_left, and_right}
use Rattle.sets.proofs.ListLaws.{Rising, any_at, any_of, all_of, keep_both, keep_same}
use Rattle.sets.proofs.Members.{member_in, in_member, members_rising, members_length, sets_of_lem}
use Rattle.percolation.specs.Percolate.{communities}
use Rattle.percolation.specs.Links.{Link, heavy, joins, linked, clique, cliques, family, listing}
use Rattle.percolation.specs.Levels.{Weakest}
use Rattle.percolation.specs.Steps.{legal}
use Rattle.percolation.specs.Strength.{weight_between, each_pair, pairs_of, weights_in, weakest_of, by_weakest, strong, strong_listing}
use Rattle.percolation.proofs.Levels.{heavy_of, heavy_at}
use Rattle.percolation.proofs.Families.{clique_of, clique_at, cliques_of, linked_mono, inside_ends, joins_inside, joins_own}
use Rattle.percolation.proofs.Accepted.{falls, good_parts_lem, legal_falls, legal_parts}
use Rattle.percolation.proofs.Meet.{one_link}

-- ---- the weight between two parts

pub between_first : (l : Link) (L : List Link) (q r : ℕ) → joins q r l ≡ true → weight_between (l ∷ L) q r ≡ l.weight
unfolding weight_between
between_first l L q r e = rw (weight_between, e)

pub between_later : (l : Link) (L : List Link) (q r : ℕ) → joins q r l ≡ false → weight_between (l ∷ L) q r ≡ weight_between L q r
unfolding weight_between
between_later l L q r e = rw (weight_between, e)

-- of two linked parts it is that of a link of them
pub between_link : (L : List Link) (q r : ℕ) → linked L q r ≡ true → (l : Link) × l ∈ L × (joins q r l ≡ true) × (weight_between L q r ≡ l.weight)
unfolding linked
between_link L q r t = let f = any_of (joins q r) L t in found L f.0 f.1 f.2
  where
    Found : List Link → Type 0
    Found M = (l : Link) × l ∈ M × (joins q r l ≡ true) × (weight_between M q r ≡ l.weight)

    found : (M : List Link) (m : Link) → m ∈ M → joins q r m ≡ true → Found M
    found [] m i e = absurd (Memᴰ.not-nil i)
    found (x ∷ M) m i e = go (split (joins q r x)) (Memᴰ.cases_cons i) (λ j. found M m j e)
      where
        go : (joins q r x ≡ true) ⊎ (joins q r x ≡ false) → (m ≡ x) ⊎ m ∈ M → (m ∈ M → Found M) → Found (x ∷ M)
        go (inl y) j rest = (x, Memᴰ.head refl, y, between_first x M q r y)
        go (inr n) (inl d) rest = never (joins q r x) (ap (joins q r) (sym d) ∙ e) n
        go (inr n) (inr j) rest = let f = rest j in (f.0, Memᴰ.tail f.1, f.2, between_later x M q r n ∙ f.3)

-- where weights never rise no link of them weighs more
between_most : (L : List Link) (q r : ℕ) → each_two falls L ≡ true → (m : Link) → m ∈ L → joins q r m ≡ true → m.weight ≤ weight_between L q r
unfolding each_two
between_most [] q r f m i e = absurd (Memᴰ.not-nil i)
between_most (x ∷ L) q r f m i e =
    go (split (joins q r x)) (Memᴰ.cases_cons i) (λ j. between_most L q r (and_right (all (falls x) L) (each_two falls L) f) m j e)
  where
    go : (joins q r x ≡ true) ⊎ (joins q r x ≡ false) → (m ≡ x) ⊎ m ∈ L → (m ∈ L → m.weight ≤ weight_between L q r) → m.weight ≤ weight_between (x ∷ L) q r
    go (inl y) (inl d) rest = omega (arith, between_first x L q r y, ap (λ (l : Link). l.weight) d)
    go (inl y) (inr j) rest =
        omega (arith, between_first x L q r y, leb-true m.weight x.weight (all_of (falls x) L (and_left (all (falls x) L) (each_two falls L) f) j))
    go (inr n) (inl d) rest = never (joins q r x) (ap (joins q r) (sym d) ∙ e) n
    go (inr n) (inr j) rest = omega (arith, between_later x L q r n, rest j)

-- two parts are linked at t exactly when they are linked and the weight between them is t or more
pub heavy_between : (L : List Link) (q r t : ℕ) → each_two falls L ≡ true → linked (heavy t L) q r ≡ true → t ≤ weight_between L q r
unfolding linked
heavy_between L q r t f e =
    let l = any_of (joins q r) (heavy t L) e in
    let m = heavy_of t L l.1 in
    omega (arith, m.1, between_most L q r f l.0 m.0 l.2)

pub between_heavy : (L : List Link) (q r t : ℕ) → linked L q r ≡ true → t ≤ weight_between L q r → linked (heavy t L) q r ≡ true
unfolding linked
between_heavy L q r t e h = let l = between_link L q r e in any_at (joins q r) (heavy t L) (heavy_at t L l.1 (omega (arith, l.3))) l.2

-- ---- the pairs of a set

abbrev pub pair : ℕ → ℕ → ℕ × ℕ
pair q r = (q, r)

each_pair_of : (l : List ℕ) → Rising ltb l → (q r : ℕ) → pair q r ∈ each_pair l → q ∈ l × r ∈ l × (q < r)
unfolding each_pair Rising
each_pair_of [] ri q r i = absurd (Memᴰ.not-nil i)
each_pair_of (x ∷ l) ri q r i = go (Memᴰ.append_cases (map (pair x) l) i) (each_pair_of l ri.1 q r)
  where
    go : pair q r ∈ map (pair x) l ⊎ pair q r ∈ each_pair l → (pair q r ∈ each_pair l → q ∈ l × r ∈ l × (q < r)) → q ∈ (x ∷ l) × r ∈ (x ∷ l) × (q < r)
    go (inl j) rest =
        let f = Memᴰ.of_map (pair x) l j in
        let a : q ≡ x = sym (ap (λ (e : ℕ × ℕ). e.0) f.2) in
        let b : r ≡ f.0 = sym (ap (λ (e : ℕ × ℕ). e.1) f.2) in
        let m : r ∈ l = subst (λ (z : ℕ). z ∈ l) (sym b) f.1 in
        (Memᴰ.head a, Memᴰ.tail m, omega (arith, a, ltb-true x r (ri.0 r m)))
    go (inr j) rest = let f = rest j in (Memᴰ.tail f.0, Memᴰ.tail f.1, f.2)

each_pair_at : (l : List ℕ) → Rising ltb l → (q r : ℕ) → q ∈ l → r ∈ l → q < r → pair q r ∈ each_pair l
unfolding each_pair Rising
each_pair_at [] ri q r m n h = absurd (Memᴰ.not-nil m)
each_pair_at (x ∷ l) ri q r m n h = go (Memᴰ.cases_cons m) (Memᴰ.cases_cons n) (λ i j. each_pair_at l ri.1 q r i j h)
  where
    go : (q ≡ x) ⊎ q ∈ l → (r ≡ x) ⊎ r ∈ l → (q ∈ l → r ∈ l → pair q r ∈ each_pair l) → pair q r ∈ (map (pair x) l ++ each_pair l)
    go (inl d) (inl e) rest = absurd (omega arith)
    go (inl d) (inr e) rest =
        Memᴰ.append_left (each_pair l) (subst (λ (z : ℕ). pair z r ∈ map (pair x) l) (sym d) (Memᴰ.map (pair x) e))
    go (inr d) (inl e) rest = absurd (omega (arith, ltb-true x q (ri.0 q d)))
    go (inr d) (inr e) rest = Memᴰ.append_right (map (pair x) l) (rest d e)

-- two parts of s below p, the lower first
pub pair_of : (p s q r : ℕ) → pair q r ∈ pairs_of p s → (q < r) × (r < p) × (has q s ≡ true) × (has r s ≡ true)
unfolding pairs_of
pair_of p s q r i =
    let f = each_pair_of (members p s) (members_rising p s) q r i in
    let a = in_member p s q f.0 in
    let b = in_member p s r f.1 in
    (f.2, b.0, a.1, b.1)

pub pair_at_lem : (p s q r : ℕ) → q < r → r < p → has q s ≡ true → has r s ≡ true → pair q r ∈ pairs_of p s
unfolding pairs_of
pair_at_lem p s q r h g a b = each_pair_at (members p s) (members_rising p s) q r (member_in p s q (omega arith) a) (member_in p s r g b) h

-- ---- the weights of a clique

-- each is the weight of a link
pub weights_of : (L : List Link) (p s w : ℕ) → clique L p s ≡ true → w ∈ weights_in L p s → (l : Link) × l ∈ L × (w ≡ l.weight)
unfolding weights_in
weights_of L p s w c m =
    let f = Memᴰ.of_map (λ e. weight_between L e.0 e.1) (pairs_of p s) m in
    let h = pair_of p s f.0.0 f.0.1 f.1 in
    let l = between_link L f.0.0 f.0.1 (clique_of L p s c f.0.0 f.0.1 h.0 h.1 h.2 h.3) in
    (l.0, l.1, sym f.2 ∙ l.3)

-- how many pairs a list of n has: twice their number is n * n less n
pairs_number : (l : List ℕ) → 2 * length (each_pair l) + length l ≡ length l * length l
unfolding each_pair
pairs_number [] = refl
pairs_number (x ∷ l) =
    let n = length l in
    let a : length (map (pair x) l ++ each_pair l) ≡ n + length (each_pair l) =
    length-append (map (pair x) l) (each_pair l) ∙ ap (λ (m : ℕ). m + length (each_pair l)) (length-map l (pair x)) in
    let s : suc n * suc n ≡ n * n + n + suc n = suc-mul n (suc n) ∙ ap (λ (m : ℕ). m + suc n) (mul-suc n n) in
    omega (arith, a, s, pairs_number l)

-- a set of two to four parts has one to six pairs
pub weights_few : (L : List Link) (p s : ℕ) → s ∈ sets_of p → 2 ≤ size s → size s ≤ 4 → (1 ≤ length (weights_in L p s)) × (length (weights_in L p s) ≤ 6)
unfolding weights_in pairs_of
weights_few L p s i two four =
    let n = length (members p s) in
    let e : n ≡ size s = members_length p s (sets_of_lem p s i) in
    let w : length (weights_in L p s) ≡ length (each_pair (members p s)) = length-map (each_pair (members p s)) (λ e. weight_between L e.0 e.1) in
    let low : 2 * n ≤ n * n = mul-le-mul_right n (omega arith) in
    let high : n * n ≤ 4 * n = mul-le-mul_right n (omega arith) in
    (omega (arith, pairs_number (members p s)), omega (arith, pairs_number (members p s)))

-- the weakest of weights is t or more exactly when each is
least_of : (t : ℕ) (W : List ℕ) → t ≤ weakest_of W → (w : ℕ) → w ∈ W → t ≤ w
unfolding weakest_of
least_of t [] h w m = absurd (Memᴰ.not-nil m)
least_of t (x ∷ W) h w m = go (Memᴰ.cases_cons m) (least_of t W)
  where
    go : (w ≡ x) ⊎ w ∈ W → (t ≤ weakest_of W → (v : ℕ) → v ∈ W → t ≤ v) → t ≤ w
    go (inl e) rest = omega arith
    go (inr i) rest = rest (omega arith) w i

least_at : (t : ℕ) (W : List ℕ) → t ≤ 65535 → ((w : ℕ) → w ∈ W → t ≤ w) → t ≤ weakest_of W
unfolding weakest_of
least_at t [] n h = n
least_at t (x ∷ W) n h = let rest : t ≤ weakest_of W = least_at t W n (λ w m. h w (Memᴰ.tail m)) in omega (arith, h x (Memᴰ.head refl))

-- ---- a clique of the links of weight t or more is a clique whose weakest link weighs t or more

module _ (L : List Link) (p t : ℕ) (fall : each_two falls L ≡ true) (narrow : t ≤ 65535) where
  heavy_weakest : (s : ℕ) → clique (heavy t L) p s ≡ true → by_weakest L p t s ≡ true
  unfolding by_weakest weights_in
  heavy_weakest s c =
      le-leb t (weakest_of (weights_in L p s)) (least_at t (weights_in L p s) narrow (λ w m.
      let f = Memᴰ.of_map (λ e. weight_between L e.0 e.1) (pairs_of p s) m in
      let h = pair_of p s f.0.0 f.0.1 f.1 in
      let e : t ≤ weight_between L f.0.0 f.0.1 =
      heavy_between L f.0.0 f.0.1 t fall (clique_of (heavy t L) p s c f.0.0 f.0.1 h.0 h.1 h.2 h.3) in
      subst (λ (n : ℕ). t ≤ n) f.2 e))

  heavy_clique : (s : ℕ) → clique (heavy t L) p s ≡ true → clique L p s ≡ true
  heavy_clique s c =
      clique_at L p s (λ q r h g a b. linked_mono (heavy t L) L (λ l m. (heavy_of t L m).0) q r (clique_of (heavy t L) p s c q r h g a b))

  weakest_heavy : (s : ℕ) → clique L p s ≡ true → by_weakest L p t s ≡ true → clique (heavy t L) p s ≡ true
  unfolding by_weakest weights_in
  weakest_heavy s c e =
      clique_at (heavy t L) p s (λ q r h g a b. between_heavy L q r t (clique_of L p s c q r h g a b)
      (least_of t (weights_in L p s) (leb-true t (weakest_of (weights_in L p s)) e) (weight_between L q r)
      (Memᴰ.map (λ e. weight_between L e.0 e.1) (pair_at_lem p s q r h g a b))))

  same_test : (k s : ℕ) → (eqb (size s) k && clique L p s) && by_weakest L p t s ≡ eqb (size s) k && clique (heavy t L) p s
  same_test k s =
      iff ((eqb (size s) k && clique L p s) && by_weakest L p t s) (eqb (size s) k && clique (heavy t L) p s)
      (λ e.
      let f = and_left (eqb (size s) k && clique L p s) (by_weakest L p t s) e in
      and_intro (eqb (size s) k) (clique (heavy t L) p s) (and_left (eqb (size s) k) (clique L p s) f)
      (weakest_heavy s (and_right (eqb (size s) k) (clique L p s) f) (and_right (eqb (size s) k && clique L p s) (by_weakest L p t s) e)))
      (λ e.
      let f = and_right (eqb (size s) k) (clique (heavy t L) p s) e in
      and_intro (eqb (size s) k && clique L p s) (by_weakest L p t s)
      (and_intro (eqb (size s) k) (clique L p s) (and_left (eqb (size s) k) (clique (heavy t L) p s) e) (heavy_clique s f))
      (heavy_weakest s f))

-- for thresholds of 16 bits: a legal list may have heavier links, and weakest_of never says more than 65,535
pub weakest_old : (L : List Link) (p k t : ℕ) → legal p L ≡ true → t ≤ 65535 → strong L p k (by_weakest L p t) ≡ family L p k t
unfolding strong family cliques
weakest_old L p k t ok narrow =
    keep_both (λ s. eqb (size s) k && clique L p s) (by_weakest L p t) (sets_of p)
    ∙ keep_same (λ s. (eqb (size s) k && clique L p s) && by_weakest L p t s) (λ s. eqb (size s) k && clique (heavy t L) p s) (sets_of p)
    (λ s m. same_test L p t (legal_falls p L ok) narrow k s)

-- the listing by weakest link is the listing at that threshold
pub weakest_listing : (L : List Link) (p k t : ℕ) → legal p L ≡ true → t ≤ 65535 → strong_listing L p k (by_weakest L p t) ≡ listing L p k t
unfolding strong_listing listing
weakest_listing L p k t ok narrow = ap (communities k) (weakest_old L p k t ok narrow)

-- ---- the weakest of a clique's weights is its weakest link

module _ (L : List Link) (p k s w : ℕ) (ok : legal p L ≡ true) (m : s ∈ cliques L p k) (weak : Weakest L s w) where
  -- no weight is below it
  weakest_under : w ≤ 65535 → w ≤ weakest_of (weights_in L p s)
  unfolding weights_in
  weakest_under narrow =
      least_at w (weights_in L p s) narrow (λ v i.
      let c = cliques_of L p k m in
      let f = Memᴰ.of_map (λ e. weight_between L e.0 e.1) (pairs_of p s) i in
      let q = f.0.0 in
      let r = f.0.1 in
      let h = pair_of p s q r f.1 in
      let l = between_link L q r (c.each q r (λ e. omega (arith, h.0)) h.2 h.3) in
      let ends = inside_ends s l.0 (joins_inside s q r l.0 h.2 h.3 l.2) in
      omega (arith, f.2, l.3, weak.least l.0 l.1 ends.0 ends.1))

  -- and its own is one of them
  weakest_over : weakest_of (weights_in L p s) ≤ w
  unfolding weights_in linked
  weakest_over =
      let b = weak.bond in
      let g = good_parts_lem p b (legal_parts p L ok b weak.member) in
      let l = between_link L b.low b.high (any_at (joins b.low b.high) L weak.member (joins_own b)) in
      let one : b.weight ≡ l.0.weight = ap (λ (x : Link). x.weight) (one_link p L ok b l.0 weak.member l.1 l.2) in
      let i = Memᴰ.map (λ e. weight_between L e.0 e.1) (pair_at_lem p s b.low b.high g.0 g.1 weak.lower weak.higher) in
      omega (arith, one, l.3, weak.weighs, least_of (weakest_of (weights_in L p s)) (weights_in L p s) (omega arith) (weight_between L b.low b.high) i)

  pub weakest_is : ((l : Link) → l ∈ L → l.weight ≤ 65535) → weakest_of (weights_in L p s) ≡ w
  weakest_is narrow = omega (arith, weakest_over, weakest_under (omega (arith, weak.weighs, narrow weak.bond weak.member)))
