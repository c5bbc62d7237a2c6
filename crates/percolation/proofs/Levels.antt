-- The levels of a list of links, the largest of a list of numbers, and the links of a threshold. Assumes nothing.
use mathlib.Core.Path.{◌≡◌, refl, sym, ap, subst}
use mathlib.Core.Logic.{◌⊎◌, inl, inr}
use mathlib.Core.List.Memᴰ
use mathlib.Core.List.{List, [], ◌∷◌, map, foldr}
use Prim.Native.Nat.{ℕ, ◌≤◌, ◌<◌, max}
use native.Mathlib.Omega.{arith}
use lib.Dec.{leb, ltb}
use borrow.Author.Tests.{leb-true, le-leb}
use Rattle.sets.specs.Lists.{◌∈◌}
use Rattle.sets.proofs.Tests.{iff, lt_or_le}
use Rattle.sets.proofs.ListLaws.{Holds, Order, Rising, number_order, keep_at, keep_of, keep_all, keep_same, sorted_of, sorted_at, sorted_rising, sorted_same}
use Rattle.percolation.specs.Links.{Link, heavy}
use Rattle.percolation.specs.Levels.{levels, met, never, largest}

-- ---- the levels: the weights of the links, each once, falling

pub falling : Order (λ v w. ltb w v)
falling = record {
  irrefl = number_order.irrefl;
  trans = λ x y z e h. number_order.trans z y x h e;
  total = λ x y e h. number_order.total x y h e;
}

abbrev weigh : Link → ℕ
weigh l = l.weight

pub levels_of : (L : List Link) (w : ℕ) → w ∈ levels L → (l : Link) × l ∈ L × (w ≡ l.weight)
unfolding levels
levels_of L w m = let r = Memᴰ.of_map weigh L (sorted_of (λ v w. ltb w v) falling (map weigh L) m) in (r.0, r.1, sym r.2)

pub levels_at : (L : List Link) (l : Link) → l ∈ L → l.weight ∈ levels L
unfolding levels
levels_at L l m = sorted_at (λ v w. ltb w v) falling (map weigh L) (Memᴰ.map weigh m)

-- distinct and falling
pub levels_falling : (L : List Link) → Rising (λ v w. ltb w v) (levels L)
unfolding levels
levels_falling L = sorted_rising (λ v w. ltb w v) falling (map weigh L)

weights_held : (L M : List Link) → Holds L M → Holds (map weigh L) (map weigh M)
weights_held L M h x m = let r = Memᴰ.of_map weigh M m in Memᴰ.cast (sym r.2) (Memᴰ.map weigh (h r.0 r.1))

-- the levels go by the members alone
pub levels_same : (L M : List Link) → Holds M L → Holds L M → levels L ≡ levels M
unfolding levels
levels_same L M f g = sorted_same (λ v w. ltb w v) falling (map weigh L) (map weigh M) (weights_held M L f) (weights_held L M g)

-- ---- the largest of a list of numbers

max_in : (t : ℕ) (l : List ℕ) → foldr max t l ∈ (t ∷ l)
max_in t [] = Memᴰ.head refl
max_in t (u ∷ l) = go (lt_or_le (foldr max t l) u) (Memᴰ.cases_cons (max_in t l))
  where
    go : (foldr max t l < u) ⊎ (u ≤ foldr max t l) → (foldr max t l ≡ t) ⊎ foldr max t l ∈ l → max u (foldr max t l) ∈ (t ∷ u ∷ l)
    go (inl s) r = let e : max u (foldr max t l) ≡ u = omega arith in Memᴰ.tail (Memᴰ.head e)
    go (inr s) (inl e) = let f : max u (foldr max t l) ≡ t = omega arith in Memᴰ.head f
    go (inr s) (inr m) = let f : max u (foldr max t l) ≡ foldr max t l = omega arith in Memᴰ.tail (Memᴰ.tail (Memᴰ.cast f m))

max_le : (t : ℕ) (l : List ℕ) (x : ℕ) → (x ≡ t) ⊎ x ∈ l → x ≤ foldr max t l
max_le t [] x (inl e) = omega arith
max_le t [] x (inr m) = absurd (Memᴰ.not-nil m)
max_le t (u ∷ l) x (inl e) = omega (arith, max_le t l x (inl e))
max_le t (u ∷ l) x (inr m) = go (Memᴰ.cases_cons m) (λ n. max_le t l x (inr n))
  where
    go : (x ≡ u) ⊎ x ∈ l → (x ∈ l → x ≤ foldr max t l) → x ≤ max u (foldr max t l)
    go (inl e) rest = omega arith
    go (inr n) rest = omega (arith, rest n)

pub largest_met : (l : List ℕ) (w : ℕ) → largest l ≡ met w → w ∈ l × ((x : ℕ) → x ∈ l → x ≤ w)
unfolding largest
largest_met [] w e = let z : ◌≡◌ {A = ℕ} 0 1 = cc in absurd (omega arith)
largest_met (t ∷ l) w e =
    let f : w ≡ foldr max t l = cc in
    (Memᴰ.cast f (max_in t l), λ x m. omega (arith, max_le t l x (Memᴰ.cases_cons m)))

pub largest_never : (l : List ℕ) → largest l ≡ never → (x : ℕ) → x ∈ l → ⊥
unfolding largest
largest_never [] e x m = Memᴰ.not-nil m
largest_never (t ∷ l) e x m = let z : ◌≡◌ {A = ℕ} 0 1 = cc in omega arith

-- ---- the links of weight t or more

pub heavy_of : (t : ℕ) (L : List Link) {l : Link} → l ∈ heavy t L → l ∈ L × (t ≤ l.weight)
unfolding heavy
heavy_of t L {l} m = let r = keep_of (λ e. leb t e.weight) L m in (r.0, leb-true t l.weight r.1)

pub heavy_at : (t : ℕ) (L : List Link) {l : Link} → l ∈ L → t ≤ l.weight → l ∈ heavy t L
unfolding heavy
heavy_at t L {l} m h = keep_at (λ e. leb t e.weight) L m (le-leb t l.weight h)

pub heavy_mono : (t u : ℕ) (L : List Link) {l : Link} → u ≤ t → l ∈ heavy t L → l ∈ heavy u L
heavy_mono t u L {l} h m = let r = heavy_of t L m in heavy_at u L r.0 (omega (arith, r.1))

-- at a threshold that no weight is below, all links
pub heavy_all : (t : ℕ) (L : List Link) → ((l : Link) → l ∈ L → t ≤ l.weight) → heavy t L ≡ L
unfolding heavy
heavy_all t L h = keep_all (λ e. leb t e.weight) L (λ l m. le-leb t l.weight (h l m))

pub heavy_zero : (L : List Link) → heavy 0 L ≡ L
heavy_zero L = heavy_all 0 L (λ l m. omega arith)

-- at a threshold that every weight is below, none
pub heavy_none : (t : ℕ) (L : List Link) → ((l : Link) → l ∈ L → l.weight < t) → heavy t L ≡ []
heavy_none t L h = go (heavy t L) refl
  where
    go : (H : List Link) → heavy t L ≡ H → H ≡ []
    go [] e = refl
    go (x ∷ H) e = let r = heavy_of t L (subst (λ (M : List Link). x ∈ M) (sym e) (Memᴰ.head refl)) in absurd (omega (arith, h x r.0, r.1))

-- two thresholds that the same weights reach have the same links
pub heavy_same : (t u : ℕ) (L : List Link) → ((l : Link) → l ∈ L → t ≤ l.weight → u ≤ l.weight)
    → ((l : Link) → l ∈ L → u ≤ l.weight → t ≤ l.weight) → heavy t L ≡ heavy u L
unfolding heavy
heavy_same t u L f g =
    keep_same (λ e. leb t e.weight) (λ e. leb u e.weight) L (λ l m.
    iff (leb t l.weight) (leb u l.weight) (λ e. le-leb u l.weight (f l m (leb-true t l.weight e)))
    (λ e. le-leb t l.weight (g l m (leb-true u l.weight e))))

-- ---- a threshold can be raised to the weight of a link, with the same links kept

-- v is a lightest of the links that weigh t or more
abbrev pub Nearest : ℕ → List Link → Link → Type 0
Nearest t L v = v ∈ L × (t ≤ v.weight) × ((l : Link) → l ∈ L → t ≤ l.weight → v.weight ≤ l.weight)

light_more : (v x : Link) (L : List Link) → v.weight ≤ x.weight → ((l : Link) → l ∈ L → v.weight ≤ l.weight)
    → (l : Link) → l ∈ (x ∷ L) → v.weight ≤ l.weight
light_more v x L h rest l m = go (Memᴰ.cases_cons m)
  where
    go : (l ≡ x) ⊎ l ∈ L → v.weight ≤ l.weight
    go (inl e) = omega (arith, ap weigh e)
    go (inr n) = rest l n

lightest : (x : Link) (L : List Link) → (v : Link) × v ∈ (x ∷ L) × ((l : Link) → l ∈ (x ∷ L) → v.weight ≤ l.weight)
lightest x [] = (x, Memᴰ.head refl, light_more x x [] (omega arith) (λ l m. absurd (Memᴰ.not-nil m)))
lightest x (y ∷ L) = go (lightest y L)
  where
    go : (v : Link) × v ∈ (y ∷ L) × ((l : Link) → l ∈ (y ∷ L) → v.weight ≤ l.weight)
        → (v : Link) × v ∈ (x ∷ y ∷ L) × ((l : Link) → l ∈ (x ∷ y ∷ L) → v.weight ≤ l.weight)
    go r = pick (lt_or_le x.weight r.0.weight)
      where
        pick : (x.weight < r.0.weight) ⊎ (r.0.weight ≤ x.weight)
            → (v : Link) × v ∈ (x ∷ y ∷ L) × ((l : Link) → l ∈ (x ∷ y ∷ L) → v.weight ≤ l.weight)
        pick (inl h) = (x, Memᴰ.head refl, light_more x x (y ∷ L) (omega arith) (λ l m. omega (arith, r.2 l m)))
        pick (inr h) = (r.0, Memᴰ.tail r.1, light_more r.0 x (y ∷ L) h r.2)

-- every link weighs less than t, or there is a nearest
pub nearest : (t : ℕ) (L : List Link) → ((l : Link) → l ∈ L → l.weight < t) ⊎ ((v : Link) × Nearest t L v)
nearest t L = go (heavy t L) refl
  where
    go : (H : List Link) → heavy t L ≡ H → ((l : Link) → l ∈ L → l.weight < t) ⊎ ((v : Link) × Nearest t L v)
    go [] e = inl (λ l m. less l m (lt_or_le l.weight t))
      where
        less : (l : Link) → l ∈ L → (l.weight < t) ⊎ (t ≤ l.weight) → l.weight < t
        less l m (inl h) = h
        less l m (inr h) = absurd (Memᴰ.not-nil (rw e at (heavy_at t L m h)))
    go (x ∷ H) e =
        let r = lightest x H in
        let h = heavy_of t L (subst (λ (M : List Link). r.0 ∈ M) (sym e) r.1) in
        inr (r.0, (h.0, h.1, λ l m g. r.2 l (rw e at (heavy_at t L m g))))

pub raise_links : (t : ℕ) (L : List Link) (v : Link) → Nearest t L v → heavy t L ≡ heavy v.weight L
raise_links t L v n = heavy_same t v.weight L n.2 (λ l m h. omega (arith, n.1))
