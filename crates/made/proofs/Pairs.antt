-- The pairs of parts below p: which they are, that none stands twice, and how many there are. Assumes nothing.
use mathlib.Core.Path.{◌≡◌, refl, sym, ap, ap₂, ◌∙◌, subst}
use mathlib.Core.Bool.{Bool, false}
use mathlib.Core.List.Memᴰ
use mathlib.Core.List.{List, [], ◌++◌, map, flatten}
use Prim.Native.Nat.{ℕ, zero, suc, ◌+◌, ◌-◌, ◌*◌, ◌/◌, ◌≤◌, ◌<◌}
use native.Mathlib.Omega.{arith}
use native.Mathlib.Nat.{suc-mul, mul-suc}
use lib.Dec.{ltb}
use lib.ListN.{length, length-append, length-map}
use borrow.Author.Tests.{ltb-true, lt-ltb, le-ltb}
use Rattle.sets.specs.Lists.{◌∈◌, keep, from, below}
use Rattle.sets.proofs.Tests.{never}
use Rattle.sets.proofs.ListLaws.{Distinct, keep_at, keep_of, keep_all, keep_append, keep_distinct, flat_at, flat_of, no_member, rising_distinct, append_distinct, map_distinct, number_order, from_of, below_of, below_at, below_rising, below_length, below_split}
use Rattle.made.specs.Made.{pairs_of, pairs}

-- ---- the pairs of one lower part

pub row_is : (p l : ℕ) → pairs_of p l ≡ map (λ (h : ℕ). (l, h)) (keep (ltb l) (below p))
unfolding pairs_of
row_is p l = refl

pub row_of : (p l : ℕ) (e : ℕ × ℕ) → e ∈ pairs_of p l → (e.0 ≡ l) × (l < e.1) × (e.1 < p)
unfolding pairs_of
row_of p l e m =
    let r = Memᴰ.of_map (λ (h : ℕ). (l, h)) (keep (ltb l) (below p)) m in
    let k = keep_of (ltb l) (below p) r.1 in
    let high : r.0 ≡ e.1 = ap (λ (x : ℕ × ℕ). x.1) r.2 in
    (sym (ap (λ (x : ℕ × ℕ). x.0) r.2), omega (arith, ltb-true l r.0 k.1), omega (arith, below_of p k.0))

row_at_lem : (p l h : ℕ) → l < h → h < p → (l, h) ∈ pairs_of p l
unfolding pairs_of
row_at_lem p l h a b = Memᴰ.map (λ (k : ℕ). (l, k)) (keep_at (ltb l) (below p) (below_at h p b) (lt-ltb l h a))

row_distinct : (p l : ℕ) → Distinct (pairs_of p l)
unfolding pairs_of
row_distinct p l =
    map_distinct (λ (h : ℕ). (l, h)) (keep (ltb l) (below p)) (keep_distinct (ltb l) (below p) (rising_distinct ltb number_order (below p) (below_rising p)))
    (λ x y i j e. ap (λ (z : ℕ × ℕ). z.1) e)

-- what no member passes is empty
pub keep_empty : {A : Type 0} (f : A → Bool) (l : List A) → ((x : A) → x ∈ l → f x ≡ false) → keep f l ≡ []
keep_empty f l h = no_member (keep f l) (λ x m. let r = keep_of f l m in never (f x) r.1 (h x r.0))

later : (p l : ℕ) → l < p → keep (ltb l) (below p) ≡ from (suc l) (p - suc l)
later p l h =
    ap (keep (ltb l)) (below_split (suc l) p h) ∙ keep_append (ltb l) (below (suc l)) (from (suc l) (p - suc l))
    ∙ ap₂ (λ (a b : List ℕ). a ++ b) (keep_empty (ltb l) (below (suc l)) (λ x m. le-ltb l x (omega (arith, below_of (suc l) m))))
    (keep_all (ltb l) (from (suc l) (p - suc l)) (λ x m. lt-ltb l x (from_of (suc l) (p - suc l) m).0))

row_length : (p l : ℕ) → l < p → length (pairs_of p l) ≡ p - suc l
unfolding pairs_of
row_length p l h =
    let same : length (pairs_of p l) ≡ length (keep (ltb l) (below p)) = length-map (keep (ltb l) (below p)) (λ (k : ℕ). (l, k)) in
    omega (
      arith,
      same,
      ap length (later p l h),
      ap length (below_split (suc l) p h),
      length-append (below (suc l)) (from (suc l) (p - suc l)),
      below_length p,
      below_length (suc l),
    )

-- ---- those of n lower parts from i on

abbrev pub rows : ℕ → ℕ → ℕ → List (ℕ × ℕ)
rows p i n = flatten (map (pairs_of p) (from i n))

pub rows_of : (p i n : ℕ) (e : ℕ × ℕ) → e ∈ rows p i n → (i ≤ e.0) × (e.0 < e.1) × (e.1 < p)
rows_of p i n e m =
    let c = flat_of (map (pairs_of p) (from i n)) m in
    let r = Memᴰ.of_map (pairs_of p) (from i n) c.1 in
    let h = row_of p r.0 e (subst (λ (l : List (ℕ × ℕ)). e ∈ l) (sym r.2) c.2) in
    let g = from_of i n r.1 in
    (omega (arith, h.0), omega (arith, h.0, h.1), h.2)

rows_distinct : (p i n : ℕ) → Distinct (rows p i n)
unfolding from flatten Distinct
rows_distinct p i zero = tt
rows_distinct p i (suc n) =
    append_distinct (pairs_of p i) (rows p (suc i) n) (row_distinct p i) (rows_distinct p (suc i) n)
    (λ e a b. let z : ⊥ = omega (arith, (row_of p i e a).0, (rows_of p (suc i) n e b).0) in z)

rows_length : (p i n : ℕ) → i + n ≡ p → length (rows p i n) * 2 + n ≡ n * n
unfolding from flatten
rows_length p i zero h = refl
rows_length p i (suc n) h =
    omega (
      arith,
      rows_length p (suc i) n (omega arith),
      length-append (pairs_of p i) (rows p (suc i) n),
      row_length p i (omega arith),
      suc-mul n (suc n),
      mul-suc n n,
    )

-- ---- the pairs of parts below p

pub pairs_is : (p : ℕ) → pairs p ≡ flatten (map (pairs_of p) (below p))
unfolding pairs
pairs_is p = refl

pub pairs_of_lem : (p : ℕ) (e : ℕ × ℕ) → e ∈ pairs p → (e.0 < e.1) × (e.1 < p)
unfolding pairs below
pairs_of_lem p e m = let h = rows_of p 0 p e m in (h.1, h.2)

pub pairs_at : (p l h : ℕ) → l < h → h < p → (l, h) ∈ pairs p
unfolding pairs
pairs_at p l h a b = flat_at (map (pairs_of p) (below p)) (Memᴰ.map (pairs_of p) (below_at l p (omega arith))) (row_at_lem p l h a b)

pub pairs_distinct : (p : ℕ) → Distinct (pairs p)
unfolding pairs below
pairs_distinct p = rows_distinct p 0 p

-- p * (p - 1) / 2 of them
pub pairs_length : (p : ℕ) → length (pairs p) * 2 + p ≡ p * p
unfolding pairs below
pairs_length p = rows_length p 0 p (omega arith)

pub pairs_number : (p : ℕ) → length (pairs p) ≡ p * (p - 1) / 2
pairs_number zero = let e : length (pairs 0) ≡ 0 = omega (arith, pairs_length 0) in e
pairs_number (suc n) =
    let less : suc n - 1 ≡ n = omega arith in
    omega (arith, pairs_length (suc n), suc-mul n (suc n), suc-mul n n, mul-suc n n, ap (λ (k : ℕ). suc n * k) less)
