-- Lines by their starts: starts that differ only in the order of the numbers that they join give the same lines, with the same last levels; what lines more
-- change. Assumes nothing.
use mathlib.Core.Path.{◌≡◌, refl, sym, ap, ap₂, ◌∙◌, subst}
use mathlib.Core.Logic.{◌⊎◌, inl, inr}
use mathlib.Core.Bool.{Bool, true, false, cond}
use mathlib.Core.List.Memᴰ
use mathlib.Core.List.{List, [], ◌∷◌, ◌++◌}
use Prim.Native.Nat.{ℕ, zero, suc, ◌+◌, ◌-◌, ◌≤◌, ◌<◌}
use native.Mathlib.Omega.{arith}
use lib.Dec.{eqb, ltb}
use lib.ListN.{length, get_or}
use Rattle.sets.specs.Lists.{◌∈◌, any, keep}
use Rattle.sets.proofs.Tests.{never, split, not_so, iff}
use Rattle.sets.proofs.ListLaws.{Holds, elem_at, elem_of}
use Rattle.percolation.specs.Percolate.{union_at}
use Rattle.percolation.specs.Links.{Link, family}
use Rattle.percolation.specs.Levels.{levels}
use Rattle.percolation.specs.Tree.{Start, goes_into, Line, line, joined_at_weight, last_of, last_level, whole_of, lines_from, tree}
use Rattle.percolation.proofs.Tree.{all_starts}
use Rattle.percolation.proofs.Growth.{goes_step, goes_past, goes_here, Unjoined, no_start, start_of}
use Rattle.tree_lines.specs.LineModel.{lines_with}
use Rattle.tree_lines.proofs.LineFields.{lines_length, lines_same}

-- ---- the same but for the order of what they join

pub record SameStart (x y : Start) : Type 0 where
  pub weight : x.weight ≡ y.weight
  pub small : x.small ≡ y.small
  pub count : length x.joins ≡ length y.joins
  pub there : Holds y.joins x.joins
  pub back : Holds x.joins y.joins

-- one by one
pub data SameStarts : List Start → List Start → Type 0 where
  same_none : SameStarts [] []
  same_next : {x y : Start} {X Y : List Start} → SameStart x y → SameStarts X Y → SameStarts (x ∷ X) (y ∷ Y)

pub same_append : {X Y Z W : List Start} → SameStarts X Y → SameStarts Z W → SameStarts (X ++ Z) (Y ++ W)
same_append same_none t = t
same_append (same_next e s) t = same_next e (same_append s t)

pub same_length : {X Y : List Start} → SameStarts X Y → length X ≡ length Y
same_length same_none = refl
same_length (same_next e s) = ap suc (same_length s)

-- each is the same as one of the others, and line i as line i
pub same_member : {X Y : List Start} → SameStarts X Y → (x : Start) → x ∈ X → (y : Start) × y ∈ Y × SameStart x y
same_member same_none x m = absurd (Memᴰ.not-nil m)
same_member (same_next {x = a} {y = b} {X = X} {Y = Y} e s) x m = go (Memᴰ.cases_cons m) (same_member s x)
  where
    go : (x ≡ a) ⊎ x ∈ X → (x ∈ X → (y : Start) × y ∈ Y × SameStart x y) → (y : Start) × y ∈ (b ∷ Y) × SameStart x y
    go (inl z) rest = (b, Memᴰ.head refl, subst (λ (t : Start). SameStart t b) (sym z) e)
    go (inr i) rest = let r = rest i in (r.0, Memᴰ.tail r.1, r.2)

same_at : {X Y : List Start} → SameStarts X Y → (j : ℕ) → (get_or X j no_start).small ≡ (get_or Y j no_start).small
same_at same_none j = refl
same_at (same_next e s) zero = e.small
same_at (same_next e s) (suc j) = same_at s j

pub same_small : {X Y : List Start} → SameStarts X Y → (i : ℕ) → (start_of X i).small ≡ (start_of Y i).small
same_small s i = same_at s (i - 1)

-- and the other lines around it
pub record SameSplit (A B : List Start) (x : Start) (Y : List Start) : Type 0 where
  pub first : List Start
  pub start : Start
  pub last : List Start
  pub whole : Y ≡ first ++ (start ∷ last)
  pub before : SameStarts A first
  pub here : SameStart x start
  pub after : SameStarts B last

pub same_split : (A B : List Start) (x : Start) (Y : List Start) → SameStarts (A ++ (x ∷ B)) Y → SameSplit A B x Y
same_split [] B x Y (same_next {y = y} {Y = Z} e s) = record { first = []; start = y; last = Z; whole = refl; before = same_none; here = e; after = s }
same_split (a ∷ A) B x Y (same_next {y = y} {Y = Z} e s) =
    let r = same_split A B x Z s in
    record {
      first = y ∷ r.first;
      start = r.start;
      last = r.last;
      whole = ap (λ (z : List Start). y ∷ z) r.whole;
      before = same_next e r.before;
      here = r.here;
      after = r.after;
    }

-- ---- where a line goes

pub goes_same : {X Y : List Start} → SameStarts X Y → (i n : ℕ) → goes_into i n X ≡ goes_into i n Y
goes_same same_none i n = refl
goes_same (same_next {x = x} {y = y} {X = X} {Y = Y} e s) i n =
    goes_step i n x X
    ∙ ap₂ (λ (b : Bool) (z : ℕ). cond b n z)
    (iff (any (eqb i) x.joins) (any (eqb i) y.joins) (λ t. elem_at y.joins (e.there i (elem_of i x.joins t)))
    (λ t. elem_at x.joins (e.back i (elem_of i y.joins t)))) (goes_same s i (suc n)) ∙ sym (goes_step i n y Y)

pub weight_same : {X Y : List Start} → SameStarts X Y → (i : ℕ) → joined_at_weight i X ≡ joined_at_weight i Y
unfolding joined_at_weight
weight_same same_none i = refl
weight_same (same_next {x = x} {y = y} {X = X} {Y = Y} e s) i =
    ap₂ (λ (b : Bool) (z : ℕ). cond b x.weight z)
    (iff (any (eqb i) x.joins) (any (eqb i) y.joins) (λ t. elem_at y.joins (e.there i (elem_of i x.joins t)))
    (λ t. elem_at x.joins (e.back i (elem_of i y.joins t)))) (weight_same s i)
    ∙ ap (λ (v : ℕ). cond (any (eqb i) y.joins) v (joined_at_weight i Y)) e.weight

module _ (i : ℕ) where
  -- none joins it: it goes into no line
  pub goes_none : (n : ℕ) (X : List Start) → ((x : Start) → x ∈ X → i ∈ x.joins → ⊥) → goes_into i n X ≡ 0
  unfolding goes_into
  goes_none n [] h = refl
  goes_none n (x ∷ X) h =
      goes_past i n x X (not_so (any (eqb i) x.joins) (λ t. h x (Memᴰ.head refl) (elem_of i x.joins t)))
      ∙ goes_none (suc n) X (λ y m. h y (Memᴰ.tail m))

  -- it goes into none: none joins it
  pub goes_zero : (n : ℕ) (X : List Start) → 1 ≤ n → goes_into i n X ≡ 0 → Unjoined i X
  goes_zero n [] l e x m j = Memᴰ.not-nil m
  goes_zero n (x ∷ X) l e y m j = go (split (any (eqb i) x.joins)) (Memᴰ.cases_cons m) (λ z. goes_zero (suc n) X (omega arith) z y)
    where
      go : (any (eqb i) x.joins ≡ true) ⊎ (any (eqb i) x.joins ≡ false) → (y ≡ x) ⊎ y ∈ X → (goes_into i (suc n) X ≡ 0 → y ∈ X → i ∈ y.joins → ⊥) → ⊥
      go (inl t) c rest = omega (arith, goes_here i n x X t, e)
      go (inr t) (inl z) rest = never (any (eqb i) x.joins) (elem_at x.joins (subst (λ (s : Start). i ∈ s.joins) z j)) t
      go (inr t) (inr a) rest = rest (sym (goes_past i n x X t) ∙ e) a j

  -- with lines more after S: where it went, or else into one of those
  pub goes_kept : (n : ℕ) (S X : List Start) → (goes_into i n S ≡ 0 → ⊥) → goes_into i n (S ++ X) ≡ goes_into i n S
  unfolding goes_into
  goes_kept n [] X h = absurd (h refl)
  goes_kept n (x ∷ S) X h = go (split (any (eqb i) x.joins)) (goes_kept (suc n) S X)
    where
      go : (any (eqb i) x.joins ≡ true) ⊎ (any (eqb i) x.joins ≡ false)
          → ((goes_into i (suc n) S ≡ 0 → ⊥) → goes_into i (suc n) (S ++ X) ≡ goes_into i (suc n) S) → goes_into i n (x ∷ (S ++ X)) ≡ goes_into i n (x ∷ S)
      go (inl t) rest = goes_here i n x (S ++ X) t ∙ sym (goes_here i n x S t)
      go (inr t) rest = goes_past i n x (S ++ X) t ∙ rest (λ e. h (goes_past i n x S t ∙ e)) ∙ sym (goes_past i n x S t)

  pub goes_later : (n m : ℕ) (S X : List Start) → 1 ≤ n → m ≡ n + length S → goes_into i n S ≡ 0 → goes_into i n (S ++ X) ≡ goes_into i m X
  goes_later n m [] X l e h = let d : n ≡ m = omega arith in ap (λ (z : ℕ). goes_into i z X) d
  goes_later n m (x ∷ S) X l e h = go (split (any (eqb i) x.joins)) (goes_later (suc n) m S X (omega arith) (omega arith))
    where
      go : (any (eqb i) x.joins ≡ true) ⊎ (any (eqb i) x.joins ≡ false)
          → (goes_into i (suc n) S ≡ 0 → goes_into i (suc n) (S ++ X) ≡ goes_into i m X) → goes_into i n (x ∷ (S ++ X)) ≡ goes_into i m X
      go (inl t) rest = absurd (omega (arith, goes_here i n x S t, h))
      go (inr t) rest = goes_past i n x (S ++ X) t ∙ rest (sym (goes_past i n x S t) ∙ h)

-- ---- lines

-- the union of line i at the last of the levels W at which it is a line of its own, of the lines S
abbrev pub shown_whole : List Link → ℕ → ℕ → List ℕ → List Start → ℕ → ℕ
shown_whole L p k W S i = whole_of L p k W S i (start_of S i).small

-- a line goes where the lines S say, and has the union that they say
lines_from_lem : (L : List Link) (p k : ℕ) (W : List ℕ) (S : List Start) (u : ℕ → ℕ) (n : ℕ) (X : List Start)
    → ((j : ℕ) → j < length X → u (n + j) ≡ whole_of L p k W S (n + j) (get_or X j no_start).small)
    → lines_from L p k W S n X ≡ lines_with (λ i. goes_into i 1 S) u n X
unfolding lines_from lines_with
lines_from_lem L p k W S u n [] h = refl
lines_from_lem L p k W S u n (x ∷ X) h =
    ap₂ (λ (v : ℕ) (Y : List Line). line x.weight (length x.joins) (goes_into n 1 S) x.small v ∷ Y)
    (sym (subst (λ (i : ℕ). u i ≡ whole_of L p k W S i x.small) (let z : n + 0 ≡ n = omega arith in z) (h 0 (omega arith))))
    (lines_from_lem L p k W S u (suc n) X (λ j l. subst (λ (i : ℕ). u i ≡ whole_of L p k W S i (get_or X j no_start).small)
    (let z : n + suc j ≡ suc n + j = omega arith in z) (h (suc j) (omega arith))))

-- the lines S of the levels W
abbrev pub lines_shown : List Link → ℕ → ℕ → List ℕ → List Start → List Line
lines_shown L p k W S = lines_with (λ i. goes_into i 1 S) (shown_whole L p k W S) 1 S

all_lines : (L : List Link) (p k : ℕ) (W : List ℕ) (S : List Start) → lines_from L p k W S 1 S ≡ lines_shown L p k W S
all_lines L p k W S =
    lines_from_lem L p k W S (shown_whole L p k W S) 1 S
    (λ j l. ap (λ (x : ℕ). whole_of L p k W S (1 + j) (get_or S x no_start).small) (let z : 1 + j - 1 ≡ j = omega arith in z))

same_lines : (f u : ℕ → ℕ) (n : ℕ) {X Y : List Start} → SameStarts X Y → lines_with f u n X ≡ lines_with f u n Y
unfolding lines_with
same_lines f u n same_none = refl
same_lines f u n (same_next {x = x} {y = y} e s) = ap₂ (λ (a : Line) (Z : List Line). a ∷ Z) one (same_lines f u (suc n) s)
  where
    one : line x.weight (length x.joins) (f n) x.small (u n) ≡ line y.weight (length y.joins) (f n) y.small (u n)
    one = λ i. line (e.weight i) (e.count i) (f n) (e.small i) (u n)

pub whole_same : (L : List Link) (p k : ℕ) (W : List ℕ) {X Y : List Start} → SameStarts X Y → (i : ℕ) → shown_whole L p k W X i ≡ shown_whole L p k W Y i
unfolding whole_of last_level
whole_same L p k W s i =
    ap₂ (λ (v a : ℕ). union_at k (family L p k (last_of 0 (keep (λ w. ltb v w) W))) a) (weight_same s i) (same_small s i)

-- ---- the tree

pub tree_same : (L : List Link) (p k : ℕ) {S : List Start} → SameStarts S (all_starts L p k)
    → lines_shown L p k (levels L) S ≡ tree L p k
unfolding tree
tree_same L p k {S} s =
    let A = all_starts L p k in
    let u = shown_whole L p k (levels L) A in
    lines_same (λ i. goes_into i 1 S) (shown_whole L p k (levels L) S) (λ i. goes_into i 1 A) u 1 S
    (λ i a b. (goes_same s i 1, whole_same L p k (levels L) s i))
    ∙ same_lines (λ i. goes_into i 1 A) u 1 s
    ∙ sym (all_lines L p k (levels L) A)

pub tree_length : (L : List Link) (p k : ℕ) → length (tree L p k) ≡ length (all_starts L p k)
unfolding tree
tree_length L p k =
    let A = all_starts L p k in
    ap length (all_lines L p k (levels L) A) ∙ lines_length (λ i. goes_into i 1 A) (shown_whole L p k (levels L) A) 1 A
