-- What a line grew to: the last level at which it is a line of its own, the classes of a level and the lines that they have, and that a line's union holds
-- the one at its start and lies within that of the line that it goes into. Assumes nothing.
use mathlib.Core.Path.{◌≡◌, refl, sym, ap, ◌∙◌, subst}
use mathlib.Core.Logic.{◌⊎◌, inl, inr}
use mathlib.Core.Bool.{Bool, true, false, cond}
use mathlib.Core.List.Memᴰ
use mathlib.Core.List.{List, [], ◌∷◌, ◌++◌, map, append-nil, append_assoc}
use Prim.Native.Nat.{ℕ, zero, suc, ◌+◌, ◌-◌, ◌≤◌, ◌<◌}
use native.Mathlib.Omega.{arith}
use lib.Dec.{eqb, ltb}
use lib.ListN.{length, get_or, take, drop, length-append, length-map, get_or-append}
use lib.Seq.{split_at, length-take-le, get_or-append-add}
use borrow.Author.Tests.{ltb-true, lt-ltb, le-ltb}
use Rattle.sets.specs.Lists.{◌∈◌, any, keep}
use Rattle.sets.specs.Sets.{sub}
use Rattle.sets.proofs.Tests.{never, split, not_so, lt_or_le}
use Rattle.sets.proofs.Laws.{has_sub, sub_trans}
use Rattle.sets.proofs.ListLaws.{Rising, Distinct, elem_at, elem_of, keep_yes, keep_no, keep_at, keep_of, keep_all, keep_append, keep_rising, get_d_member}
use Rattle.percolation.specs.Percolate.{adjacent, Chain, alone, Community, communities, union_at}
use Rattle.percolation.specs.Links.{Link, family}
use Rattle.percolation.specs.Levels.{levels}
use Rattle.percolation.specs.Steps.{legal}
use Rattle.percolation.specs.Tree.{Start, Branch, held_by, level_of, starts_from, goes_into, Line, line, joined_at_weight, last_of, last_level, whole_of, lines_from, tree}
use Rattle.percolation.proofs.Accepted.{legal_positive}
use Rattle.percolation.proofs.Chains.{adjacent_sym, first_in, chain_trans, chain_sym}
use Rattle.percolation.proofs.Communities.{communities_of, home, at_part, at_has, at_same}
use Rattle.percolation.proofs.Families.{family_mono, chain_lower}
use Rattle.percolation.proofs.Levels.{levels_of, levels_falling}
use Rattle.percolation.proofs.Tree.{num, num_one, Each, each_at, Came, only_in, came, Goes, goes, Numbered, classes_at, level_at_lem, count_at, Here, at_chain, chain_at, held_of, held_at, level_made, level_born, start_of_lem, joined_of, joined_le, numbered_on, gone, all_starts}

-- ---- the weight of the line that joins the line i

-- no line of X joins i
abbrev pub Unjoined : ℕ → List Start → Type 0
Unjoined i X = (x : Start) → x ∈ X → i ∈ x.joins → ⊥

-- one does, and this is its weight
abbrev Joined : ℕ → List Start → Type 0
Joined i X = (x : Start) × x ∈ X × i ∈ x.joins × (joined_at_weight i X ≡ x.weight)

-- one does, or none
abbrev Cases : ℕ → List Start → Type 0
Cases i X = Joined i X ⊎ (Unjoined i X × (joined_at_weight i X ≡ 0))

joins_step : (i : ℕ) (x : Start) (X : List Start) → joined_at_weight i (x ∷ X) ≡ cond (any (eqb i) x.joins) x.weight (joined_at_weight i X)
unfolding joined_at_weight
joins_step i x X = refl

pub goes_step : (i n : ℕ) (x : Start) (X : List Start) → goes_into i n (x ∷ X) ≡ cond (any (eqb i) x.joins) n (goes_into i (suc n) X)
unfolding goes_into
goes_step i n x X = refl

pub goes_past : (i n : ℕ) (x : Start) (X : List Start) → any (eqb i) x.joins ≡ false → goes_into i n (x ∷ X) ≡ goes_into i (suc n) X
goes_past i n x X t = goes_step i n x X ∙ ap (λ (b : Bool). cond b n (goes_into i (suc n) X)) t

pub goes_here : (i n : ℕ) (x : Start) (X : List Start) → any (eqb i) x.joins ≡ true → goes_into i n (x ∷ X) ≡ n
goes_here i n x X t = goes_step i n x X ∙ ap (λ (b : Bool). cond b n (goes_into i (suc n) X)) t

module _ (i : ℕ) where
  joins_here : (x : Start) (X : List Start) → any (eqb i) x.joins ≡ true → joined_at_weight i (x ∷ X) ≡ x.weight
  joins_here x X t = joins_step i x X ∙ ap (λ (b : Bool). cond b x.weight (joined_at_weight i X)) t

  joins_past : (x : Start) (X : List Start) → any (eqb i) x.joins ≡ false → joined_at_weight i (x ∷ X) ≡ joined_at_weight i X
  joins_past x X t = joins_step i x X ∙ ap (λ (b : Bool). cond b x.weight (joined_at_weight i X)) t

  unjoined_head : (x : Start) (X : List Start) → Unjoined i (x ∷ X) → any (eqb i) x.joins ≡ false
  unjoined_head x X h = not_so (any (eqb i) x.joins) (λ t. h x (Memᴰ.head refl) (elem_of i x.joins t))

  -- none does
  joined_none : (X : List Start) → Unjoined i X → joined_at_weight i X ≡ 0
  unfolding joined_at_weight
  joined_none [] h = refl
  joined_none (x ∷ X) h = joins_past x X (unjoined_head x X h) ∙ joined_none X (λ y m. h y (Memᴰ.tail m))

  -- with lines more after S: as before, or else by those
  joined_later : (S X : List Start) → Unjoined i S → joined_at_weight i (S ++ X) ≡ joined_at_weight i X
  joined_later [] X h = refl
  joined_later (x ∷ S) X h = joins_past x (S ++ X) (unjoined_head x S h) ∙ joined_later S X (λ y m. h y (Memᴰ.tail m))

  -- it goes into none below the first number
  goes_higher : (n : ℕ) (X : List Start) (m : ℕ) → n < m → goes_into i m X ≡ n → (1 ≤ n) → ⊥
  unfolding goes_into
  goes_higher n [] m a z l = omega (arith, z)
  goes_higher n (x ∷ X) m a z l = at (split (any (eqb i) x.joins)) (λ e. goes_higher n X (suc m) (omega arith) e l)
    where
      at : (any (eqb i) x.joins ≡ true) ⊎ (any (eqb i) x.joins ≡ false) → (goes_into i (suc m) X ≡ n → ⊥) → ⊥
      at (inl t) rest = omega (arith, z, goes_here i m x X t)
      at (inr t) rest = rest (sym (goes_past i m x X t) ∙ z)

  -- the line that it goes into joins it, at that line's weight
  pub joined_found : (n : ℕ) (X : List Start) (j : ℕ) (d : Start) → 1 ≤ n → goes_into i n X ≡ n + j
      → (j < length X) × i ∈ (get_or X j d).joins × (joined_at_weight i X ≡ (get_or X j d).weight)
  unfolding goes_into
  joined_found n [] j d l e = absurd (omega (arith, e))
  joined_found n (x ∷ X) zero d l e = go (split (any (eqb i) x.joins))
    where
      go : (any (eqb i) x.joins ≡ true) ⊎ (any (eqb i) x.joins ≡ false)
          → (0 < suc (length X)) × i ∈ x.joins × (joined_at_weight i (x ∷ X) ≡ x.weight)
      go (inl t) = (omega arith, elem_of i x.joins t, joins_here x X t)
      go (inr t) = let z : n + 0 ≡ n = omega arith in absurd (goes_higher n X (suc n) (omega arith) (sym (goes_past i n x X t) ∙ e ∙ z) l)
  joined_found n (x ∷ X) (suc j) d l e = go (split (any (eqb i) x.joins)) (joined_found (suc n) X j d (omega arith))
    where
      go : (any (eqb i) x.joins ≡ true) ⊎ (any (eqb i) x.joins ≡ false)
          → (goes_into i (suc n) X ≡ suc n + j → (j < length X) × i ∈ (get_or X j d).joins × (joined_at_weight i X ≡ (get_or X j d).weight))
          → (suc j < suc (length X)) × i ∈ (get_or X j d).joins × (joined_at_weight i (x ∷ X) ≡ (get_or X j d).weight)
      go (inl t) rest = absurd (omega (arith, e, goes_here i n x X t))
      go (inr t) rest =
          let y : n + suc j ≡ suc n + j = omega arith in
          let z : goes_into i (suc n) X ≡ suc n + j = sym (goes_past i n x X t) ∙ e ∙ y in
          let r = rest z in
          (omega (arith, r.0), r.1, joins_past x X t ∙ r.2)

  -- and where it goes into none, at 0
  pub joined_zero : (n : ℕ) (X : List Start) → 1 ≤ n → goes_into i n X ≡ 0 → joined_at_weight i X ≡ 0
  unfolding joined_at_weight
  joined_zero n [] l e = refl
  joined_zero n (x ∷ X) l e = go (split (any (eqb i) x.joins)) (joined_zero (suc n) X (omega arith))
    where
      go : (any (eqb i) x.joins ≡ true) ⊎ (any (eqb i) x.joins ≡ false) → (goes_into i (suc n) X ≡ 0 → joined_at_weight i X ≡ 0)
          → joined_at_weight i (x ∷ X) ≡ 0
      go (inl t) rest = absurd (omega (arith, goes_here i n x X t, e))
      go (inr t) rest = joins_past x X t ∙ rest (sym (goes_past i n x X t) ∙ e)

  -- it is the weight of a line that joins it, or 0 and none does
  joined_cases : (X : List Start) → Cases i X
  unfolding joined_at_weight
  joined_cases [] = inr ((λ x m. absurd (Memᴰ.not-nil m)), refl)
  joined_cases (x ∷ X) = go (split (any (eqb i) x.joins)) (joined_cases X)
    where
      go : (any (eqb i) x.joins ≡ true) ⊎ (any (eqb i) x.joins ≡ false) → Cases i X → Cases i (x ∷ X)
      go (inl t) rest = inl (x, Memᴰ.head refl, elem_of i x.joins t, joins_here x X t)
      go (inr t) (inl r) = inl (r.0, Memᴰ.tail r.1, r.2, joins_past x X t ∙ r.3)
      go (inr t) (inr r) = inr (none, joins_past x X t ∙ r.1)
        where
          none : Unjoined i (x ∷ X)
          none y m j = at (Memᴰ.cases_cons m)
            where
              at : (y ≡ x) ⊎ y ∈ X → ⊥
              at (inl e) = never (any (eqb i) x.joins) (elem_at x.joins (subst (λ (s : Start). i ∈ s.joins) e j)) t
              at (inr n) = r.0 y n j

  -- where a line of S joins it, lines more change nothing
  joined_kept : (S X : List Start) {x : Start} → x ∈ S → i ∈ x.joins → joined_at_weight i (S ++ X) ≡ joined_at_weight i S
  joined_kept [] X m j = absurd (Memᴰ.not-nil m)
  joined_kept (y ∷ S) X {x} m j = go (split (any (eqb i) y.joins)) (Memᴰ.cases_cons m) (λ n. joined_kept S X n j)
    where
      go : (any (eqb i) y.joins ≡ true) ⊎ (any (eqb i) y.joins ≡ false) → (x ≡ y) ⊎ x ∈ S
          → (x ∈ S → joined_at_weight i (S ++ X) ≡ joined_at_weight i S) → joined_at_weight i (y ∷ (S ++ X)) ≡ joined_at_weight i (y ∷ S)
      go (inl t) c rest = joins_here y (S ++ X) t ∙ sym (joins_here y S t)
      go (inr t) (inl e) rest =
          let z : any (eqb i) y.joins ≡ true = elem_at y.joins (subst (λ (s : Start). i ∈ s.joins) e j) in
          joins_here y (S ++ X) z ∙ sym (joins_here y S z)
      go (inr t) (inr n) rest = joins_past y (S ++ X) t ∙ rest n ∙ sym (joins_past y S t)

-- ---- the last level

-- the levels fall
abbrev pub Falls : List ℕ → Type 0
Falls W = Rising (λ v w. ltb w v) W

pub falls_before : (D : List ℕ) (w : ℕ) (W : List ℕ) → Falls (D ++ (w ∷ W)) → (d : ℕ) → d ∈ D → w < d
unfolding Rising
falls_before [] w W r d m = absurd (Memᴰ.not-nil m)
falls_before (x ∷ D) w W r d m = go (Memᴰ.cases_cons m) (falls_before D w W r.1 d)
  where
    go : (d ≡ x) ⊎ d ∈ D → (d ∈ D → w < d) → w < d
    go (inl e) rest = omega (arith, ltb-true w x (r.0 w (Memᴰ.append_right D (Memᴰ.head refl))), e)
    go (inr n) rest = rest n

last_more : (v w : ℕ) (D : List ℕ) → last_of v (D ++ (w ∷ [])) ≡ w
unfolding last_of
last_more v w [] = refl
last_more v w (d ∷ D) = last_more d w D

last_in : (v : ℕ) (D : List ℕ) → (last_of v D ≡ v) ⊎ last_of v D ∈ D
unfolding last_of
last_in v [] = inl refl
last_in v (d ∷ D) = go (last_in d D)
  where
    go : (last_of d D ≡ d) ⊎ last_of d D ∈ D → (last_of d D ≡ v) ⊎ last_of d D ∈ (d ∷ D)
    go (inl e) = inr (Memᴰ.head e)
    go (inr m) = inr (Memᴰ.tail m)

-- of falling levels it is the least, and one of them
last_least : (v d : ℕ) (D : List ℕ) → Falls D → d ∈ D → (last_of v D ≤ d) × last_of v D ∈ D
unfolding last_of Rising
last_least v d [] r m = absurd (Memᴰ.not-nil m)
last_least v d (x ∷ D) r m = go (Memᴰ.cases_cons m) (last_in x D) (last_least x d D r.1)
  where
    go : (d ≡ x) ⊎ d ∈ D → (last_of x D ≡ x) ⊎ last_of x D ∈ D → (d ∈ D → (last_of x D ≤ d) × last_of x D ∈ D)
        → (last_of x D ≤ d) × last_of x D ∈ (x ∷ D)
    go (inl e) (inl f) rest = (omega (arith, e, f), Memᴰ.head f)
    go (inl e) (inr f) rest = (omega (arith, e, ltb-true (last_of x D) x (r.0 (last_of x D) f)), Memᴰ.tail f)
    go (inr n) f rest = let h = rest n in (h.0, Memᴰ.tail h.1)

module _ (D : List ℕ) (w : ℕ) where
  above_last : (e : ℕ) → w ≤ e → keep (λ v. ltb e v) (D ++ (w ∷ [])) ≡ keep (λ v. ltb e v) D
  unfolding keep
  above_last e h =
      keep_append (λ v. ltb e v) D (w ∷ [])
      ∙ ap (λ (t : List ℕ). keep (λ v. ltb e v) D ++ t) (keep_no (λ v. ltb e v) w [] (le-ltb e w h)) ∙ append-nil (keep (λ v. ltb e v) D)

  above_all : (e : ℕ) → ((d : ℕ) → d ∈ D → e < d) → keep (λ v. ltb e v) D ≡ D
  above_all e h = keep_all (λ v. ltb e v) D (λ d m. lt-ltb e d (h d m))

  -- one level more: a line that goes into none is there
  last_own : (S : List Start) (i : ℕ) → 1 ≤ w → joined_at_weight i S ≡ 0 → last_level (D ++ (w ∷ [])) S i ≡ w
  unfolding last_level keep
  last_own S i l e =
      ap (λ (x : ℕ). last_of 0 (keep (λ v. ltb x v) (D ++ (w ∷ [])))) e
      ∙ ap (last_of 0) (keep_append (λ v. ltb 0 v) D (w ∷ [])
      ∙ ap (λ (t : List ℕ). keep (λ v. ltb 0 v) D ++ t) (keep_yes (λ v. ltb 0 v) w [] (lt-ltb 0 w l)))
      ∙ last_more 0 w (keep (λ v. ltb 0 v) D)

  -- one that has gone into another before is not
  last_gone : (S T : List Start) (i : ℕ) → joined_at_weight i T ≡ joined_at_weight i S → w ≤ joined_at_weight i S
      → last_level (D ++ (w ∷ [])) T i ≡ last_level D S i
  unfolding last_level
  last_gone S T i e l = ap (λ (x : ℕ). last_of 0 (keep (λ v. ltb x v) (D ++ (w ∷ [])))) e ∙ ap (last_of 0) (above_last (joined_at_weight i S) l)

  -- nor is one that goes into another now
  last_joined : (S T : List Start) (i : ℕ) → ((d : ℕ) → d ∈ D → w < d) → joined_at_weight i S ≡ 0 → joined_at_weight i T ≡ w
      → last_level (D ++ (w ∷ [])) T i ≡ last_level D S i
  unfolding last_level
  last_joined S T i h e f =
      ap (λ (x : ℕ). last_of 0 (keep (λ v. ltb x v) (D ++ (w ∷ [])))) f
      ∙ ap (last_of 0) (above_last w (omega arith) ∙ above_all w h ∙ sym (above_all 0 (λ d m. omega (arith, h d m))))
      ∙ ap (λ (x : ℕ). last_of 0 (keep (λ v. ltb x v) D)) (sym e)

-- One level more, with the lines X that start there: a line that goes into none has its last level there, any other keeps the one that it had.
module _ (D : List ℕ) (w : ℕ) (S X : List Start) (low : (d : ℕ) → d ∈ D → w < d) (old : (x : Start) → x ∈ S → x.weight ∈ D)
    (new : (x : Start) → x ∈ X → x.weight ≡ w) (i : ℕ) where
  pub last_here : 1 ≤ w → Unjoined i (S ++ X) → last_level (D ++ (w ∷ [])) (S ++ X) i ≡ w
  last_here l h = last_own D w (S ++ X) i l (joined_none i (S ++ X) h)

  pub last_kept : (Unjoined i (S ++ X) → ⊥) → last_level (D ++ (w ∷ [])) (S ++ X) i ≡ last_level D S i
  last_kept h = go (joined_cases i S)
    where
      go : Cases i S → last_level (D ++ (w ∷ [])) (S ++ X) i ≡ last_level D S i
      go (inl r) = last_gone D w S (S ++ X) i (joined_kept i S X r.1 r.2) (omega (arith, r.3, low r.0.weight (old r.0 r.1)))
      go (inr r) = at (joined_cases i X)
        where
          at : Cases i X → last_level (D ++ (w ∷ [])) (S ++ X) i ≡ last_level D S i
          at (inl q) = last_joined D w S (S ++ X) i low r.1 (joined_later i S X r.0 ∙ q.3 ∙ new q.0 q.1)
          at (inr q) = absurd (h none)
            where
              none : Unjoined i (S ++ X)
              none x m j = by (Memᴰ.append_cases S m)
                where
                  by : x ∈ S ⊎ x ∈ X → ⊥
                  by (inl a) = r.0 x a j
                  by (inr a) = q.0 x a j

-- above the line that it goes into, and no higher than any level above that
last_between : (W : List ℕ) (S : List Start) (i d : ℕ) → Falls W → d ∈ W → joined_at_weight i S < d
    → (last_level W S i ≤ d) × (joined_at_weight i S < last_level W S i)
unfolding last_level
last_between W S i d r m l =
    let f : ℕ → Bool = λ v. ltb (joined_at_weight i S) v in
    let h = last_least 0 d (keep f W) (keep_rising (λ v w. ltb w v) f W r) (keep_at f W m (lt-ltb (joined_at_weight i S) d l)) in
    (h.0, ltb-true (joined_at_weight i S) (last_of 0 (keep f W)) (keep_of f W h.1).1)

-- ---- the lines so far, and the classes of the last level

-- a start where there is none
abbrev pub no_start : Start
no_start = record { weight = 0; joins = []; small = 0 }

-- line i of the lines B
abbrev pub start_of : List Start → ℕ → Start
start_of B i = get_or B (i - 1) no_start

pub start_old : (B X : List Start) (i : ℕ) → 1 ≤ i → i ≤ length B → start_of (B ++ X) i ≡ start_of B i
start_old B X i l h = get_or-append B X no_start (i - 1) (omega arith)

pub start_new : (B X : List Start) (j i : ℕ) → i ≡ suc (length B + j) → start_of (B ++ X) i ≡ get_or X j no_start
start_new B X j i e = ap (λ (x : ℕ). get_or (B ++ X) x no_start) (let z : i - 1 ≡ length B + j = omega arith in z) ∙ get_or-append-add B X j no_start

-- a chain at the threshold v joins a to b
abbrev ChainAt : List Link → ℕ → ℕ → ℕ → ℕ → ℕ → Type 0
ChainAt L p k v a b = Chain (adjacent k) (family L p k v) a b

-- The lines B of the levels D, and the branches P of the last of these: each line that no other joins has a branch, and no other line has.
pub record Standing (L : List Link) (p k : ℕ) (D : List ℕ) (B : List Start) (P : List Branch) : Type 0 where
  pub numbered : Numbered P (length B)
  pub weights : (x : Start) → x ∈ B → x.weight ∈ D
  pub early : (x : Start) → x ∈ B → (i : ℕ) → i ∈ x.joins → (1 ≤ i) × (i ≤ length B)
  pub unjoined : (b : Branch) → b ∈ P → Unjoined (num b) B
  pub present : (i : ℕ) → 1 ≤ i → i ≤ length B → Unjoined i B → (b : Branch) × b ∈ P × (num b ≡ i)
  -- at thresholds no higher than these levels its class has the smallest clique of the line's start
  pub chained : (b : Branch) → b ∈ P → (v : ℕ) → ((d : ℕ) → d ∈ D → v ≤ d) → ChainAt L p k v b.small (start_of B (num b)).small
  -- a line weighs less than one that it joins, and its class holds that one's
  pub held : (y : Start) → y ∈ B → (i : ℕ) → i ∈ y.joins
      → (y.weight < (start_of B i).weight) × ChainAt L p k y.weight (start_of B i).small y.small

module _ (L : List Link) (p k : ℕ) where
  pub standing_none : Standing L p k [] [] []
  unfolding Distinct
  standing_none = record {
    numbered = record { bounds = λ b m. absurd (Memᴰ.not-nil m); once = tt };
    weights = λ x m. absurd (Memᴰ.not-nil m);
    early = λ x m. absurd (Memᴰ.not-nil m);
    unjoined = λ b m. absurd (Memᴰ.not-nil m);
    present = λ i l h. absurd (omega arith);
    chained = λ b m. absurd (Memᴰ.not-nil m);
    held = λ y m. absurd (Memᴰ.not-nil m);
  }

  module _ (D : List ℕ) (B : List Start) (P : List Branch) (h : Standing L p k D B P) (w : ℕ) (low : (d : ℕ) → d ∈ D → w < d) where
    abbrev n : ℕ
    n = length B

    abbrev X : List Start
    X = (level_at_lem L p k w P (length B)).starts

    abbrev Q : List Branch
    Q = (level_at_lem L p k w P (length B)).branches

    abbrev F : List ℕ
    F = family L p k w

    total : length (B ++ X) ≡ count_at L p k w P n
    total = length-append B X

    next : Numbered Q (length (B ++ X))
    next = subst (Numbered Q) (sym total) (numbered_on L p k w P n h.numbered)

    -- line j of those that start
    new_at : (j : ℕ) → j < length X → Here L p k w P n (n + j) (get_or X j no_start) (drop (suc j) X)
    new_at j l =
        each_at (Here L p k w P n) n (n + j) (take j X) (get_or X j no_start) (drop (suc j) X)
        (subst (Each (Here L p k w P n) n) (split_at X j no_start l) (level_born L p k w P n)) (omega (arith, length-take-le j X (omega arith)))

    level_low : (d : ℕ) → d ∈ D → w ≤ d
    level_low d m = omega (arith, low d m)

    -- a class of the level before, at this one
    here : (b : Branch) → b ∈ P → ChainAt L p k w b.small (start_of B (num b)).small
    here b m = h.chained b m w level_low

    -- the branch of a class that goes on
    on_small : (b : Branch) → b ∈ Q → (c : Community) (d : Branch) → c ∈ classes_at L p k w → held_by L p k w P c ≡ d ∷ []
        → num b ≡ num d → b.small ≡ c.small
    on_small b m c d i e z = go (goes (held_by L p k w P) w (level_made L p k w P n) c i)
      where
        go : Goes (held_by L p k w P) w c (level_at_lem L p k w P n) → b.small ≡ c.small
        go (inl g) =
            let s : d ≡ g.0 = Memᴰ.eq_of_singleton (subst (λ (l : List Branch). d ∈ l) g.1 (only_in (held_by L p k w P c) d e)) in
            ap (λ (t : Branch). t.small) (num_one Q next.once b (record { small = c.small; number = num g.0 }) m g.2 (z ∙ ap num s))
        go (inr g) =
            let y = (start_of_lem L p k w P n g.1).2 in
            absurd (y.count (sym (length-map (held_by L p k w P y.class) num) ∙ ap length (sym y.takes ∙ g.2 ∙ ap (map num) e)))

    -- and of a line that starts
    new_small : (b : Branch) → b ∈ Q → (j : ℕ) → j < length X → num b ≡ suc (n + j) → b.small ≡ (get_or X j no_start).small
    new_small b m j l z =
        ap (λ (t : Branch). t.small)
        (num_one Q next.once b (record { small = (get_or X j no_start).small; number = suc (n + j) }) m (new_at j l).branch z)

    old_joins : (x : Start) → x ∈ X → (i : ℕ) → i ∈ x.joins → (1 ≤ i) × (i ≤ n)
    old_joins x m i j = joined_le L p k w P n h.numbered (start_of_lem L p k w P n m).2 i j

    origin : (b : Branch) → b ∈ Q → Came (held_by L p k w P) (classes_at L p k w) n (count_at L p k w P n) (num b)
    origin b m = came (held_by L p k w P) w (level_made L p k w P n) (num b) (Memᴰ.map num m)

    -- the branch that goes on with line d of the level before
    from_held : (c : Community) (d : Branch) → held_by L p k w P c ≡ d ∷ [] → d ∈ P × ChainAt L p k w c.small d.small
    from_held c d e = let q = held_of L p k w P c (only_in (held_by L p k w P c) d e) in (q.0, at_chain L p k w c.small d.small q.1)

    in_family_lem : (x : Start) → x ∈ X → (v : ℕ) → v ≤ w → x.small ∈ family L p k v
    in_family_lem x m v l =
        let y = (start_of_lem L p k w P n m).2 in
        family_mono L p k w v l x.small (Memᴰ.cast y.shows (communities_of k F y.class y.listed).member)

    pub standing_next : Standing L p k (D ++ (w ∷ [])) (B ++ (level_of L p k w P (length B) (communities k (family L p k w))).starts)
        (level_of L p k w P (length B) (communities k (family L p k w))).branches
    standing_next = record {
      numbered = next;
      weights = λ x m. weigh x (Memᴰ.append_cases B m);
      early = λ x m i j. soon x (Memᴰ.append_cases B m) i j;
      unjoined = λ b m x i j. free b m x (Memᴰ.append_cases B i) j;
      present = there;
      chained = λ b m v l. chain b m v (λ d i. l d (Memᴰ.append_left (w ∷ []) i)) (l w (Memᴰ.append_right D (Memᴰ.head refl)));
      held = λ y m i j. holds y (Memᴰ.append_cases B m) i j;
    }
      where
        weigh : (x : Start) → x ∈ B ⊎ x ∈ X → x.weight ∈ (D ++ (w ∷ []))
        weigh x (inl m) = Memᴰ.append_left (w ∷ []) (h.weights x m)
        weigh x (inr m) = Memᴰ.append_right D (Memᴰ.head (start_of_lem L p k w P n m).2.weighs)

        soon : (x : Start) → x ∈ B ⊎ x ∈ X → (i : ℕ) → i ∈ x.joins → (1 ≤ i) × (i ≤ length (B ++ X))
        soon x (inl m) i j = let r = h.early x m i j in (r.0, omega (arith, r.1, total))
        soon x (inr m) i j = let r = old_joins x m i j in (r.0, omega (arith, r.1, total))

        free : (b : Branch) → b ∈ Q → (x : Start) → x ∈ B ⊎ x ∈ X → num b ∈ x.joins → ⊥
        free b m x (inl i) j = go (origin b m)
          where
            go : Came (held_by L p k w P) (classes_at L p k w) n (count_at L p k w P n) (num b) → ⊥
            go (inl f) = h.unjoined f.1 (from_held f.0 f.1 f.3).0 x i (Memᴰ.cast (sym f.4) j)
            go (inr f) = omega (arith, h.early x i (num b) j)
        free b m x (inr i) j = gone L p k w P n h.numbered (start_of_lem L p k w P n i).2 (num b) j (Memᴰ.map num m)

        there : (i : ℕ) → 1 ≤ i → i ≤ length (B ++ X) → Unjoined i (B ++ X) → (b : Branch) × b ∈ Q × (num b ≡ i)
        there i l u f = go (lt_or_le n i)
          where
            go : (n < i) ⊎ (i ≤ n) → (b : Branch) × b ∈ Q × (num b ≡ i)
            go (inl a) =
                let j = i - suc n in
                let y = new_at j (omega (arith, total, a, u)) in
                (record { small = (get_or X j no_start).small; number = suc (n + j) }, y.branch, let z : suc (n + j) ≡ i = omega arith in z)
            go (inr a) = on (h.present i l a (λ x m. f x (Memᴰ.append_left X m)))
              where
                on : (b : Branch) × b ∈ P × (num b ≡ i) → (b : Branch) × b ∈ Q × (num b ≡ i)
                on (b, m, z) = at (goes (held_by L p k w P) w (level_made L p k w P n) c.0 c.1)
                  where
                    c : (c : Community) × c ∈ classes_at L p k w × ChainAt L p k w c.small b.small
                    c = home k F b.small (first_in (here b m))

                    in_c : b ∈ held_by L p k w P c.0
                    in_c = held_at L p k w P c.0 m (chain_at L p k w c.0.small b.small c.2)

                    at : Goes (held_by L p k w P) w c.0 (level_at_lem L p k w P n) → (b : Branch) × b ∈ Q × (num b ≡ i)
                    at (inl g) =
                        let e : b ≡ g.0 = Memᴰ.eq_of_singleton (subst (λ (l : List Branch). b ∈ l) g.1 in_c) in
                        (record { small = c.0.small; number = num g.0 }, g.2, ap num (sym e) ∙ z)
                    at (inr g) =
                        absurd (f g.0 (Memᴰ.append_right B g.1)
                        (subst (λ (l : List ℕ). i ∈ l) (sym g.2) (Memᴰ.cast (sym z) (Memᴰ.map num in_c))))

        chain : (b : Branch) → b ∈ Q → (v : ℕ) → ((d : ℕ) → d ∈ D → v ≤ d) → v ≤ w
            → ChainAt L p k v b.small (start_of (B ++ X) (num b)).small
        chain b m v l u = go (origin b m)
          where
            go : Came (held_by L p k w P) (classes_at L p k w) n (count_at L p k w P n) (num b)
                → ChainAt L p k v b.small (start_of (B ++ X) (num b)).small
            go (inl f) =
                let q = from_held f.0 f.1 f.3 in
                let r = h.numbered.bounds f.1 q.0 in
                let s : start_of (B ++ X) (num b) ≡ start_of B (num f.1) = ap (start_of (B ++ X)) f.4 ∙ start_old B X (num f.1) r.0 r.1 in
                subst (λ (a : ℕ). ChainAt L p k v a (start_of (B ++ X) (num b)).small)
                (sym (on_small b m f.0 f.1 f.2 f.3 f.4))
                (subst (λ (x : Start). ChainAt L p k v f.0.small x.small) (sym s)
                (chain_trans (chain_lower L p k w v u q.1) (h.chained f.1 q.0 v l)))
            go (inr f) =
                let j = num b - suc n in
                let a : j < length X = omega (arith, f.0, f.1) in
                let z : num b ≡ suc (n + j) = omega (arith, f.0) in
                let x = get_or X j no_start in
                subst (λ (a : ℕ). ChainAt L p k v a (start_of (B ++ X) (num b)).small) (sym (new_small b m j a z))
                (subst (λ (y : Start). ChainAt L p k v x.small y.small) (sym (start_new B X j (num b) z))
                (alone (in_family_lem x (get_d_member X j no_start a) v u)))

        holds : (y : Start) → y ∈ B ⊎ y ∈ X → (i : ℕ) → i ∈ y.joins
            → (y.weight < (start_of (B ++ X) i).weight) × ChainAt L p k y.weight (start_of (B ++ X) i).small y.small
        holds y (inl m) i j =
            let r = h.early y m i j in
            subst (λ (x : Start). (y.weight < x.weight) × ChainAt L p k y.weight x.small y.small)
            (sym (start_old B X i r.0 r.1)) (h.held y m i j)
        holds y (inr m) i j =
            let a = (start_of_lem L p k w P n m).2 in
            let r = old_joins y m i j in
            let d = joined_of L p k w P n a j in
            let q = held_of L p k w P a.class d.1 in
            let x = start_of B i in
            let e : start_of B (num d.0) ≡ x = ap (start_of B) d.2 in
            let up : w < x.weight = low x.weight (h.weights x (get_d_member B (i - 1) no_start (omega (arith, r.0, r.1)))) in
            let c : ChainAt L p k w x.small a.class.small =
            chain_trans (chain_sym (adjacent_sym k) (subst (λ (z : Start). ChainAt L p k w d.0.small z.small) e (here d.0 q.0)))
            (chain_sym (adjacent_sym k) (at_chain L p k w a.class.small d.0.small q.1)) in
            subst (λ (z : Start). (y.weight < z.weight) × ChainAt L p k y.weight z.small y.small)
            (sym (start_old B X i r.0 r.1)) (
              omega (arith, up, a.weighs),
              subst (λ (t : ℕ). ChainAt L p k t x.small y.small) (sym a.weighs)
                  (subst (λ (s : ℕ). ChainAt L p k w x.small s) (sym a.shows) c),
            )

  -- ---- all lines

  standing_from : (W D : List ℕ) (B : List Start) (P : List Branch) → Standing L p k D B P → Falls (D ++ W)
      → (Q : List Branch) × Standing L p k (D ++ W) (B ++ starts_from L p k P (length B) W) Q
  unfolding starts_from
  standing_from [] D B P h r =
      (P, subst (λ (E : List ℕ). Standing L p k E (B ++ []) P) (sym (append-nil D)) (subst (λ (C : List Start). Standing L p k D C P) (sym (append-nil B)) h))
  standing_from (w ∷ W) D B P h r =
      let l = level_of L p k w P (length B) (communities k (family L p k w)) in
      let e : D ++ (w ∷ W) ≡ (D ++ (w ∷ [])) ++ W = sym (append_assoc D (w ∷ []) W) in
      let q = standing_from W (D ++ (w ∷ [])) (B ++ l.starts) l.branches (standing_next D B P h w (falls_before D w W r)) (subst Falls e r) in
      let R = starts_from L p k l.branches in
      let f : (B ++ l.starts) ++ R (length (B ++ l.starts)) W ≡ B ++ (l.starts ++ R (length B + length l.starts) W) =
      append_assoc B l.starts (R (length (B ++ l.starts)) W) ∙ ap (λ (x : ℕ). B ++ (l.starts ++ R x W)) (length-append B l.starts) in (
        q.0,
        subst (λ (E : List ℕ). Standing L p k E (B ++ starts_from L p k P (length B) (w ∷ W)) q.0) (sym e)
            (subst (λ (C : List Start). Standing L p k ((D ++ (w ∷ [])) ++ W) C q.0) f q.1),
      )

  standing_all : (Q : List Branch) × Standing L p k (levels L) (all_starts L p k) Q
  standing_all = standing_from (levels L) [] [] [] standing_none (levels_falling L)

  -- the line i of the start x, of the lines S of the levels W
  abbrev line_in_lem : List ℕ → List Start → ℕ → Start → Line
  line_in_lem W S i x = line x.weight (length x.joins) (goes_into i 1 S) x.small (whole_of L p k W S i x.small)

  -- line j of the tree
  line_at : (W : List ℕ) (S : List Start) (n : ℕ) (X : List Start) (j : ℕ) (d : Line) → j < length (lines_from L p k W S n X)
      → (j < length X) × (get_or (lines_from L p k W S n X) j d
      ≡ line_in_lem W S (n + j) (get_or X j no_start))
  unfolding lines_from
  line_at W S n [] j d l = absurd (omega arith)
  line_at W S n (x ∷ X) zero d l =
      (omega arith, ap (λ (i : ℕ). line_in_lem W S i x) (let z : n ≡ n + 0 = omega arith in z))
  line_at W S n (x ∷ X) (suc j) d l =
      let r = line_at W S (suc n) X j d (omega arith) in
      let y = get_or X j no_start in (
        omega (arith, r.0),
        r.1 ∙ ap (λ (i : ℕ). line_in_lem W S i y) (let z : suc n + j ≡ n + suc j = omega arith in z),
      )

  from_length : (W : List ℕ) (S : List Start) (n : ℕ) (X : List Start) → length (lines_from L p k W S n X) ≡ length X
  unfolding lines_from
  from_length W S n [] = refl
  from_length W S n (x ∷ X) = ap suc (from_length W S (suc n) X)

  module _ (ok : legal p L ≡ true) where
    abbrev S : List Start
    S = all_starts L p k

    all_standing : Standing L p k (levels L) S standing_all.0
    all_standing = standing_all.1

    -- line i is a line of its own at its start, and until the line that it goes into
    pub own_levels : (i : ℕ) → 1 ≤ i → i ≤ length (all_starts L p k)
        → (last_level (levels L) (all_starts L p k) i ≤ (start_of (all_starts L p k) i).weight)
        × (joined_at_weight i (all_starts L p k) < last_level (levels L) (all_starts L p k) i)
    own_levels i l u = last_between (levels L) S i (start_of S i).weight (levels_falling L) at (go (joined_cases i S))
      where
        at : (start_of S i).weight ∈ levels L
        at = all_standing.weights (start_of S i) (get_d_member S (i - 1) no_start (omega arith))

        go : Cases i S → joined_at_weight i S < (start_of S i).weight
        go (inl r) = omega (arith, r.3, (all_standing.held r.0 r.1 i r.2).0)
        go (inr r) = let q = levels_of L (start_of S i).weight at in omega (arith, r.1, q.2, legal_positive p L ok q.0 q.1)

    -- the union that line j shows, where s is a clique of its class
    abbrev shown_by : ℕ → ℕ → ℕ
    shown_by j s = union_at k (family L p k (last_level (levels L) S (suc j))) s

    number_back : (j : ℕ) → start_of S (suc j) ≡ get_or S j no_start
    number_back j = ap (λ (x : ℕ). get_or S x no_start) (let z : suc j - 1 ≡ j = omega arith in z)

    own_at : (j : ℕ) → j < length S
        → (last_level (levels L) S (suc j) ≤ (get_or S j no_start).weight) × (joined_at_weight (suc j) S < last_level (levels L) S (suc j))
    own_at j l =
        subst (λ (x : Start). (last_level (levels L) S (suc j) ≤ x.weight) × (joined_at_weight (suc j) S < last_level (levels L) S (suc j))) (number_back j)
        (own_levels (suc j) (omega arith) (omega arith))

    -- a chain at a threshold is one at a lower one, so the union of a class only grows
    union_lower : (t v a : ℕ) → v ≤ t → sub (union_at k (family L p k t) a) (union_at k (family L p k v) a) ≡ true
    union_lower t v a l =
        has_sub (union_at k (family L p k t) a) (union_at k (family L p k v) a)
        (λ q x. let r = at_part k (family L p k t) a q x in at_has k (family L p k v) a q r.0 (chain_lower L p k t v l r.1) r.2)

    line_number_lem : (j : ℕ) (d : Line) → j < length (tree L p k) → (j < length S) × (get_or (tree L p k) j d
        ≡ line_in_lem (levels L) S (suc j) (get_or S j no_start))
    unfolding tree
    line_number_lem j d l =
        let r = line_at (levels L) S 1 S j d l in
        let x = get_or S j no_start in
        (r.0, r.1 ∙ ap (λ (i : ℕ). line_in_lem (levels L) S i x) (let z : 1 + j ≡ suc j = omega arith in z))

    lines_count : length (tree L p k) ≡ length S
    unfolding tree
    lines_count = from_length (levels L) S 1 S

    -- a line's union holds the union of its class at its start
    pub whole_holds : (j : ℕ) (d : Line) → j < length (tree L p k)
        → sub (union_at k (family L p k (get_or (tree L p k) j d).weight) (get_or (tree L p k) j d).small) (get_or (tree L p k) j d).whole ≡ true
    unfolding whole_of
    whole_holds j d l =
        let r = line_number_lem j d l in
        let x = get_or S j no_start in
        subst (λ (y : Line). sub (union_at k (family L p k y.weight) y.small) y.whole ≡ true) (sym r.1)
        (union_lower x.weight (last_level (levels L) S (suc j)) x.small (own_at j r.0).0)

    -- and lies within the union of the line that it goes into
    pub whole_into : (i j : ℕ) (d : Line) → i < length (tree L p k) → (get_or (tree L p k) i d).into ≡ suc j
        → (j < length (tree L p k)) × (sub (get_or (tree L p k) i d).whole (get_or (tree L p k) j d).whole ≡ true)
    unfolding whole_of
    whole_into i j d l e = (
      omega (arith, f.0, lines_count),
      subst (λ (u : Line). sub u.whole (get_or (tree L p k) j d).whole ≡ true) (sym r.1)
          (subst (λ (u : Line). sub (shown_by i x.small) u.whole ≡ true) (sym (line_number_lem j d (omega (arith, f.0, lines_count))).1)
          (sub_trans (shown_by i x.small) (union_at k (family L p k y.weight) x.small)
          (shown_by j y.small) before_join after_join)),
    )
      where
        r : (i < length S) × (get_or (tree L p k) i d
            ≡ line_in_lem (levels L) S (suc i) (get_or S i no_start))
        r = line_number_lem i d l

        x : Start
        x = get_or S i no_start

        f : (j < length S) × suc i ∈ (get_or S j no_start).joins × (joined_at_weight (suc i) S ≡ (get_or S j no_start).weight)
        f = joined_found (suc i) 1 S j no_start (omega arith) (sym (ap (λ (u : Line). u.into) r.1) ∙ e ∙ (let z : suc j ≡ 1 + j = omega arith in z))

        y : Start
        y = get_or S j no_start

        before_join : sub (shown_by i x.small) (union_at k (family L p k y.weight) x.small) ≡ true
        before_join =
            union_lower (last_level (levels L) S (suc i)) y.weight x.small (omega (arith, (own_at i r.0).1, f.2))

        -- the class of the line that it goes into holds its own
        one_class : union_at k (family L p k y.weight) x.small ≡ union_at k (family L p k y.weight) y.small
        one_class =
            at_same k (family L p k y.weight) (family L p k y.weight) (λ z m. m) (λ z m. m) x.small y.small
            (subst (λ (u : Start). ChainAt L p k y.weight u.small y.small) (number_back i)
            (all_standing.held y (get_d_member S j no_start f.0) (suc i) f.1).1)

        after_join : sub (union_at k (family L p k y.weight) x.small) (shown_by j y.small) ≡ true
        after_join =
            subst (λ (u : ℕ). sub u (shown_by j y.small) ≡ true) (sym one_class)
            (union_lower y.weight (last_level (levels L) S (suc j)) y.small (own_at j f.0).0)
