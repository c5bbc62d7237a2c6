-- How many lines a merge tree has: a line that joins none has k slots that no other such line has, and each other line joins two or more. Assumes nothing.
use mathlib.Core.Path.{◌≡◌, refl, sym, ap, ◌∙◌, subst}
use mathlib.Core.Logic.{◌⊎◌, inl, inr}
use mathlib.Core.Bool.{Bool, true, false}
use mathlib.Core.List.Memᴰ
use mathlib.Core.List.{List, [], ◌∷◌, ◌++◌, map, append_assoc}
use Prim.Native.Nat.{ℕ, zero, suc, ◌+◌, ◌-◌, ◌*◌, ◌/◌, ◌≤◌}
use native.Mathlib.Nat.{le-div_iff_mul-le}
use native.Mathlib.Omega.{arith}
use lib.Dec.{eqb, ltb}
use lib.ListN.{length, length-append, length-map}
use borrow.Author.Tests.{eqb-true, ne_eqb, ltb-true}
use Rattle.sets.specs.Lists.{◌∈◌, keep}
use Rattle.sets.specs.Sets.{has, meet, out, size, sub, before, members, sets_of}
use Rattle.sets.proofs.Tests.{never, split, same_or_not}
use Rattle.sets.proofs.ListLaws.{Holds, Rising, Distinct, keep_yes, keep_no, keep_at, keep_of, keep_append, keep_distinct, keep_rising, append_distinct}
use Rattle.sets.proofs.ListLaws.{map_distinct, distinct_le, rising_distinct, number_order, distinct_map}
use Rattle.sets.proofs.Laws.{out_sub, sub_size, sub_has}
use Rattle.sets.proofs.Members.{in_member, members_rising, members_length, sets_of_lem}
use Rattle.sets.proofs.Parts.{sub_both, out_keeps, out_lacks, size_less}
use Rattle.sets.proofs.Order.{set_order, before_irrefl}
use Rattle.percolation.specs.Percolate.{adjacent, Chain, Community, communities}
use Rattle.percolation.specs.Links.{Link, cliques, family, slot_sets, slots}
use Rattle.percolation.specs.Levels.{levels, joined_at}
use Rattle.percolation.specs.Tree.{Start, Branch, Level, class_at, held_by, level_of, starts_from, tree}
use Rattle.percolation.proofs.Chains.{chain_joined, chain_trans, chain_sym, adjacent_sym}
use Rattle.percolation.proofs.Communities.{communities_of, communities_rising, home, home_only}
use Rattle.percolation.proofs.Exchange.{near}
use Rattle.percolation.proofs.Families.{in_sets, sets_part, family_mono, chain_lower}
use Rattle.percolation.proofs.Levels.{heavy_zero, levels_falling}
use Rattle.percolation.proofs.SlotCount.{slot_at}
use Rattle.percolation.proofs.Tree.{all_starts, branches_small, held_once}
use Rattle.tree_theory.proofs.RootsLines.{tree_length}
use Rattle.tree_theory.proofs.RootsLevel.{family_sets}

-- ---- sums over lists

module _ {A B : Type 0} (f : A → B → Bool) where
  -- how many of P pass, for each of C
  abbrev total : List A → List B → ℕ
  total [] P = 0
  total (c ∷ C) P = length (keep (f c) P) + total C P

  total_none : (C : List A) → total C [] ≡ 0
  unfolding keep
  total_none [] = refl
  total_none (c ∷ C) = omega (arith, total_none C)

  total_more : (C : List A) (b : B) (P : List B) → total C (b ∷ P) ≡ length (keep (λ c. f c b) C) + total C P
  unfolding keep
  total_more [] b P = refl
  total_more (c ∷ C) b P = go (split (f c b)) (total_more C b P)
    where
      go : (f c b ≡ true) ⊎ (f c b ≡ false) → total C (b ∷ P) ≡ length (keep (λ c. f c b) C) + total C P
          → total (c ∷ C) (b ∷ P) ≡ length (keep (λ c. f c b) (c ∷ C)) + total (c ∷ C) P
      go (inl e) r = omega (arith, ap length (keep_yes (f c) b P e), ap length (keep_yes (λ c. f c b) c C e))
      go (inr e) r = omega (arith, ap length (keep_no (f c) b P e), ap length (keep_no (λ c. f c b) c C e))

  one_only : (C : List A) → Distinct C → ((a c : A) → a ∈ C → c ∈ C → a ≡ c) → length C ≤ 1
  unfolding Distinct
  one_only [] d h = omega arith
  one_only (a ∷ []) d h = omega arith
  one_only (a ∷ c ∷ C) d h = absurd (d.0 (Memᴰ.cast (h a c (Memᴰ.head refl) (Memᴰ.tail (Memᴰ.head refl))) (Memᴰ.head refl)))

  -- no two of C have one of P in common
  total_le : (C : List A) → Distinct C → (P : List B) → ((b : B) (a c : A) → a ∈ C → c ∈ C → f a b ≡ true → f c b ≡ true → a ≡ c) → total C P ≤ length P
  total_le C d [] h = omega (arith, total_none C)
  total_le C d (b ∷ P) h =
      let K = keep (λ c. f c b) C in
      let one = one_only K (keep_distinct (λ c. f c b) C d) (λ a c i j.
      let x = keep_of (λ c. f c b) C i in
      let y = keep_of (λ c. f c b) C j in
      h b a c x.0 y.0 x.1 y.1) in
      omega (arith, total_more C b P, one, total_le C d P h)

module _ {A B : Type 0} (g : A → List B) where
  abbrev spread : List A → List B
  spread [] = []
  spread (x ∷ X) = g x ++ spread X

  spread_of : {s : B} (X : List A) → s ∈ spread X → (x : A) × x ∈ X × s ∈ g x
  spread_of [] m = absurd (Memᴰ.not-nil m)
  spread_of {s} (x ∷ X) m = go (Memᴰ.append_cases (g x) m) (spread_of X)
    where
      go : s ∈ g x ⊎ s ∈ spread X → (s ∈ spread X → (y : A) × y ∈ X × s ∈ g y) → (y : A) × y ∈ (x ∷ X) × s ∈ g y
      go (inl i) rest = (x, Memᴰ.head refl, i)
      go (inr i) rest = let r = rest i in (r.0, Memᴰ.tail r.1, r.2)

  spread_append : (X Y : List A) → spread (X ++ Y) ≡ spread X ++ spread Y
  spread_append [] Y = refl
  spread_append (x ∷ X) Y = ap (λ (Z : List B). g x ++ Z) (spread_append X Y) ∙ sym (append_assoc (g x) (spread X) (spread Y))

  spread_length : (k : ℕ) (X : List A) → ((x : A) → x ∈ X → length (g x) ≡ k) → length (spread X) ≡ length X * k
  spread_length k [] h = omega arith
  spread_length k (x ∷ X) h =
      length-append (g x) (spread X)
      ∙ (let a = h x (Memᴰ.head refl) in let b = spread_length k X (λ y m. h y (Memᴰ.tail m)) in omega (arith, suc_times (length X) k))
    where
      suc_times : (n k : ℕ) → suc n * k ≡ k + n * k
      suc_times n k = omega arith

  spread_distinct : (first : A → A → Bool) (X : List A) → Rising first X → ((x : A) → x ∈ X → Distinct (g x))
      → ((x y : A) → x ∈ X → y ∈ X → first x y ≡ true → (s : B) → s ∈ g x → s ∈ g y → ⊥) → Distinct (spread X)
  unfolding Rising Distinct
  spread_distinct first [] r d h = tt
  spread_distinct first (x ∷ X) r d h =
      append_distinct (g x) (spread X) (d x (Memᴰ.head refl))
      (spread_distinct first X r.1 (λ y m. d y (Memᴰ.tail m)) (λ y z i j. h y z (Memᴰ.tail i) (Memᴰ.tail j)))
      (λ s i j. let q = spread_of X j in h x q.0 (Memᴰ.head refl) (Memᴰ.tail q.1) (r.0 q.0 q.1) s i q.2)

-- ---- the lines that join none

abbrev pub leaf : Start → Bool
leaf x = eqb (length x.joins) 0

abbrev pub leaves : List Start → List Start
leaves X = keep leaf X

abbrev num : Branch → ℕ
num b = b.number

-- ---- the lines of a level

abbrev by_class : Start → Start → Bool
by_class x y = before x.small y.small

module _ (L : List Link) (p k w : ℕ) (P : List Branch) where
  abbrev holds : Community → Branch → Bool
  holds c b = joined_at L p k w c.small b.small

  held_keep : (c : Community) → held_by L p k w P c ≡ keep (holds c) P
  unfolding held_by
  held_keep c = refl

  -- what a line that starts is of
  abbrev Of : List Community → Start → Type 0
  Of C y = (c : Community) × c ∈ C × (y.small ≡ c.small) × (y.joins ≡ map num (held_by L p k w P c))

  start_class : (n : ℕ) (C : List Community) (y : Start) → y ∈ (level_of L p k w P n C).starts → Of C y
  unfolding level_of
  start_class n [] y m = absurd (Memᴰ.not-nil m)
  start_class n (c ∷ C) y m = go (held_by L p k w P c) refl (level_of L p k w P n C) (level_of L p k w P (suc n) C) (start_class n C y)
      (start_class (suc n) C y) m
    where
      later : Of C y → Of (c ∷ C) y
      later r = (r.0, Memᴰ.tail r.1, r.2, r.3)

      here : (D : List Branch) → held_by L p k w P c ≡ D → {X : List Start} → (y ∈ X → Of C y)
          → (y ≡ record { weight = w; joins = map num D; small = c.small }) ⊎ y ∈ X → Of (c ∷ C) y
      here D e b (inl f) = (c, Memᴰ.head refl, ap (λ (z : Start). z.small) f, ap (λ (z : Start). z.joins) f ∙ ap (map num) (sym e))
      here D e b (inr i) = later (b i)

      go : (D : List Branch) → held_by L p k w P c ≡ D → (same more : Level) → (y ∈ same.starts → Of C y) → (y ∈ more.starts → Of C y)
          → y ∈ (class_at w n c D same more).starts → Of (c ∷ C) y
      go [] e same more a b i = here [] e b (Memᴰ.cases_cons i)
      go (d ∷ []) e same more a b i = later (a i)
      go (d ∷ g ∷ D) e same more a b i = here (d ∷ g ∷ D) e b (Memᴰ.cases_cons i)

  starts_rising : (n : ℕ) (C : List Community) → Rising before (map (λ c. c.small) C) → Rising by_class (level_of L p k w P n C).starts
  unfolding level_of Rising
  starts_rising n [] r = tt
  starts_rising n (c ∷ C) r = go (held_by L p k w P c) (starts_rising n C r.1) (starts_rising (suc n) C r.1)
    where
      over : (y : Start) → y ∈ (level_of L p k w P (suc n) C).starts → before c.small y.small ≡ true
      over y i = let q = start_class (suc n) C y i in r.0 y.small (Memᴰ.cast q.2 (Memᴰ.map (λ c. c.small) q.1))

      go : (D : List Branch) → Rising by_class (level_of L p k w P n C).starts → Rising by_class (level_of L p k w P (suc n) C).starts
          → Rising by_class (class_at w n c D (level_of L p k w P n C) (level_of L p k w P (suc n) C)).starts
      go [] a b = (over, b)
      go (d ∷ []) a b = a
      go (d ∷ g ∷ D) a b = (over, b)

  -- each class has a branch; a line that joins none counts two, and each other line is paid for by those that it joins
  abbrev Paid : Level → ℕ → Type 0
  Paid l t = (length l.branches + length l.starts ≤ 2 * length (leaves l.starts) + t) × (length l.starts ≤ length l.branches)

  level_paid : (n : ℕ) (C : List Community) → Paid (level_of L p k w P n C) (total holds C P)
  unfolding level_of keep
  level_paid n [] = (omega arith, omega arith)
  level_paid n (c ∷ C) =
      go (held_by L p k w P c) (ap length (held_keep c)) (level_of L p k w P n C) (level_of L p k w P (suc n) C) (level_paid n C) (level_paid (suc n) C)
    where
      t : ℕ
      t = total holds C P

      go : (D : List Branch) → length D ≡ length (keep (holds c) P) → (same more : Level) → Paid same t → Paid more t
          → Paid (class_at w n c D same more) (length (keep (holds c) P) + t)
      go [] e same l a b =
          let x : Start = record { weight = w; joins = []; small = c.small } in
          (omega (arith, ap length (keep_yes leaf x l.starts refl), b.0), omega (arith, b.1))
      go (d ∷ []) e same l a b = (omega (arith, a.0), omega (arith, a.1))
      go (d ∷ g ∷ D) e same l a b =
          let x : Start = record { weight = w; joins = map num (d ∷ g ∷ D); small = c.small } in
          (omega (arith, ap length (keep_no leaf x l.starts (ne_eqb (length x.joins) 0 (λ f. omega arith))), b.0), omega (arith, b.1))

-- ---- all lines

module _ (L : List Link) (p k : ℕ) where
  abbrev classes_at : ℕ → List Community
  classes_at w = communities k (family L p k w)

  abbrev level_at_lem : ℕ → List Branch → ℕ → Level
  level_at_lem w P n = level_of L p k w P n (classes_at w)

  abbrev rest_at : ℕ → List ℕ → List Branch → ℕ → List Start
  rest_at w W P n = starts_from L p k (level_at_lem w P n).branches (n + length (level_at_lem w P n).starts) W

  starts_end : (P : List Branch) (n : ℕ) → starts_from L p k P n [] ≡ []
  unfolding starts_from
  starts_end P n = refl

  starts_next : (w : ℕ) (W : List ℕ) (P : List Branch) (n : ℕ) → starts_from L p k P n (w ∷ W) ≡ (level_at_lem w P n).starts ++ rest_at w W P n
  unfolding starts_from
  starts_next w W P n = refl

  classes_distinct : (w : ℕ) → Distinct (classes_at w)
  classes_distinct w =
      distinct_map (λ c. c.small) (classes_at w)
      (rising_distinct before set_order (map (λ c. c.small) (classes_at w)) (communities_rising k (family L p k w)))

  -- a branch of the level before is in one class at most
  paid : (w : ℕ) (P : List Branch) (n : ℕ) → Paid L p k w P (level_at_lem w P n) (length P)
  paid w P n =
      let a = level_paid L p k w P n (classes_at w) in
      let t = total_le (holds L p k w P) (classes_at w) (classes_distinct w) P (λ b c d i j x y. held_once L p k w b.small c d i j x y) in
      (omega (arith, a.0, t), a.1)

  -- there is no line, or twice those that join none are more
  counted : (W : List ℕ) (P : List Branch) (n : ℕ)
      → (length (starts_from L p k P n W) ≡ 0) ⊎ (suc (length (starts_from L p k P n W)) ≤ 2 * length (leaves (starts_from L p k P n W)) + length P)
  counted [] P n = inl (ap length (starts_end P n))
  counted (w ∷ W) P n = rw (starts_next w W P n) (go (paid w P n) (counted W (level_at_lem w P n).branches (n + length (level_at_lem w P n).starts)))
    where
      X : List Start
      X = (level_at_lem w P n).starts

      Y : List Start
      Y = rest_at w W P n

      both : length (leaves (X ++ Y)) ≡ length (leaves X) + length (leaves Y)
      both = ap length (keep_append leaf X Y) ∙ length-append (leaves X) (leaves Y)

      none : Paid L p k w P (level_at_lem w P n) (length P) → length Y ≡ 0 → (length X ≡ 0) ⊎ (length X ≡ 0 → ⊥)
          → (length (X ++ Y) ≡ 0) ⊎ (suc (length (X ++ Y)) ≤ 2 * length (leaves (X ++ Y)) + length P)
      none a e (inl f) = inl (omega (arith, length-append X Y))
      none a e (inr f) = inr (omega (arith, length-append X Y, both, a.0, a.1, some))
        where
          some : 1 ≤ length X
          some = positive (length X) f
            where
              positive : (m : ℕ) → (m ≡ 0 → ⊥) → 1 ≤ m
              positive zero h = absurd (h refl)
              positive (suc m) h = omega arith

      go : Paid L p k w P (level_at_lem w P n) (length P) → (length Y ≡ 0) ⊎ (suc (length Y) ≤ 2 * length (leaves Y) + length (level_at_lem w P n).branches)
          → (length (X ++ Y) ≡ 0) ⊎ (suc (length (X ++ Y)) ≤ 2 * length (leaves (X ++ Y)) + length P)
      go a (inl e) = none a e (same_or_not (length X) 0)
      go a (inr e) = inr (omega (arith, length-append X Y, both, a.0, e))

-- ---- the slots of a clique

module _ (p : ℕ) where
  -- a set without one of its parts, for each
  abbrev subs : ℕ → List ℕ
  subs a = map (λ q. out q a) (members p a)

  subs_of : (a s : ℕ) → s ∈ subs a → (sub s a ≡ true) × (suc (size s) ≡ size a)
  subs_of a s m =
      let q = Memᴰ.of_map (λ q. out q a) (members p a) m in
      (ap (λ (z : ℕ). sub z a) (sym q.2) ∙ out_sub q.0 a, ap (λ (z : ℕ). suc (size z)) (sym q.2) ∙ size_less q.0 a (in_member p a q.0 q.1).1)

  subs_distinct : (a : ℕ) → Distinct (subs a)
  subs_distinct a = map_distinct (λ q. out q a) (members p a) (rising_distinct ltb number_order (members p a) (members_rising p a))
      (λ q r i j e. go q r i j e (same_or_not q r))
    where
      go : (q r : ℕ) → q ∈ members p a → r ∈ members p a → out q a ≡ out r a → (q ≡ r) ⊎ (q ≡ r → ⊥) → q ≡ r
      go q r i j e (inl s) = s
      go q r i j e (inr s) = never (has q (out r a)) (out_keeps r q a (in_member p a q i).1 s) (ap (has q) (sym e) ∙ out_lacks q a)

  subs_length : (a : ℕ) → a ∈ sets_of p → length (subs a) ≡ size a
  subs_length a m = length-map (members p a) (λ q. out q a) ∙ members_length p a (sets_of_lem p a m)

module _ (L : List Link) (p k : ℕ) where
  -- cliques of a level that share a slot are joined there
  shared : (w s a b : ℕ) → a ∈ family L p k w → b ∈ family L p k w → sub s a ≡ true → sub s b ≡ true → suc (size s) ≡ k
      → Chain (adjacent k) (family L p k w) a b
  shared w s a b m n i j z =
      near k a b (family_sets L p k w a m).0 (family_sets L p k w b n).0 (omega (arith, sub_size s (meet a b) (sub_both s a b i j))) m n

  -- the smallest clique of a line that starts at a level
  start_in : (w : ℕ) (P : List Branch) (n : ℕ) (y : Start) → y ∈ (level_at_lem L p k w P n).starts → y.small ∈ family L p k w
  start_in w P n y m =
      let c = start_class L p k w P n (classes_at L p k w) y m in
      Memᴰ.cast c.2 (communities_of k (family L p k w) c.0 c.1).member

  abbrev Falls : List ℕ → Type 0
  Falls W = Rising (λ v w. ltb w v) W

  started : (W : List ℕ) (P : List Branch) (n : ℕ) (y : Start) → y ∈ starts_from L p k P n W → (w : ℕ) × w ∈ W × y.small ∈ family L p k w
  started [] P n y m = absurd (Memᴰ.not-nil (rw (starts_end L p k P n) at m))
  started (w ∷ W) P n y m =
      go (Memᴰ.append_cases (level_at_lem L p k w P n).starts (rw (starts_next L p k w W P n) at m))
      (started W (level_at_lem L p k w P n).branches (n + length (level_at_lem L p k w P n).starts) y)
    where
      go : y ∈ (level_at_lem L p k w P n).starts ⊎ y ∈ rest_at L p k w W P n → (y ∈ rest_at L p k w W P n → (v : ℕ) × v ∈ W × y.small ∈ family L p k v)
          → (v : ℕ) × v ∈ (w ∷ W) × y.small ∈ family L p k v
      go (inl i) rest = (w, Memᴰ.head refl, start_in w P n y i)
      go (inr i) rest = let r = rest i in (r.0, Memᴰ.tail r.1, r.2)

  -- P are the branches of the level u
  abbrev At : ℕ → List Branch → Type 0
  At u P = (c : Community) → c ∈ classes_at L p k u → (b : Branch) × b ∈ P × (b.small ≡ c.small)

  level_at : (w : ℕ) (P : List Branch) (n : ℕ) → At w (level_at_lem L p k w P n).branches
  level_at w P n c m =
      let i : c.small ∈ map (λ b. b.small) (level_at_lem L p k w P n).branches =
      subst (λ (l : List ℕ). c.small ∈ l) (sym (branches_small L p k w P n (classes_at L p k w))) (Memᴰ.map (λ c. c.small) m) in
      let q = Memᴰ.of_map (λ (b : Branch). b.small) (level_at_lem L p k w P n).branches i in
      (q.0, q.1, q.2)

  -- a line that joins none has no slot of a clique of the level before
  fresh_here : (u w : ℕ) (P : List Branch) (n : ℕ) → w ≤ u → At u P → (y : Start) → y ∈ (level_at_lem L p k w P n).starts → leaf y ≡ true
      → (s a : ℕ) → sub s y.small ≡ true → suc (size s) ≡ k → a ∈ family L p k u → sub s a ≡ true → ⊥
  unfolding joined_at
  fresh_here u w P n le at y m t s a i z h j = go y.joins refl inside
    where
      c : Of L p k w P (classes_at L p k w) y
      c = start_class L p k w P n (classes_at L p k w) y m

      d : (d : Community) × d ∈ classes_at L p k u × Chain (adjacent k) (family L p k u) d.small a
      d = home k (family L p k u) a h

      b : (b : Branch) × b ∈ P × (b.small ≡ d.0.small)
      b = at d.0 d.1

      chain : Chain (adjacent k) (family L p k w) y.small b.0.small
      chain = subst (λ (q : ℕ). Chain (adjacent k) (family L p k w) y.small q) (sym b.2)
          (chain_trans (shared w s y.small a (start_in w P n y m) (family_mono L p k u w le a h) i j z)
          (chain_sym (adjacent_sym k) (chain_lower L p k u w le d.2)))

      held : b.0 ∈ held_by L p k w P c.0
      held = rw (held_keep L p k w P c.0)
          (keep_at (holds L p k w P c.0) P b.1
          (ap (λ (q : ℕ). joined_at L p k w q b.0.small) (sym c.2) ∙ chain_joined k (family L p k w) y.small b.0.small chain))

      inside : num b.0 ∈ y.joins
      inside = subst (λ (l : List ℕ). num b.0 ∈ l) (sym c.3) (Memᴰ.map num held)

      go : (J : List ℕ) → y.joins ≡ J → num b.0 ∈ y.joins → ⊥
      go [] e x = Memᴰ.not-nil (rw e at x)
      go (q ∷ J) e x = omega (arith, ap length e, eqb-true (length y.joins) 0 t)

  fresh : (W : List ℕ) (u : ℕ) (P : List Branch) (n : ℕ) → Falls (u ∷ W) → At u P → (y : Start) → y ∈ starts_from L p k P n W → leaf y ≡ true
      → (s a : ℕ) → sub s y.small ≡ true → suc (size s) ≡ k → a ∈ family L p k u → sub s a ≡ true → ⊥
  unfolding Rising
  fresh [] u P n r at y m t s a i z h j = Memᴰ.not-nil (rw (starts_end L p k P n) at m)
  fresh (w ∷ W) u P n r at y m t s a i z h j =
      go (Memᴰ.append_cases (level_at_lem L p k w P n).starts (rw (starts_next L p k w W P n) at m))
      (λ x. fresh W w (level_at_lem L p k w P n).branches (n + length (level_at_lem L p k w P n).starts) r.1 (level_at w P n) y x t s a i z
      (family_mono L p k u w le a h) j)
    where
      le : w ≤ u
      le = omega (arith, ltb-true w u (r.0 w (Memᴰ.head refl)))

      go : y ∈ (level_at_lem L p k w P n).starts ⊎ y ∈ rest_at L p k w W P n → (y ∈ rest_at L p k w W P n → ⊥) → ⊥
      go (inl x) rest = fresh_here u w P n le at y x t s a i z h j
      go (inr x) rest = rest x

  abbrev slots_at : Start → List ℕ
  slots_at x = subs p x.small

  -- no slot stands at two lines of one level that join none
  level_slots : (w : ℕ) (P : List Branch) (n : ℕ) → Distinct (spread slots_at (leaves (level_at_lem L p k w P n).starts))
  level_slots w P n =
      spread_distinct slots_at by_class (leaves X)
      (keep_rising by_class leaf X (starts_rising L p k w P n (classes_at L p k w) (communities_rising k (family L p k w)))) (λ x m. subs_distinct p x.small)
      apart
    where
      X : List Start
      X = (level_at_lem L p k w P n).starts

      apart : (x y : Start) → x ∈ leaves X → y ∈ leaves X → by_class x y ≡ true → (s : ℕ) → s ∈ slots_at x → s ∈ slots_at y → ⊥
      apart x y mx my t s i j =
          let ix = (keep_of leaf X mx).0 in
          let iy = (keep_of leaf X my).0 in
          let a = start_class L p k w P n (classes_at L p k w) x ix in
          let b = start_class L p k w P n (classes_at L p k w) y iy in
          let fx = start_in w P n x ix in
          let fy = start_in w P n y iy in
          let ch = shared w s x.small y.small fx fy (subs_of p x.small s i).0 (subs_of p y.small s j).0
          ((subs_of p x.small s i).1 ∙ (family_sets L p k w x.small fx).0) in
          let e = home_only k (family L p k w) a.0 b.0 a.1 b.1
          (subst (λ (q : ℕ). Chain (adjacent k) (family L p k w) q b.0.small) a.2
          (subst (λ (q : ℕ). Chain (adjacent k) (family L p k w) x.small q) b.2 ch)) in
          let f : x.small ≡ y.small = a.2 ∙ ap (λ (c : Community). c.small) e ∙ sym b.2 in
          never (before x.small y.small) t (ap (before x.small) (sym f) ∙ before_irrefl x.small)

  -- nor at two of any levels
  all_slots : (W : List ℕ) (P : List Branch) (n : ℕ) → Falls W → Distinct (spread slots_at (leaves (starts_from L p k P n W)))
  unfolding Rising Distinct keep
  all_slots [] P n r = rw (starts_end L p k P n) tt
  all_slots (w ∷ W) P n r =
      rw (starts_next L p k w W P n, keep_append leaf X Y, spread_append slots_at (leaves X) (leaves Y))
      (append_distinct (spread slots_at (leaves X)) (spread slots_at (leaves Y)) (level_slots w P n)
      (all_slots W (level_at_lem L p k w P n).branches (n + length X) r.1) apart)
    where
      X : List Start
      X = (level_at_lem L p k w P n).starts

      Y : List Start
      Y = rest_at L p k w W P n

      apart : (s : ℕ) → s ∈ spread slots_at (leaves X) → s ∈ spread slots_at (leaves Y) → ⊥
      apart s i j =
          let a = spread_of slots_at (leaves X) i in
          let b = spread_of slots_at (leaves Y) j in
          let mx = keep_of leaf X a.1 in
          let my = keep_of leaf Y b.1 in
          let fx = start_in w P n a.0 mx.0 in
          let sx = subs_of p a.0.small s a.2 in
          fresh W w (level_at_lem L p k w P n).branches (n + length X) r (level_at w P n) b.0 my.0 my.1 s a.0.small (subs_of p b.0.small s b.2).0
          (sx.1 ∙ (family_sets L p k w a.0.small fx).0) fx sx.0

  family_all : (w : ℕ) → Holds (cliques L p k) (family L p k w)
  unfolding family
  family_all w a m = subst (λ (M : List Link). a ∈ cliques M p k) (heavy_zero L) (family_mono L p k w 0 (omega arith) a m)

  -- k slots for each line that joins none
  pub leaves_few : length (leaves (all_starts L p k)) * k ≤ slots p k (cliques L p k)
  unfolding slots
  leaves_few =
      let X = leaves (all_starts L p k) in
      let n = spread_length slots_at k X (λ x m. let f = small_set x (keep_of leaf (all_starts L p k) m).0 in subs_length p x.small f.1 ∙ f.0) in
      omega (arith, n, distinct_le (spread slots_at X) (slot_sets p k (cliques L p k)) (all_slots (levels L) [] 0 (levels_falling L)) inside)
    where
      small_set : (x : Start) → x ∈ all_starts L p k → (size x.small ≡ k) × x.small ∈ sets_of p
      small_set x m = let q = started (levels L) [] 0 x m in family_sets L p k q.0 x.small q.2

      inside : Holds (slot_sets p k (cliques L p k)) (spread slots_at (leaves (all_starts L p k)))
      inside s m =
          let a = spread_of slots_at (leaves (all_starts L p k)) m in
          let i = (keep_of leaf (all_starts L p k) a.1).0 in
          let q = started (levels L) [] 0 a.0 i in
          let f = small_set a.0 i in
          let h = subs_of p a.0.small s a.2 in
          slot_at p k (cliques L p k) s (record {
            fits = in_sets p s (λ r t. sets_part p a.0.small f.1 r (sub_has r s a.0.small h.0 t));
            sized = h.1 ∙ f.0;
            bearer = a.0.small;
            member = family_all q.0 a.0.small q.2;
            within = h.0;
          })

  -- the lines of the tree
  pub tree_leaves : (length (tree L p k) ≡ 0) ⊎ (suc (length (tree L p k)) ≤ 2 * length (leaves (all_starts L p k)))
  tree_leaves = rw (tree_length L p k) (go (counted L p k (levels L) [] 0))
    where
      go : (length (all_starts L p k) ≡ 0) ⊎ (suc (length (all_starts L p k)) ≤ 2 * length (leaves (all_starts L p k)) + 0)
          → (length (all_starts L p k) ≡ 0) ⊎ (suc (length (all_starts L p k)) ≤ 2 * length (leaves (all_starts L p k)))
      go (inl e) = inl e
      go (inr e) = inr (omega arith)

  pub tree_few : 1 ≤ k → length (tree L p k) ≤ 2 * (slots p k (cliques L p k) / k) - 1
  tree_few some = go tree_leaves
    where
      n : ℕ
      n = length (leaves (all_starts L p k))

      fit : n ≤ slots p k (cliques L p k) / k
      fit = (le-div_iff_mul-le some).1 leaves_few

      go : (length (tree L p k) ≡ 0) ⊎ (suc (length (tree L p k)) ≤ 2 * n) → length (tree L p k) ≤ 2 * (slots p k (cliques L p k) / k) - 1
      go (inl e) = omega arith
      go (inr e) = omega (arith, fit)

-- tables of 1,024 slots, k 3: room for 700 lines is enough
pub tree_room : (L : List Link) (p : ℕ) → slots p 3 (cliques L p 3) ≤ 1024 → length (tree L p 3) ≤ 681
tree_room L p h = omega (arith, tree_few L p 3 (omega arith))
