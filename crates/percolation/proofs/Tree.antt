-- The merge tree: a line joins earlier lines, each line is joined at most once, by the first later line whose class holds its class; lines stand by
-- falling weight, then smallest clique. Assumes nothing.
use mathlib.Core.Path.{◌≡◌, refl, sym, ap, ap₂, ◌∙◌, subst}
use mathlib.Core.Logic.{◌⊎◌, inl, inr}
use mathlib.Core.Bool.{Bool, true, false, cond}
use mathlib.Core.List.Memᴰ
use mathlib.Core.List.{List, [], ◌∷◌, ◌++◌, map}
use Prim.Native.Nat.{ℕ, suc, ◌+◌, ◌≤◌, ◌<◌}
use native.Mathlib.Omega.{arith}
use lib.Dec.{eqb, ltb}
use lib.ListN.{length, length-map}
use borrow.Author.Tests.{ltb-true}
use Rattle.sets.specs.Lists.{◌∈◌, any, keep}
use Rattle.sets.specs.Sets.{before}
use Rattle.sets.proofs.Tests.{never, split, not_so, iff}
use Rattle.sets.proofs.ListLaws.{Rising, Distinct, elem_at, elem_of, keep_yes, keep_no, keep_at, keep_of}
use Rattle.sets.proofs.Order.{before_irrefl}
use Rattle.percolation.specs.Percolate.{adjacent, Chain, alone, Community, communities}
use Rattle.percolation.specs.Links.{Link, family}
use Rattle.percolation.specs.Levels.{levels, joined_at}
use Rattle.percolation.specs.Tree.{Start, Branch, Level, continues, begins, class_at, held_by, level_of, starts_from, goes_into}
use Rattle.percolation.proofs.Chains.{adjacent_sym, last_in, chain_trans, chain_sym, joined_chain, chain_joined}
use Rattle.percolation.proofs.Families.{family_mono, chain_lower}
use Rattle.percolation.proofs.Communities.{communities_of, communities_rising, home, home_only}
use Rattle.percolation.proofs.Levels.{levels_falling}

-- ---- numbers that stand once

abbrev pub num : Branch → ℕ
num b = b.number

abbrev smalls : List Community → List ℕ
smalls C = map (λ c. c.small) C

-- the numbers of some branches are numbers of all
num_keep : (f : Branch → Bool) (P : List Branch) {i : ℕ} → i ∈ map num (keep f P) → i ∈ map num P
num_keep f P m = let r = Memᴰ.of_map num (keep f P) m in Memᴰ.cast (sym r.2) (Memᴰ.map num (keep_of f P r.1).0)

numbers_distinct : (f : Branch → Bool) (P : List Branch) → Distinct (map num P) → Distinct (map num (keep f P))
unfolding keep Distinct
numbers_distinct f [] u = tt
numbers_distinct f (b ∷ P) u = go (split (f b)) (numbers_distinct f P u.1)
  where
    go : (f b ≡ true) ⊎ (f b ≡ false) → Distinct (map num (keep f P)) → Distinct (map num (keep f (b ∷ P)))
    go (inl e) r = rw (keep_yes f b P e) ((λ m. u.0 (num_keep f P m)), r)
    go (inr e) r = rw (keep_no f b P e) r

-- a branch is known by its number
pub num_one : (P : List Branch) → Distinct (map num P) → (b d : Branch) → b ∈ P → d ∈ P → num b ≡ num d → b ≡ d
unfolding Distinct
num_one [] u b d m n e = absurd (Memᴰ.not-nil m)
num_one (a ∷ P) u b d m n e = go (Memᴰ.cases_cons m) (Memᴰ.cases_cons n) (num_one P u.1 b d)
  where
    off : (x y : Branch) → x ≡ a → y ∈ P → num x ≡ num y → ⊥
    off x y i j f = u.0 (Memᴰ.cast (ap num (sym i) ∙ f) (Memᴰ.map num j))

    go : (b ≡ a) ⊎ b ∈ P → (d ≡ a) ⊎ d ∈ P → (b ∈ P → d ∈ P → num b ≡ num d → b ≡ d) → b ≡ d
    go (inl i) (inl j) rest = i ∙ sym j
    go (inl i) (inr j) rest = absurd (off b d i j e)
    go (inr i) (inl j) rest = absurd (off d b j i (sym e))
    go (inr i) (inr j) rest = rest i j e

-- ---- a statement on each line of a list: how many lines are before it, the line, and the lines after it

abbrev pub Each : (ℕ → Start → List Start → Type 0) → ℕ → List Start → Type 0
Each Q n [] = Unit {0}
Each Q n (x ∷ X) = Q n x X × Each Q (suc n) X

module _ (Q : ℕ → Start → List Start → Type 0) where
  each_append : (n : ℕ) (X R : List Start) → Each (λ m x Y. Q m x (Y ++ R)) n X → Each Q (n + length X) R → Each Q n (X ++ R)
  each_append n [] R a b = let e : n + 0 ≡ n = omega arith in rw e at b
  each_append n (x ∷ X) R a b =
      let e : n + suc (length X) ≡ suc n + length X = omega arith in
      (a.0, each_append (suc n) X R a.1 (rw e at b))

  each_left : (n : ℕ) (X R : List Start) → Each Q n (X ++ R) → Each (λ m x Y. Q m x (Y ++ R)) n X
  each_left n [] R a = tt
  each_left n (x ∷ X) R a = (a.0, each_left (suc n) X R a.1)

  pub each_at : (n m : ℕ) (A : List Start) (x : Start) (B : List Start) → Each Q n (A ++ (x ∷ B)) → m ≡ n + length A → Q m x B
  each_at n m [] x B a e = let f : m ≡ n = omega arith in rw f a.0
  each_at n m (y ∷ A) x B a e = each_at (suc n) m A x B a.1 (omega arith)

  each_of : (n : ℕ) {x : Start} (X : List Start) → Each Q n X → x ∈ X → (m : ℕ) × (Y : List Start) × (n ≤ m) × (m < n + length X) × Q m x Y
  each_of n [] a i = absurd (Memᴰ.not-nil i)
  each_of n {x} (y ∷ X) a i = go (Memᴰ.cases_cons i) (each_of (suc n) X a.1)
    where
      go : (x ≡ y) ⊎ x ∈ X → (x ∈ X → (m : ℕ) × (Y : List Start) × (suc n ≤ m) × (m < suc n + length X) × Q m x Y)
          → (m : ℕ) × (Y : List Start) × (n ≤ m) × (m < n + suc (length X)) × Q m x Y
      go (inl e) rest = (n, X, omega arith, omega arith, rw e a.0)
      go (inr j) rest = let r = rest j in (r.0, r.1, omega arith, omega arith, r.4)

  each_map : (T : ℕ → Start → List Start → Type 0) → ((m : ℕ) (x : Start) (Y : List Start) → Q m x Y → T m x Y)
      → (n : ℕ) (X : List Start) → Each Q n X → Each T n X
  each_map T f n [] a = tt
  each_map T f n (x ∷ X) a = (f n x X a.0, each_map T f (suc n) X a.1)

  -- each line with those after it
  each_pairs : (n : ℕ) (X : List Start) → Each Q n X → Each (λ m x Y. Q m x Y × Each Q (suc m) Y) n X
  each_pairs n [] a = tt
  each_pairs n (x ∷ X) a = (a, each_pairs (suc n) X a.1)

-- ---- the first line of a list that passes a test, numbered from n, or 0

abbrev first_at : (Start → Bool) → ℕ → List Start → ℕ
first_at f n [] = 0
first_at f n (x ∷ X) = cond (f x) n (first_at f (suc n) X)

first_skip : (f : Start → Bool) (n m : ℕ) (X R : List Start) → ((y : Start) → y ∈ X → f y ≡ false) → m ≡ n + length X
    → first_at f n (X ++ R) ≡ first_at f m R
first_skip f n m [] R h e = let g : n ≡ m = omega arith in rw g
first_skip f n m (x ∷ X) R h e = rw (h x (Memᴰ.head refl)) (first_skip f (suc n) m X R (λ y i. h y (Memᴰ.tail i)) (omega arith))

module _ (f g : Start → Bool) where
  -- tests that agree on the lines X, and find the same line after them
  first_agree : (n m : ℕ) (X R : List Start) → ((y : Start) → y ∈ X → f y ≡ g y) → m ≡ n + length X → first_at f m R ≡ first_at g m R
      → first_at f n (X ++ R) ≡ first_at g n (X ++ R)
  first_agree n m [] R h e r = let c : n ≡ m = omega arith in rw c r
  first_agree n m (x ∷ X) R h e r =
      ap₂ (λ (t : Bool) (i : ℕ). cond t n i) (h x (Memᴰ.head refl)) (first_agree (suc n) m X R (λ y i. h y (Memᴰ.tail i)) (omega arith) r)

  -- or find one among X
  first_met : (n : ℕ) (X R : List Start) → ((y : Start) → y ∈ X → f y ≡ g y) → {y : Start} → y ∈ X → f y ≡ true
      → first_at f n (X ++ R) ≡ first_at g n (X ++ R)
  first_met n [] R h i t = absurd (Memᴰ.not-nil i)
  first_met n (x ∷ X) R h {y} i t = go (Memᴰ.cases_cons i) (λ j. first_met (suc n) X R (λ z l. h z (Memᴰ.tail l)) j t)
    where
      same : f x ≡ g x
      same = h x (Memᴰ.head refl)

      go : (y ≡ x) ⊎ y ∈ X → (y ∈ X → first_at f (suc n) (X ++ R) ≡ first_at g (suc n) (X ++ R))
          → cond (f x) n (first_at f (suc n) (X ++ R)) ≡ cond (g x) n (first_at g (suc n) (X ++ R))
      go (inl e) rest = let u : f x ≡ true = ap f (sym e) ∙ t in rw (← same, u)
      go (inr j) rest = ap₂ (λ (b : Bool) (z : ℕ). cond b n z) same (rest j)

abbrev joins_it : ℕ → Start → Bool
joins_it i y = any (eqb i) y.joins

goes_first : (i n : ℕ) (X : List Start) → goes_into i n X ≡ first_at (joins_it i) n X
unfolding goes_into
goes_first i n [] = refl
goes_first i n (x ∷ X) = ap (λ (z : ℕ). cond (joins_it i x) n z) (goes_first i (suc n) X)

-- ---- one level: how its classes C were taken, with n lines before; h gives the classes of the level before that a class holds

pub data Made (h : Community → List Branch) (w : ℕ) : ℕ → List Community → Level → Type 0 where
  done : {n : ℕ} → Made h w n [] (record { branches = []; starts = [] })
  go_on : {n : ℕ} {c : Community} {C : List Community} {l : Level} {d : Branch} → h c ≡ d ∷ [] → Made h w n C l → Made h w n (c ∷ C) (continues c (num d) l)
  begin : {n : ℕ} {c : Community} {C : List Community} {l : Level} {D : List Branch} → h c ≡ D → (length D ≡ 1 → ⊥) → Made h w (suc n) C l
      → Made h w n (c ∷ C) (begins w c (suc n) (map num D) l)

module _ (L : List Link) (p k w : ℕ) (P : List Branch) where
  made : (n : ℕ) (C : List Community) → Made (held_by L p k w P) w n C (level_of L p k w P n C)
  unfolding level_of
  made n [] = done
  made n (c ∷ C) = go (held_by L p k w P c) refl (made n C) (made (suc n) C)
    where
      go : (D : List Branch) → held_by L p k w P c ≡ D → {same more : Level} → Made (held_by L p k w P) w n C same → Made (held_by L p k w P) w (suc n) C more
          → Made (held_by L p k w P) w n (c ∷ C) (class_at w n c D same more)
      go [] e s m = begin e (λ f. omega arith) m
      go (d ∷ []) e s m = go_on e s
      go (d ∷ g ∷ D) e s m = begin e (λ f. omega arith) m

  -- the branches of a level are its classes in order
  pub branches_small : (n : ℕ) (C : List Community) → map (λ b. b.small) (level_of L p k w P n C).branches ≡ map (λ c. c.small) C
  branches_small n C = go (made n C)
    where
      go : {m : ℕ} {D : List Community} {l : Level} → Made (held_by L p k w P) w m D l → map (λ b. b.small) l.branches ≡ smalls D
      go done = refl
      go (go_on {c = c} e m) = ap (λ (z : List ℕ). c.small ∷ z) (go m)
      go (begin {c = c} e s m) = ap (λ (z : List ℕ). c.small ∷ z) (go m)

-- a line that starts at the level: its class c, its branch, and that the lines Y after it are of larger classes; N counts the lines up to this level
pub record Born (h : Community → List Branch) (w : ℕ) (C : List Community) (T : List Branch) (n N m : ℕ) (x : Start) (Y : List Start) : Type 0 where
  pub class : Community
  pub listed : class ∈ C
  pub weighs : x.weight ≡ w
  pub shows : x.small ≡ class.small
  pub takes : x.joins ≡ map num (h class)
  pub count : length (h class) ≡ 1 → ⊥
  pub branch : record { small = x.small; number = suc m } ∈ T
  pub from : n ≤ m
  pub total : m + suc (length Y) ≡ N
  pub later : (y : Start) → y ∈ Y → before x.small y.small ≡ true

-- where the number i of a branch comes from: a class that holds one branch alone, or a line that starts at the level
abbrev pub Came : (Community → List Branch) → List Community → ℕ → ℕ → ℕ → Type 0
Came h C n N i = ((c : Community) × (d : Branch) × c ∈ C × (h c ≡ d ∷ []) × (i ≡ num d)) ⊎ ((n < i) × (i ≤ N))

-- what two classes of C hold differs by number
abbrev Sole : (Community → List Branch) → List Community → Type 0
Sole h C = (a c : Community) (b d : Branch) → a ∈ C → c ∈ C → b ∈ h a → d ∈ h c → num b ≡ num d → a ≡ c

pub only_in : {A : Type 0} (l : List A) (d : A) → l ≡ d ∷ [] → d ∈ l
only_in l d e = rw e (Memᴰ.head refl)

module _ (h : Community → List Branch) (w : ℕ) where
  -- so too with one class more in front
  born_more : {C : List Community} {T : List Branch} {n N m : ℕ} {x : Start} {Y : List Start} (c : Community) (t : Branch) (i : ℕ) → i ≤ n
      → Born h w C T n N m x Y → Born h w (c ∷ C) (t ∷ T) i N m x Y
  born_more c t i e b = record {
    class = b.class;
    listed = Memᴰ.tail b.listed;
    weighs = b.weighs;
    shows = b.shows;
    takes = b.takes;
    count = b.count;
    branch = Memᴰ.tail b.branch;
    from = omega arith;
    total = b.total;
    later = b.later;
  }

  born : {n : ℕ} {C : List Community} {l : Level} (N : ℕ) → Made h w n C l → Rising before (smalls C) → N ≡ n + length l.starts
      → Each (Born h w C l.branches n N) n l.starts
  unfolding Rising
  born N done r e = tt
  born N (go_on {n = n} {c = c} {C = C} {l = l} {d = d} g m) r e =
      each_map (Born h w C l.branches n N) (Born h w (c ∷ C) (continues c (num d) l).branches n N)
      (λ i x Y b. born_more c _ n (omega arith) b) n l.starts (born N m r.1 e)
  born N (begin {n = n} {c = c} {C = C} {l = l} {D = D} g s m) r e = go (born N m r.1 (omega arith))
    where
      go : Each (Born h w C l.branches (suc n) N) (suc n) l.starts
          → Each (Born h w (c ∷ C) (begins w c (suc n) (map num D) l).branches n N) n (begins w c (suc n) (map num D) l).starts
      go rest = (
        record {
          class = c;
          listed = Memᴰ.head refl;
          weighs = refl;
          shows = refl;
          takes = ap (map num) (sym g);
          count = λ f. s (ap length (sym g) ∙ f);
          branch = Memᴰ.head refl;
          from = omega arith;
          total = sym e;
          later = λ y i.
              let b = (each_of (Born h w C l.branches (suc n) N) (suc n) l.starts rest i).4 in
              r.0 y.small (Memᴰ.cast b.shows (Memᴰ.map (λ c. c.small) b.listed));
        },
        each_map (Born h w C l.branches (suc n) N) (Born h w (c ∷ C) (begins w c (suc n) (map num D) l).branches n N)
            (λ i x Y b. born_more c _ n (omega arith) b) (suc n) l.starts rest,
      )

  came_more : {C : List Community} {n N i : ℕ} (c : Community) (t M : ℕ) → t ≤ n → N ≡ M → Came h C n N i → Came h (c ∷ C) t M i
  came_more c t M e f (inl a) = inl (a.0, a.1, Memᴰ.tail a.2, a.3, a.4)
  came_more c t M e f (inr a) = inr (omega arith, omega arith)

  pub came : {n : ℕ} {C : List Community} {l : Level} → Made h w n C l → (i : ℕ) → i ∈ map num l.branches → Came h C n (n + length l.starts) i
  came done i j = absurd (Memᴰ.not-nil j)
  came (go_on {n = n} {c = c} {C = C} {l = l} {d = d} g m) i j = go (Memᴰ.cases_cons j) (λ f. came m i f)
    where
      go : (i ≡ num d) ⊎ i ∈ map num l.branches → (i ∈ map num l.branches → Came h C n (n + length l.starts) i)
          → Came h (c ∷ C) n (n + length l.starts) i
      go (inl e) rest = inl (c, d, Memᴰ.head refl, g, e)
      go (inr f) rest = came_more c n (n + length l.starts) (omega arith) refl (rest f)
  came (begin {n = n} {c = c} {C = C} {l = l} g s m) i j = go (Memᴰ.cases_cons j) (λ f. came m i f)
    where
      go : (i ≡ suc n) ⊎ i ∈ map num l.branches → (i ∈ map num l.branches → Came h C (suc n) (suc n + length l.starts) i)
          → Came h (c ∷ C) n (n + suc (length l.starts)) i
      go (inl e) rest = inr (omega arith, omega arith)
      go (inr f) rest = came_more c n (n + suc (length l.starts)) (omega arith) (omega arith) (rest f)

  sole_tail : (c : Community) (C : List Community) → Sole h (c ∷ C) → Sole h C
  sole_tail c C o a e b d i j = o a e b d (Memᴰ.tail i) (Memᴰ.tail j)

  -- the level's branches have distinct numbers
  came_distinct : {n : ℕ} {C : List Community} {l : Level} → Made h w n C l → ((c : Community) (d : Branch) → d ∈ h c → num d ≤ n) → Sole h C
      → Rising before (smalls C) → Distinct (map num l.branches)
  unfolding Rising Distinct
  came_distinct done le o r = tt
  came_distinct (go_on {n = n} {c = c} {C = C} {l = l} {d = d} g m) le o r = ((λ j. off (came m (num d) j)), came_distinct m le (sole_tail c C o) r.1)
    where
      off : Came h C n (n + length l.starts) (num d) → ⊥
      off (inl f) =
          let b = f.0 in
          let e : c ≡ b = o c b d f.1 (Memᴰ.head refl) (Memᴰ.tail f.2) (only_in (h c) d g) (only_in (h b) f.1 f.3) f.4 in
          never (before c.small b.small) (r.0 b.small (Memᴰ.map (λ a. a.small) f.2))
          (ap (λ (a : Community). before c.small a.small) (sym e) ∙ before_irrefl c.small)
      off (inr f) = omega (arith, le c d (only_in (h c) d g))
  came_distinct (begin {n = n} {c = c} {C = C} {l = l} g s m) le o r =
      ((λ j. off (came m (suc n) j)), came_distinct m (λ a d i. omega (arith, le a d i)) (sole_tail c C o) r.1)
    where
      off : Came h C (suc n) (suc n + length l.starts) (suc n) → ⊥
      off (inl f) = omega (arith, le f.0 f.1 (only_in (h f.0) f.1 f.3), f.4)
      off (inr f) = omega arith

  -- what becomes of a class of the level: it goes on with the one line that it holds, or it starts a line that joins those that it holds
  abbrev pub Goes : Community → Level → Type 0
  Goes c l =
      ((d : Branch) × (h c ≡ d ∷ []) × record { small = c.small; number = num d } ∈ l.branches)
      ⊎ ((y : Start) × y ∈ l.starts × (y.joins ≡ map num (h c)))

  pub goes : {n : ℕ} {C : List Community} {l : Level} → Made h w n C l → (c : Community) → c ∈ C → Goes c l
  goes done c i = absurd (Memᴰ.not-nil i)
  goes (go_on {c = a} {C = C} {l = l} {d = d} g m) c i = go (Memᴰ.cases_cons i) (λ j. goes m c j)
    where
      more : Goes c l → Goes c (continues a (num d) l)
      more (inl f) = inl (f.0, f.1, Memᴰ.tail f.2)
      more (inr f) = inr f

      go : (c ≡ a) ⊎ c ∈ C → (c ∈ C → Goes c l) → Goes c (continues a (num d) l)
      go (inl e) rest = inl (d, ap h e ∙ g, Memᴰ.head (ap (λ (b : Community). record { small = b.small; number = num d }) e))
      go (inr j) rest = more (rest j)
  goes (begin {n = n} {c = a} {C = C} {l = l} {D = D} g s m) c i = go (Memᴰ.cases_cons i) (λ j. goes m c j)
    where
      more : Goes c l → Goes c (begins w a (suc n) (map num D) l)
      more (inl f) = inl (f.0, f.1, Memᴰ.tail f.2)
      more (inr f) = inr (f.0, Memᴰ.tail f.1, f.2)

      go : (c ≡ a) ⊎ c ∈ C → (c ∈ C → Goes c l) → Goes c (begins w a (suc n) (map num D) l)
      go (inl e) rest = inr (_, Memᴰ.head refl, ap (map num) (sym (ap h e ∙ g)))
      go (inr j) rest = more (rest j)

-- ---- the lines, level by level

-- branches with n lines before: their numbers are from 1 to n, each once
pub record Numbered (P : List Branch) (n : ℕ) : Type 0 where
  pub bounds : (b : Branch) → b ∈ P → (1 ≤ num b) × (num b ≤ n)
  pub once : Distinct (map num P)

-- the first of the lines Y, numbered from n, whose class at its own weight holds the class of x, or 0
unfoldable pub first_holding : List Link → ℕ → ℕ → ℕ → Start → List Start → ℕ
unfolding joined_at
first_holding L p k n x [] = 0
first_holding L p k n x (y ∷ Y) = cond (joined_at L p k y.weight x.small y.small) n (first_holding L p k (suc n) x Y)

abbrev holds_it : List Link → ℕ → ℕ → Start → Start → Bool
holds_it L p k x y = joined_at L p k y.weight x.small y.small

-- y comes after x: it weighs less, or as much and is of a larger class
abbrev Stands : Start → Start → Type 0
Stands x y = (y.weight < x.weight) ⊎ ((y.weight ≡ x.weight) × (before x.small y.small ≡ true))

-- a line with n lines before it and the lines X after it
record Good (L : List Link) (p k n : ℕ) (x : Start) (X : List Start) : Type 0 where
  below : (i : ℕ) → i ∈ x.joins → (1 ≤ i) × (i ≤ n)
  distinct : Distinct x.joins
  several : length x.joins ≡ 1 → ⊥
  apart : (y : Start) → y ∈ X → (i : ℕ) → i ∈ x.joins → i ∈ y.joins → ⊥
  order : (y : Start) → y ∈ X → Stands x y
  into : first_at (joins_it (suc n)) (suc (suc n)) X ≡ first_at (holds_it L p k x) (suc (suc n)) X

module _ (L : List Link) (p k : ℕ) where
  abbrev pub classes_at : ℕ → List Community
  classes_at w = communities k (family L p k w)

  abbrev pub level_at_lem : ℕ → List Branch → ℕ → Level
  level_at_lem w P n = level_of L p k w P n (classes_at w)

  -- how many lines there are with those of the level, and the lines of the later levels
  abbrev pub count_at : ℕ → List Branch → ℕ → ℕ
  count_at w P n = n + length (level_at_lem w P n).starts

  abbrev rest_at : ℕ → List ℕ → List Branch → ℕ → List Start
  rest_at w W P n = starts_from L p k (level_at_lem w P n).branches (count_at w P n) W

  pub at_chain : (w a b : ℕ) → joined_at L p k w a b ≡ true → Chain (adjacent k) (family L p k w) a b
  unfolding joined_at
  at_chain w a b t = joined_chain k (family L p k w) a b t

  pub chain_at : (w a b : ℕ) → Chain (adjacent k) (family L p k w) a b → joined_at L p k w a b ≡ true
  unfolding joined_at
  chain_at w a b c = chain_joined k (family L p k w) a b c

  -- a class of an earlier level is held by a class of this one, and by one only
  pub held_some : (w v b : ℕ) → w ≤ v → b ∈ family L p k v → (c : Community) × c ∈ communities k (family L p k w) × (joined_at L p k w c.small b ≡ true)
  held_some w v b e m = let r = home k (family L p k w) b (family_mono L p k v w e b m) in (r.0, r.1, chain_at w r.0.small b r.2)

  pub held_once : (w b : ℕ) (c d : Community) → c ∈ communities k (family L p k w) → d ∈ communities k (family L p k w)
      → joined_at L p k w c.small b ≡ true → joined_at L p k w d.small b ≡ true → c ≡ d
  held_once w b c d i j s t =
      home_only k (family L p k w) c d i j (chain_trans (at_chain w c.small b s) (chain_sym (adjacent_sym k) (at_chain w d.small b t)))

  holding_first : (n : ℕ) (x : Start) (X : List Start) → first_holding L p k n x X ≡ first_at (holds_it L p k x) n X
  unfolding first_holding
  holding_first n x [] = refl
  holding_first n x (y ∷ X) = ap (λ (z : ℕ). cond (holds_it L p k x y) n z) (holding_first (suc n) x X)

  starts_end : (P : List Branch) (n : ℕ) → starts_from L p k P n [] ≡ []
  unfolding starts_from
  starts_end P n = refl

  starts_step : (w : ℕ) (W : List ℕ) (P : List Branch) (n : ℕ)
      → starts_from L p k P n (w ∷ W) ≡ (level_at_lem w P n).starts ++ rest_at w W P n
  unfolding starts_from
  starts_step w W P n = refl

  module _ (w : ℕ) (P : List Branch) where
    pub held_of : (c : Community) {d : Branch} → d ∈ held_by L p k w P c → d ∈ P × (joined_at L p k w c.small d.small ≡ true)
    unfolding held_by
    held_of c m = keep_of (λ b. joined_at L p k w c.small b.small) P m

    pub held_at : (c : Community) {d : Branch} → d ∈ P → joined_at L p k w c.small d.small ≡ true → d ∈ held_by L p k w P c
    unfolding held_by
    held_at c m t = keep_at (λ b. joined_at L p k w c.small b.small) P m t

    held_distinct : (c : Community) → Distinct (map num P) → Distinct (map num (held_by L p k w P c))
    unfolding held_by
    held_distinct c u = numbers_distinct (λ b. joined_at L p k w c.small b.small) P u

  module _ (w : ℕ) (P : List Branch) (n : ℕ) where
    abbrev pub Here : ℕ → Start → List Start → Type 0
    Here = Born (held_by L p k w P) w (classes_at w) (level_at_lem w P n).branches n (count_at w P n)

    pub level_made : Made (held_by L p k w P) w n (classes_at w) (level_at_lem w P n)
    level_made = made L p k w P n (classes_at w)

    pub level_born : Each Here n (level_at_lem w P n).starts
    level_born = born (held_by L p k w P) w (count_at w P n) level_made (communities_rising k (family L p k w)) refl

    pub start_of_lem : {y : Start} → y ∈ (level_at_lem w P n).starts → (m : ℕ) × (Y : List Start) × Here m y Y
    start_of_lem i = let r = each_of Here n (level_at_lem w P n).starts level_born i in (r.0, r.1, r.4)

    -- what a line that starts here joins is a branch that its class holds
    pub joined_of : {m : ℕ} {x : Start} {Y : List Start} (b : Here m x Y) {i : ℕ} → i ∈ x.joins → (d : Branch) × d ∈ held_by L p k w P b.class × (num d ≡ i)
    joined_of b {i} j = Memᴰ.of_map num (held_by L p k w P b.class) (subst (λ (z : List ℕ). i ∈ z) b.takes j)

    module _ (nb : Numbered P n) where
      sole : Sole (held_by L p k w P) (classes_at w)
      sole a c b d i j x y e =
          let f = held_of w P a x in
          let g = held_of w P c y in
          let q : b ≡ d = num_one P nb.once b d f.0 g.0 e in
          held_once w b.small a c i j f.1 (ap (λ (z : Branch). joined_at L p k w c.small z.small) q ∙ g.1)

      held_le : (c : Community) (d : Branch) → d ∈ held_by L p k w P c → (1 ≤ num d) × (num d ≤ n)
      held_le c d i = nb.bounds d (held_of w P c i).0

      pub joined_le : {m : ℕ} {x : Start} {Y : List Start} → Here m x Y → (i : ℕ) → i ∈ x.joins → (1 ≤ i) × (i ≤ n)
      joined_le b i j = let r = joined_of b j in let h = held_le b.class r.0 r.1 in let e = r.2 in (omega arith, omega arith)

      pub numbered_on : Numbered (level_at_lem w P n).branches (count_at w P n)
      numbered_on = record {
        bounds = λ b i. go b (came (held_by L p k w P) w level_made (num b) (Memᴰ.map num i));
        once = came_distinct (held_by L p k w P) w level_made (λ c d i. (held_le c d i).1) sole (communities_rising k (family L p k w));
      }
        where
          go : (b : Branch) → Came (held_by L p k w P) (classes_at w) n (count_at w P n) (num b) → (1 ≤ num b) × (num b ≤ count_at w P n)
          go b (inl f) = let h = held_le f.0 f.1 (only_in (held_by L p k w P f.0) f.1 f.3) in let e = f.4 in (omega arith, omega arith)
          go b (inr f) = (omega arith, omega arith)

      -- a line that is joined here has no branch any more
      pub gone : {m : ℕ} {x : Start} {Y : List Start} → Here m x Y → (i : ℕ) → i ∈ x.joins → i ∈ map num (level_at_lem w P n).branches → ⊥
      gone b i j z = go (joined_of b j) (came (held_by L p k w P) w level_made i z)
        where
          go : (d : Branch) × d ∈ held_by L p k w P b.class × (num d ≡ i) → Came (held_by L p k w P) (classes_at w) n (count_at w P n) i → ⊥
          go r (inl f) =
              let one = only_in (held_by L p k w P f.0) f.1 f.3 in
              let e : b.class ≡ f.0 = sole b.class f.0 r.0 f.1 b.listed f.2 r.1 one (r.2 ∙ f.4) in
              b.count (ap length (ap (held_by L p k w P) e ∙ f.3))
          go r (inr f) = omega (arith, held_le b.class r.0 r.1, r.2)

      -- two lines that start here are of two classes
      clash : {m o : ℕ} {x y : Start} {X Y : List Start} (b : Here m x X) (c : Here o y Y) → y ∈ X → b.class ≡ c.class → ⊥
      clash {x = x} {y = y} b c i e =
          never (before x.small y.small) (b.later y i)
          (ap (before x.small) (c.shows ∙ ap (λ (z : Community). z.small) (sym e) ∙ sym b.shows) ∙ before_irrefl x.small)

  abbrev Falls : List ℕ → Type 0
  Falls W = Rising (λ v w. ltb w v) W

  weight_in : (W : List ℕ) (P : List Branch) (n : ℕ) {y : Start} → y ∈ starts_from L p k P n W → y.weight ∈ W
  weight_in [] P n m = absurd (Memᴰ.not-nil (rw starts_end at m))
  weight_in (w ∷ W) P n {y} m =
      go (Memᴰ.append_cases (level_at_lem w P n).starts (rw (starts_step w W P n) at m))
      (λ i. weight_in W (level_at_lem w P n).branches (count_at w P n) i)
    where
      go : y ∈ (level_at_lem w P n).starts ⊎ y ∈ rest_at w W P n → (y ∈ rest_at w W P n → y.weight ∈ W) → y.weight ∈ (w ∷ W)
      go (inl i) rest = Memᴰ.head (start_of_lem w P n i).2.weighs
      go (inr i) rest = Memᴰ.tail (rest i)

  -- a line that has no branch is never joined
  dead : (W : List ℕ) (P : List Branch) (n i : ℕ) → i ≤ n → (i ∈ map num P → ⊥) → {y : Start} → y ∈ starts_from L p k P n W → i ∈ y.joins → ⊥
  dead [] P n i e out m j = Memᴰ.not-nil (rw starts_end at m)
  dead (w ∷ W) P n i e out {y} m j =
      go (Memᴰ.append_cases (level_at_lem w P n).starts (rw (starts_step w W P n) at m))
      (λ a. dead W (level_at_lem w P n).branches (count_at w P n) i (omega arith) (λ z. off (came (held_by L p k w P) w (level_made w P n) i z)) a j)
    where
      kept : (c : Community) {d : Branch} → d ∈ held_by L p k w P c → num d ≡ i → ⊥
      kept c a q = out (Memᴰ.cast (sym q) (Memᴰ.map num (held_of w P c a).0))

      off : Came (held_by L p k w P) (classes_at w) n (count_at w P n) i → ⊥
      off (inl f) = kept f.0 (only_in (held_by L p k w P f.0) f.1 f.3) (sym f.4)
      off (inr f) = omega arith

      go : y ∈ (level_at_lem w P n).starts ⊎ y ∈ rest_at w W P n → (y ∈ rest_at w W P n → ⊥) → ⊥
      go (inl a) rest = let b = (start_of_lem w P n a).2 in let r = joined_of w P n b j in kept b.class r.1 r.2
      go (inr a) rest = rest a

  -- a line that has a branch is joined by the first line that holds its class
  alive : (W : List ℕ) (P : List Branch) (n : ℕ) (x : Start) (b : Branch) → Numbered P n → Falls W → b ∈ P
      → ((w : ℕ) → w ∈ W → Chain (adjacent k) (family L p k w) x.small b.small)
      → first_at (joins_it (num b)) (suc n) (starts_from L p k P n W) ≡ first_at (holds_it L p k x) (suc n) (starts_from L p k P n W)
  unfolding Rising
  alive [] P n x b nb r m f = rw starts_end refl
  alive (w ∷ W) P n x b nb r m f = rw (starts_step w W P n) (go (goes (held_by L p k w P) w (level_made w P n) c.0 c.1)
      (λ t i g. alive W (level_at_lem w P n).branches (count_at w P n) x t (numbered_on w P n nb) r.1 i g))
    where
      X : List Start
      X = (level_at_lem w P n).starts

      R : List Start
      R = rest_at w W P n

      here : Chain (adjacent k) (family L p k w) x.small b.small
      here = f w (Memᴰ.head refl)

      c : (c : Community) × c ∈ classes_at w × Chain (adjacent k) (family L p k w) c.small b.small
      c = home k (family L p k w) b.small (last_in here)

      in_c : b ∈ held_by L p k w P c.0
      in_c = held_at w P c.0 m (chain_at w c.0.small b.small c.2)

      agree : (y : Start) → y ∈ X → joins_it (num b) y ≡ holds_it L p k x y
      agree y i = iff (joins_it (num b) y) (holds_it L p k x y) to fro
        where
          q : Here w P n (start_of_lem w P n i).0 y (start_of_lem w P n i).1
          q = (start_of_lem w P n i).2

          same : holds_it L p k x y ≡ joined_at L p k w x.small q.class.small
          same = ap₂ (λ (u s : ℕ). joined_at L p k u x.small s) q.weighs q.shows

          to : joins_it (num b) y ≡ true → holds_it L p k x y ≡ true
          to t =
              let d = joined_of w P n q (elem_of (num b) y.joins t) in
              let h = held_of w P q.class d.1 in
              let e : d.0 ≡ b = num_one P nb.once d.0 b h.0 m d.2 in
              let g = at_chain w q.class.small b.small (ap (λ (z : Branch). joined_at L p k w q.class.small z.small) (sym e) ∙ h.1) in
              same ∙ chain_at w x.small q.class.small (chain_trans here (chain_sym (adjacent_sym k) g))

          fro : holds_it L p k x y ≡ true → joins_it (num b) y ≡ true
          fro t =
              let g = at_chain w x.small q.class.small (sym same ∙ t) in
              let d = held_at w P q.class m (chain_at w q.class.small b.small (chain_trans (chain_sym (adjacent_sym k) g) here)) in
              elem_at y.joins (subst (λ (z : List ℕ). num b ∈ z) (sym q.takes) (Memᴰ.map num d))

      go : Goes (held_by L p k w P) w c.0 (level_at_lem w P n)
          → ((t : Branch) → t ∈ (level_at_lem w P n).branches → ((v : ℕ) → v ∈ W → Chain (adjacent k) (family L p k v) x.small t.small)
          → first_at (joins_it (num t)) (suc (count_at w P n)) R ≡ first_at (holds_it L p k x) (suc (count_at w P n)) R)
          → first_at (joins_it (num b)) (suc n) (X ++ R) ≡ first_at (holds_it L p k x) (suc n) (X ++ R)
      go (inl g) rest =
          let e : b ≡ g.0 = Memᴰ.eq_of_singleton (subst (λ (z : List Branch). b ∈ z) g.1 in_c) in
          first_agree (joins_it (num b)) (holds_it L p k x) (suc n) (suc (count_at w P n)) X R agree (omega arith)
          (rest (record { small = c.0.small; number = num b }) (Memᴰ.cast (ap (λ (z : Branch). record { small = c.0.small; number = num z }) e) g.2)
          (λ v i. chain_lower L p k w v (omega (arith, ltb-true v w (r.0 v i))) (chain_trans here (chain_sym (adjacent_sym k) c.2))))
      go (inr g) rest =
          first_met (joins_it (num b)) (holds_it L p k x) (suc n) X R agree g.1
          (elem_at g.0.joins (subst (λ (z : List ℕ). num b ∈ z) (sym g.2) (Memᴰ.map num in_c)))

  -- all of it, for each line of the levels W
  lines : (W : List ℕ) (P : List Branch) (n : ℕ) → Numbered P n → Falls W → Each (Good L p k) n (starts_from L p k P n W)
  unfolding Rising
  lines [] P n nb r = rw starts_end tt
  lines (w ∷ W) P n nb r =
      rw (starts_step w W P n)
      (each_append (Good L p k) n X R
      (each_map (λ m x Y. Here w P n m x Y × Each (Here w P n) (suc m) Y) (λ m x Y. Good L p k m x (Y ++ R)) good n X
      (each_pairs (Here w P n) n X (level_born w P n))) (lines W (level_at_lem w P n).branches (count_at w P n) (numbered_on w P n nb) r.1))
    where
      X : List Start
      X = (level_at_lem w P n).starts

      R : List Start
      R = rest_at w W P n

      good : (m : ℕ) (x : Start) (Y : List Start) → Here w P n m x Y × Each (Here w P n) (suc m) Y → Good L p k m x (Y ++ R)
      good m x Y h = record {
        below = λ i j. let e = joined_le w P n nb b i j in let f = b.from in (omega arith, omega arith);
        distinct = subst Distinct (sym b.takes) (held_distinct w P b.class nb.once);
        several = λ e. b.count (sym (length-map (held_by L p k w P b.class) num) ∙ ap length (sym b.takes) ∙ e);
        apart = λ y z i j l. apart (Memᴰ.append_cases Y z) i j l;
        order = λ y z. order (Memᴰ.append_cases Y z);
        into = first_agree (joins_it (suc m)) (holds_it L p k x) (suc (suc m)) (suc (count_at w P n)) Y R agree (let e = b.total in omega arith)
            (alive W (level_at_lem w P n).branches (count_at w P n) x (record { small = x.small; number = suc m }) (numbered_on w P n nb) r.1 b.branch
            (λ v i. alone (family_mono L p k w v (omega (arith, ltb-true v w (r.0 v i))) x.small in_f)));
      }
        where
          b : Here w P n m x Y
          b = h.0

          in_f : x.small ∈ family L p k w
          in_f = Memᴰ.cast b.shows (communities_of k (family L p k w) b.class b.listed).member

          after : {y : Start} → y ∈ Y → (o : ℕ) × (T : List Start) × Here w P n o y T
          after i = let t = each_of (Here w P n) (suc m) Y h.1 i in (t.0, t.1, t.4)

          apart : {y : Start} → y ∈ Y ⊎ y ∈ R → (i : ℕ) → i ∈ x.joins → i ∈ y.joins → ⊥
          apart (inl z) i j l =
              let c = (after z).2 in
              let d = joined_of w P n b j in
              let e = joined_of w P n c l in
              clash w P n nb b c z (sole w P n nb b.class c.class d.0 e.0 b.listed c.listed d.1 e.1 (d.2 ∙ sym e.2))
          apart (inr z) i j l =
              dead W (level_at_lem w P n).branches (count_at w P n) i (omega (arith, joined_le w P n nb b i j)) (gone w P n nb b i j) z l

          order : {y : Start} → y ∈ Y ⊎ y ∈ R → Stands x y
          order {y} (inl z) = inr ((after z).2.weighs ∙ sym b.weighs, b.later y z)
          order {y} (inr z) = inl (omega (arith, ltb-true y.weight w (r.0 y.weight (weight_in W (level_at_lem w P n).branches (count_at w P n) z)), b.weighs))

          agree : (y : Start) → y ∈ Y → joins_it (suc m) y ≡ holds_it L p k x y
          agree y z = not_so (joins_it (suc m) y) early ∙ sym (not_so (holds_it L p k x y) other)
            where
              c : Here w P n (after z).0 y (after z).1
              c = (after z).2

              early : joins_it (suc m) y ≡ true → ⊥
              early t = omega (arith, joined_le w P n nb c (suc m) (elem_of (suc m) y.joins t), b.from)

              other : holds_it L p k x y ≡ true → ⊥
              other t = clash w P n nb b c z (home_only k (family L p k w) b.class c.class b.listed c.listed
                  (at_chain w b.class.small c.class.small (sym same ∙ t)))
                where
                  same : holds_it L p k x y ≡ joined_at L p k w b.class.small c.class.small
                  same = ap (λ (v : ℕ). joined_at L p k v x.small y.small) c.weighs ∙ ap₂ (joined_at L p k w) b.shows c.shows

-- ---- the laws of all lines

-- all lines at their start, in the order of their numbers from 1
abbrev pub all_starts : List Link → ℕ → ℕ → List Start
all_starts L p k = starts_from L p k [] 0 (levels L)

module _ (L : List Link) (p k : ℕ) where
  all_good : Each (Good L p k) 0 (all_starts L p k)
  unfolding Distinct
  all_good = lines L p k (levels L) [] 0 (record { bounds = λ b i. absurd (Memᴰ.not-nil i); once = tt }) (levels_falling L)

  good_in : (x : Start) → x ∈ all_starts L p k → (n : ℕ) × (X : List Start) × Good L p k n x X
  good_in x m = let r = each_of (Good L p k) 0 (all_starts L p k) all_good m in (r.0, r.1, r.4)

  -- no line joins just one
  pub joins_count : (x : Start) → x ∈ all_starts L p k → length x.joins ≡ 1 → ⊥
  joins_count x m = (good_in x m).2.several

  -- no number stands twice in what a line joins
  pub joins_distinct : (x : Start) → x ∈ all_starts L p k → Distinct x.joins
  joins_distinct x m = (good_in x m).2.distinct

  -- the line i goes into no line
  pub into_none : (i : ℕ) → ((x : Start) → x ∈ all_starts L p k → i ∈ x.joins → ⊥) → goes_into i 1 (all_starts L p k) ≡ 0
  into_none i h = goes_first i 1 (all_starts L p k) ∙ none (all_starts L p k) 1 h
    where
      none : (X : List Start) (n : ℕ) → ((x : Start) → x ∈ X → i ∈ x.joins → ⊥) → first_at (joins_it i) n X ≡ 0
      none [] n g = refl
      none (x ∷ X) n g =
          let e : joins_it i x ≡ false = not_so (joins_it i x) (λ t. g x (Memᴰ.head refl) (elem_of i x.joins t)) in
          rw e (none X (suc n) (λ y j. g y (Memᴰ.tail j)))

  -- x is the line of the number length A + 1
  module _ (A B : List Start) (x : Start) (e : all_starts L p k ≡ A ++ (x ∷ B)) where
    good_split : Each (Good L p k) 0 (A ++ (x ∷ B))
    good_split = subst (Each (Good L p k) 0) e all_good

    good_at : Good L p k (length A) x B
    good_at = each_at (Good L p k) 0 (length A) A x B good_split (omega arith)

    good_before : {y : Start} → y ∈ A → (n : ℕ) × (Y : List Start) × (n < length A) × Good L p k n y (Y ++ (x ∷ B))
    good_before i =
        let r = each_of (λ m y Y. Good L p k m y (Y ++ (x ∷ B))) 0 A (each_left (Good L p k) 0 A (x ∷ B) good_split) i in
        (r.0, r.1, omega (arith, r.3), r.4)

    -- a line joins earlier lines only
    pub joins_below : (i : ℕ) → i ∈ x.joins → (1 ≤ i) × (i ≤ length A)
    joins_below = good_at.below

    -- no line is joined twice
    pub joins_once : (i : ℕ) → i ∈ x.joins → (y : Start) → y ∈ B → i ∈ y.joins → ⊥
    joins_once i j y m l = good_at.apart y m i j l

    -- weights never rise
    pub weights_fall : (y : Start) → y ∈ B → y.weight ≤ x.weight
    weights_fall y m = go (good_at.order y m)
      where
        go : Stands x y → y.weight ≤ x.weight
        go (inl f) = omega arith
        go (inr f) = omega arith

    -- lines of one weight rise by smallest clique
    pub smalls_rise : (y : Start) → y ∈ B → y.weight ≡ x.weight → before x.small y.small ≡ true
    smalls_rise y m s = go (good_at.order y m)
      where
        go : Stands x y → before x.small y.small ≡ true
        go (inl f) = absurd (omega arith)
        go (inr f) = f.1

    -- what no line before x joins
    skip : (i : ℕ) → ((y : Start) → y ∈ A → i ∈ y.joins → ⊥) → goes_into i 1 (all_starts L p k) ≡ first_at (joins_it i) (suc (length A)) (x ∷ B)
    skip i h =
        goes_first i 1 (all_starts L p k) ∙ ap (first_at (joins_it i) 1) e
        ∙ first_skip (joins_it i) 1 (suc (length A)) A (x ∷ B) (λ y m. not_so (joins_it i y) (λ t. h y m (elem_of i y.joins t))) (omega arith)

    -- a line that x joins goes into x
    pub into_of : (i : ℕ) → i ∈ x.joins → goes_into i 1 (all_starts L p k) ≡ suc (length A)
    into_of i j =
        let t : joins_it i x ≡ true = elem_at x.joins j in
        skip i (λ y m l. (good_before m).3.apart x (Memᴰ.append_right (good_before m).1 (Memᴰ.head refl)) i l j) ∙ rw t

    -- x goes into the first later line whose class holds the class of x
    pub into_first : goes_into (suc (length A)) 1 (all_starts L p k) ≡ first_holding L p k (suc (suc (length A))) x B
    into_first =
        let n = suc (length A) in
        let t : joins_it n x ≡ false = not_so (joins_it n x) (λ t. omega (arith, joins_below n (elem_of n x.joins t))) in
        skip n (λ y m l. omega (arith, (good_before m).2, (good_before m).3.below n l)) ∙ rw t good_at.into
        ∙ sym (holding_first L p k (suc n) x B)
