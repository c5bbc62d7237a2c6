-- A level by the roots of its classes: a class of the level before goes where its root ends now, so the lines that start are the definition's but for the
-- order of the numbers that they join, and each class has the number of its branch. Assumes nothing.
use mathlib.Core.Path.{◌≡◌, refl, sym, ap, ap₂, ◌∙◌, subst}
use mathlib.Core.Logic.{◌⊎◌, inl, inr}
use mathlib.Core.Bool.{Bool, true, false, cond, not}
use mathlib.Core.List.Memᴰ
use mathlib.Core.List.{List, [], ◌∷◌, map, map-map}
use Prim.Native.Nat.{ℕ, suc, ◌≤◌, ◌<◌}
use native.Mathlib.Omega.{arith}
use lib.Dec.{eqb}
use lib.ListN.{length, length-map}
use borrow.Author.Tests.{eqb-true, eq-eqb, ne_eqb}
use Rattle.sets.specs.Lists.{◌∈◌, keep, below}
use Rattle.sets.specs.Sets.{before}
use Rattle.sets.specs.Value.{row}
use Rattle.sets.proofs.Tests.{iff}
use Rattle.sets.proofs.ListLaws.{Holds, Rising, Distinct, keep_yes, keep_no, keep_at, keep_of, keep_same, keep_map, keep_distinct, keep_rising}
use Rattle.sets.proofs.ListLaws.{distinct_same, rising_distinct, rising_map, map_on, distinct_map, map_rising}
use Rattle.sets.proofs.Order.{set_order}
use Rattle.sets.proofs.Insertion.{insert_all_ranked}
use Rattle.percolation.specs.Percolate.{Community, joined, communities}
use Rattle.percolation.specs.Links.{Link, heavy, family}
use Rattle.percolation.specs.Levels.{joined_at}
use Rattle.percolation.specs.Tree.{Branch, Level, continues, begins, class_at, held_by, level_of}
use Rattle.percolation.proofs.Chains.{adjacent_sym, first_in, chain_trans, chain_sym, joined_chain, chain_joined}
use Rattle.percolation.proofs.Communities.{communities_rising}
use Rattle.slots.specs.Tables.{Tables, root_of}
use Rattle.slots_theory.specs.Shows.{shown_at, Shows}
use Rattle.slots_theory.proofs.Free.{Stays}
use Rattle.slots_theory.proofs.Bearing.{InClass, class_mono}
use Rattle.slots_theory.proofs.Shown.{Family, shows_sound}
use Rattle.slots_theory.proofs.Communal.{end_shown, root_once, community_shown, slot_joined}
use Rattle.clique_taking.proofs.Inserted.{cliques_family}
use Rattle.listings.specs.Model.{root_slots, stands_at}
use Rattle.listings.proofs.Listed.{roots_of, roots_at, roots_distinct, stands_end}
use Rattle.tree_theory.specs.Model.{Rooted, rooted, Begun, ending_at, starts_line, begun_at, by_begun, begun_lines, line_number, only_number, rooted_now}
use Rattle.tree_theory.proofs.RootsLines.{SameStarts, same_none, same_next}

-- ---- the classes of a level: by their roots, and by their smallest cliques

abbrev pub branch_at : ℕ → ℕ → Branch
branch_at s i = record { small = s; number = i }

-- the ends of the used slots
abbrev pub roots_in : Tables → List ℕ
roots_in T = root_slots T.entries T.used

-- The classes A stand at the ends of T, and the branches P are theirs: by the smallest clique that stands there, with the same number.
pub record Matches (T : Tables) (A : List Rooted) (P : List Branch) : Type 0 where
  -- the line of the class at an end, and the ends in the order of the branches
  pub number : ℕ → ℕ
  pub ranked : List ℕ
  pub classes : A ≡ map (λ r. rooted r (number r)) (roots_in T)
  pub branches : P ≡ map (λ r. branch_at (row T.smallest r) (number r)) ranked
  pub once : Distinct ranked
  pub there : Holds ranked (roots_in T)
  pub back : Holds (roots_in T) ranked

roots_none : (T : Tables) → T.used ≡ 0 → roots_in T ≡ []
unfolding root_slots below keep
roots_none T e = ap (λ (n : ℕ). root_slots T.entries n) e

-- at no level there is none
pub matches_none : (T : Tables) → T.used ≡ 0 → Matches T [] []
unfolding Distinct
matches_none T e =
    let n = roots_none T e in
    record {
      number = λ r. 0;
      ranked = [];
      classes = sym (ap (map (λ r. rooted r 0)) n);
      branches = refl;
      once = tt;
      there = λ r m. rw n at m;
      back = λ r m. absurd (Memᴰ.not-nil m);
    }

-- ---- an old root ends where the class that holds its class has its root

-- Each end of T is a used slot of U, whose class at the weight v has the smallest clique that stands at that end.
abbrev pub Carried : List Link → ℕ → ℕ → ℕ → Tables → Tables → Type 0
Carried L p k v T U = (o : ℕ) → o ∈ roots_in T → (o < U.used) × InClass k (family L p k v) (row U.sets o) (row T.smallest o)

module _ (L : List Link) (p k v : ℕ) where
  pub family_sets : Family p k (family L p k v)
  unfolding family
  family_sets = cliques_family (heavy v L) p k

  -- T shows a family that the level has, and U keeps the sets of its slots
  pub carried_shown : (G : List ℕ) (T U : Tables) → Shows p k G T → Holds (family L p k v) G → Stays T U → Carried L p k v T U
  carried_shown G T U h g kept o m =
      let r = roots_of T.entries T.used m in
      let e : root_of T.entries o ≡ o = r.1 in
      let c : InClass k G (row T.sets o) (row T.smallest (root_of T.entries o)) = (shows_sound p k G T h).small o r.0 in (
        omega (arith, r.0, kept.more),
        subst (λ (s : ℕ). InClass k (family L p k v) s (row T.smallest o)) (sym (kept.sets o r.0))
            (subst (λ (q : ℕ). InClass k (family L p k v) (row T.sets o) (row T.smallest q)) e
            (class_mono k G (family L p k v) g (row T.sets o) (row T.smallest (root_of T.entries o)) c)),
      )

  module _ (T U : Tables) (shows : Shows p k (family L p k v) U) (carried : Carried L p k v T U) where
    pub same_end : (o r : ℕ) → o ∈ roots_in T → r ∈ roots_in U
        → eqb (root_of U.entries o) r ≡ joined_at L p k v (row U.smallest r) (row T.smallest o)
    unfolding joined_at
    same_end o r mo mr = iff (eqb (root_of U.entries o) r) (joined k F s a) to fro
      where
        F : List ℕ
        F = family L p k v

        s : ℕ
        s = row U.smallest r

        a : ℕ
        a = row T.smallest o

        lr : (r < U.used) × (root_of U.entries r ≡ r)
        lr = roots_of U.entries U.used mr

        c : InClass k F (row U.sets o) a
        c = (carried o mo).1

        d : InClass k F (row U.sets r) s
        d = subst (λ (q : ℕ). InClass k F (row U.sets r) (row U.smallest q)) lr.1 ((shows_sound p k F U shows).small r lr.0)

        both : (root_of U.entries r ≡ root_of U.entries o → joined k F d.bearer c.bearer ≡ true)
            × (joined k F d.bearer c.bearer ≡ true → root_of U.entries r ≡ root_of U.entries o)
        both =
            slot_joined p k F U shows (λ x m. (family_sets x m).0) d.bearer c.bearer r o (first_in d.chain) (first_in c.chain) lr.0 (carried o mo).0
            d.within c.within

        to : eqb (root_of U.entries o) r ≡ true → joined k F s a ≡ true
        to e =
            let j = both.0 (lr.1 ∙ sym (eqb-true (root_of U.entries o) r e)) in
            chain_joined k F s a (chain_trans (chain_sym (adjacent_sym k) d.chain) (chain_trans (joined_chain k F d.bearer c.bearer j) c.chain))

        fro : joined k F s a ≡ true → eqb (root_of U.entries o) r ≡ true
        fro e =
            let j = chain_trans d.chain (chain_trans (joined_chain k F s a e) (chain_sym (adjacent_sym k) c.chain)) in
            eq-eqb (root_of U.entries o) r (sym (both.1 (chain_joined k F d.bearer c.bearer j)) ∙ lr.1)

-- ---- the classes that end at a root are those that its class holds

abbrev numbers : List Rooted → List ℕ
numbers E = map (λ x. x.number) E

abbrev branch_numbers : List Branch → List ℕ
branch_numbers D = map (λ b. b.number) D

-- as many, with the same numbers
record SameNumbers (E : List Rooted) (D : List Branch) : Type 0 where
  count : length E ≡ length D
  there : Holds (branch_numbers D) (numbers E)
  back : Holds (numbers E) (branch_numbers D)

module _ (L : List Link) (p k v : ℕ) (T U : Tables) (shows : Shows p k (family L p k v) U) (carried : Carried L p k v T U) (A : List Rooted) (P : List Branch)
    (m : Matches T A P) where
  abbrev class_at_root : ℕ → Community
  class_at_root r = stands_at U.smallest U.unions r

  abbrev rooted_at : ℕ → Rooted
  rooted_at o = rooted o (m.number o)

  abbrev branch_of : ℕ → Branch
  branch_of o = branch_at (row T.smallest o) (m.number o)

  abbrev ends_at : ℕ → ℕ → Bool
  ends_at r o = eqb (root_of U.entries o) r

  ending_is : (r : ℕ) → ending_at U.entries A r ≡ map rooted_at (keep (ends_at r) (roots_in T))
  unfolding ending_at
  ending_is r =
      ap (keep (λ x. eqb (root_of U.entries x.slot) r)) m.classes ∙ keep_map (λ x. eqb (root_of U.entries x.slot) r) rooted_at (roots_in T)

  held_is : (r : ℕ) → r ∈ roots_in U → held_by L p k v P (class_at_root r) ≡ map branch_of (keep (ends_at r) m.ranked)
  unfolding held_by stands_at
  held_is r i =
      ap (keep (λ b. joined_at L p k v (row U.smallest r) b.small)) m.branches
      ∙ keep_map (λ b. joined_at L p k v (row U.smallest r) b.small) branch_of m.ranked
      ∙ ap (map branch_of) (keep_same (λ o. joined_at L p k v (row U.smallest r) (row T.smallest o)) (ends_at r) m.ranked
      (λ o j. sym (same_end L p k v T U shows carried o r (m.back o j) i)))

  -- what a test keeps of the ends, in either order
  kept_there : (f : ℕ → Bool) → Holds (keep f m.ranked) (keep f (roots_in T))
  kept_there f o i = let h = keep_of f (roots_in T) i in keep_at f m.ranked (m.there o h.0) h.1

  kept_back : (f : ℕ → Bool) → Holds (keep f (roots_in T)) (keep f m.ranked)
  kept_back f o i = let h = keep_of f m.ranked i in keep_at f (roots_in T) (m.back o h.0) h.1

  numbers_is : (X : List ℕ) → numbers (map rooted_at X) ≡ map m.number X
  numbers_is X = map-map (λ (x : Rooted). x.number) rooted_at X

  branches_is : (X : List ℕ) → branch_numbers (map branch_of X) ≡ map m.number X
  branches_is X = map-map (λ (x : Branch). x.number) branch_of X

  same_numbers : (r : ℕ) → r ∈ roots_in U → SameNumbers (ending_at U.entries A r) (held_by L p k v P (class_at_root r))
  same_numbers r i = rw (ending_is r, held_is r i) (record {
    count = length-map X rooted_at
        ∙ distinct_same X Y (keep_distinct (ends_at r) (roots_in T) (roots_distinct T.entries T.used)) (keep_distinct (ends_at r) m.ranked m.once)
        (kept_there (ends_at r)) (kept_back (ends_at r)) ∙ sym (length-map Y branch_of);
    there = λ j n. rw (branches_is Y) (over X Y (kept_there (ends_at r)) j (rw (numbers_is X) at n));
    back = λ j n. rw (numbers_is X) (over Y X (kept_back (ends_at r)) j (rw (branches_is Y) at n));
  })
    where
      X : List ℕ
      X = keep (ends_at r) (roots_in T)

      Y : List ℕ
      Y = keep (ends_at r) m.ranked

      over : (Z W : List ℕ) → Holds W Z → Holds (map m.number W) (map m.number Z)
      over Z W h j n = let q = Memᴰ.of_map m.number Z n in Memᴰ.cast (sym q.2) (Memᴰ.map m.number (h q.0 q.1))

-- ---- the level, class by class

module _ (es : List ℕ) (A : List Rooted) (r : ℕ) where
  pub starts_yes : (length (ending_at es A r) ≡ 1 → ⊥) → starts_line es A r ≡ true
  unfolding starts_line
  starts_yes h = ap not (ne_eqb (length (ending_at es A r)) 1 h)

  pub starts_no : length (ending_at es A r) ≡ 1 → starts_line es A r ≡ false
  unfolding starts_line
  starts_no h = ap not (eq-eqb (length (ending_at es A r)) 1 h)

only_same : (E : List Rooted) (d : Branch) → SameNumbers E (d ∷ []) → only_number E ≡ d.number
unfolding only_number
only_same [] d s = absurd (omega (arith, s.count))
only_same (x ∷ E) d s = Memᴰ.eq_of_singleton (s.there x.number (Memᴰ.head refl))

module _ (L : List Link) (p k v : ℕ) (P : List Branch) (U : Tables) (A : List Rooted) where
  abbrev class_of : ℕ → Community
  class_of r = stands_at U.smallest U.unions r

  abbrev starting : ℕ → Bool
  starting r = starts_line U.entries A r

  abbrev begun : ℕ → Begun
  begun r = begun_at v U A r

  -- the lines that start at the roots R, and the number of the class at r with n lines before these
  abbrev begun_of_lem : List ℕ → List Begun
  begun_of_lem R = map begun (keep starting R)

  abbrev number_now : ℕ → List Begun → ℕ → ℕ
  number_now n B r = cond (starting r) (line_number r n B) (only_number (ending_at U.entries A r))

  -- the level l is what the roots R say
  record Agrees (n : ℕ) (R : List ℕ) (l : Level) : Type 0 where
    starts : SameStarts (map (λ b. b.start) (begun_of_lem R)) l.starts
    branches : l.branches ≡ map (λ r. branch_at (row U.smallest r) (number_now n (begun_of_lem R) r)) R

  number_here : (n r : ℕ) (B : List Begun) → starting r ≡ true → number_now n (begun r ∷ B) r ≡ suc n
  unfolding line_number begun_at
  number_here n r B t = rw (t, eq-eqb r r refl)

  number_past : (n r q : ℕ) (B : List Begun) → (q ≡ r → ⊥) → number_now n (begun r ∷ B) q ≡ number_now (suc n) B q
  unfolding line_number begun_at
  number_past n r q B h = rw (ne_eqb r q (λ e. h (sym e)))

  -- a class that starts a line
  begins_here : (n r : ℕ) (R : List ℕ) (D : List Branch) (l : Level) → (r ∈ R → ⊥) → SameNumbers (ending_at U.entries A r) D → (length D ≡ 1 → ⊥)
      → Agrees (suc n) R l → Agrees n (r ∷ R) (begins v (class_of r) (suc n) (branch_numbers D) l)
  unfolding begun_at stands_at
  begins_here n r R D l new s h a = record {
    starts = rw kept (same_next (record {
      weight = refl;
      small = refl;
      count = length-map (ending_at U.entries A r) (λ x. x.number) ∙ s.count ∙ sym (length-map D (λ b. b.number));
      there = s.there;
      back = s.back;
    }) a.starts);
    branches =
        ap₂ (λ (i : ℕ) (Z : List Branch). branch_at (row U.smallest r) i ∷ Z) (sym (number_here n r (begun_of_lem R) yet))
        (a.branches ∙ map_on _ _ R (λ q m. ap (branch_at (row U.smallest q)) (sym (number_past n r q (begun_of_lem R) (λ e. new (Memᴰ.cast (sym e) m))))))
        ∙ sym (ap (λ (X : List ℕ). map (λ q. branch_at (row U.smallest q) (number_now n (map begun X) q)) (r ∷ R)) kept);
  }
    where
      yet : starting r ≡ true
      yet = starts_yes U.entries A r (λ e. h (sym s.count ∙ e))

      kept : keep starting (r ∷ R) ≡ r ∷ keep starting R
      kept = keep_yes starting r R yet

  -- a class that goes on
  goes_on : (n r : ℕ) (R : List ℕ) (d : Branch) (l : Level) → SameNumbers (ending_at U.entries A r) (d ∷ []) → Agrees n R l
      → Agrees n (r ∷ R) (continues (class_of r) d.number l)
  unfolding stands_at
  goes_on n r R d l s a = record {
    starts = rw kept a.starts;
    branches =
        ap₂ (λ (i : ℕ) (Z : List Branch). branch_at (row U.smallest r) i ∷ Z) (sym (rw still (only_same (ending_at U.entries A r) d s))) a.branches
        ∙ sym (ap (λ (X : List ℕ). map (λ q. branch_at (row U.smallest q) (number_now n (map begun X) q)) (r ∷ R)) kept);
  }
    where
      still : starting r ≡ false
      still = starts_no U.entries A r s.count

      kept : keep starting (r ∷ R) ≡ keep starting R
      kept = keep_no starting r R still

  agrees : (n : ℕ) (R : List ℕ) → Distinct R → ((r : ℕ) → r ∈ R → SameNumbers (ending_at U.entries A r) (held_by L p k v P (class_of r)))
      → Agrees n R (level_of L p k v P n (map class_of R))
  unfolding level_of Distinct keep
  agrees n [] d h = record { starts = same_none; branches = refl }
  agrees n (r ∷ R) d h =
      go (held_by L p k v P (class_of r)) (h r (Memᴰ.head refl)) (agrees n R d.1 (λ q m. h q (Memᴰ.tail m)))
      (agrees (suc n) R d.1 (λ q m. h q (Memᴰ.tail m)))
    where
      go : (D : List Branch) → SameNumbers (ending_at U.entries A r) D → {same more : Level} → Agrees n R same → Agrees (suc n) R more
          → Agrees n (r ∷ R) (class_at v n (class_of r) D same more)
      go [] s a b = begins_here n r R [] _ d.0 s (λ e. omega arith) b
      go (x ∷ []) s a b = goes_on n r R x _ s a
      go (x ∷ y ∷ D) s a b = begins_here n r R (x ∷ y ∷ D) _ d.0 s (λ e. omega arith) b

-- ---- the ends of the tables in the order of their communities

module _ (p k : ℕ) (F : List ℕ) (U : Tables) (sets : Family p k F) (some : 1 ≤ k) (h : Shows p k F U) where
  abbrev stands : ℕ → Community
  stands r = stands_at U.smallest U.unions r

  pick : (C : List Community) → Holds (communities k F) C → (R : List ℕ) × (map stands R ≡ C) × Holds (roots_in U) R
  pick [] g = ([], refl, λ r m. absurd (Memᴰ.not-nil m))
  pick (c ∷ C) g = go (community_shown p k F U h some sets c (g c (Memᴰ.head refl))) (pick C (λ d m. g d (Memᴰ.tail m)))
    where
      go : (i : ℕ) × (i < U.used) × (root_of U.entries i ≡ i) × (shown_at U i ≡ c) → (R : List ℕ) × (map stands R ≡ C) × Holds (roots_in U) R
          → (R : List ℕ) × (map stands R ≡ c ∷ C) × Holds (roots_in U) R
      go r q = (r.0 ∷ q.0, ap₂ ◌∷◌ (sym (stands_end p k F U sets some h r.0 r.2) ∙ r.3) q.1, all)
        where
          all : Holds (roots_in U) (r.0 ∷ q.0)
          all i m = one (Memᴰ.cases_cons m)
            where
              one : (i ≡ r.0) ⊎ i ∈ q.0 → i ∈ roots_in U
              one (inl e) = Memᴰ.cast e (roots_at U.entries U.used r.0 r.1 r.2)
              one (inr j) = q.2 i j

  ranks : List ℕ
  ranks = (pick (communities k F) (λ c m. m)).0

  ranks_shown : map stands ranks ≡ communities k F
  unfolding ranks
  ranks_shown = (pick (communities k F) (λ c m. m)).1

  ranks_back : Holds (roots_in U) ranks
  unfolding ranks
  ranks_back = (pick (communities k F) (λ c m. m)).2

  -- no smallest clique stands at two ends
  small_once : (i j : ℕ) → i ∈ roots_in U → j ∈ roots_in U → row U.smallest i ≡ row U.smallest j → i ≡ j
  unfolding stands_at
  small_once i j mi mj e =
      let a = roots_of U.entries U.used mi in
      let b = roots_of U.entries U.used mj in
      root_once p k F U h i j a.0 b.0 a.1 b.1
      (ap (λ (c : Community). c.small) (stands_end p k F U sets some h i a.1) ∙ e
      ∙ sym (ap (λ (c : Community). c.small) (stands_end p k F U sets some h j b.1)))

  ranks_there : Holds ranks (roots_in U)
  unfolding stands_at
  ranks_there r m =
      let a = roots_of U.entries U.used m in
      let i : stands r ∈ communities k F = Memᴰ.cast (sym (stands_end p k F U sets some h r a.1)) (end_shown p k F U h r a.0) in
      let q = Memᴰ.of_map stands ranks (subst (λ (C : List Community). stands r ∈ C) (sym ranks_shown) i) in
      Memᴰ.cast (sym (small_once q.0 r (ranks_back q.0 q.1) m (ap (λ (c : Community). c.small) q.2))) q.1

  smalls_rising : Rising before (map (row U.smallest) ranks)
  unfolding stands_at
  smalls_rising =
      subst (λ (l : List ℕ). Rising before l) (ap (map (λ (c : Community). c.small)) (sym ranks_shown) ∙ map-map (λ (c : Community). c.small) stands ranks)
      (communities_rising k F)

  ranks_rising : Rising (λ i j. before (row U.smallest i) (row U.smallest j)) ranks
  ranks_rising = rising_map before (row U.smallest) ranks smalls_rising

  ranks_once : Distinct ranks
  ranks_once = distinct_map (row U.smallest) ranks (rising_distinct before set_order (map (row U.smallest) ranks) smalls_rising)

-- ---- the step

module _ (L : List Link) (p k v : ℕ) (some : 1 ≤ k) (T U : Tables) (shows : Shows p k (family L p k v) U) (carried : Carried L p k v T U)
    (A : List Rooted) (P : List Branch) (m : Matches T A P) (n : ℕ) where
  abbrev F : List ℕ
  F = family L p k v

  abbrev sets : Family p k F
  sets = family_sets L p k v

  abbrev R : List ℕ
  R = ranks p k F U sets some shows

  abbrev goes_first_lem : ℕ → Bool
  goes_first_lem r = starts_line U.entries A r

  begun_is : begun_lines v U A ≡ map (begun_at v U A) (keep goes_first_lem R)
  unfolding begun_lines begun_at
  begun_is =
      insert_all_ranked before set_order (λ (b : Begun). b.start.small) (begun_at v U A) (keep goes_first_lem (roots_in U)) (keep goes_first_lem R)
      (keep_distinct goes_first_lem (roots_in U) (roots_distinct U.entries U.used))
      (λ i j a b e. small_once p k F U sets some shows i j (keep_of goes_first_lem (roots_in U) a).0 (keep_of goes_first_lem (roots_in U) b).0 e)
      (λ r a. let h = keep_of goes_first_lem (roots_in U) a in keep_at goes_first_lem R (ranks_there p k F U sets some shows r h.0) h.1)
      (λ r a. let h = keep_of goes_first_lem R a in keep_at goes_first_lem (roots_in U) (ranks_back p k F U sets some shows r h.0) h.1)
      (map_rising by_begun (begun_at v U A) (keep goes_first_lem R)
      (keep_rising (λ i j. before (row U.smallest i) (row U.smallest j)) goes_first_lem R (ranks_rising p k F U sets some shows)))

  agreed : Agrees L p k v P U A n R (level_of L p k v P n (communities k F))
  agreed =
      subst (λ (C : List Community). Agrees L p k v P U A n R (level_of L p k v P n C)) (ranks_shown p k F U sets some shows)
      (agrees L p k v P U A n R (ranks_once p k F U sets some shows)
      (λ r i. same_numbers L p k v T U shows carried A P m r (ranks_back p k F U sets some shows r i)))

  -- the lines that start
  pub step_starts : SameStarts (map (λ b. b.start) (begun_lines v U A)) (level_of L p k v P n (communities k (family L p k v))).starts
  step_starts = subst (λ (B : List Begun). SameStarts (map (λ b. b.start) B) (level_of L p k v P n (communities k F)).starts) (sym begun_is) agreed.starts

  -- and the classes with their lines
  pub step_matches : Matches U (rooted_now v n U A) (level_of L p k v P n (communities k (family L p k v))).branches
  unfolding rooted_now
  step_matches = record {
    number = number_now L p k v P U A n (begun_lines v U A);
    ranked = R;
    classes = refl;
    branches = agreed.branches ∙ ap (λ (B : List Begun). map (λ r. branch_at (row U.smallest r) (number_now L p k v P U A n B r)) R) (sym begun_is);
    once = ranks_once p k F U sets some shows;
    there = ranks_there p k F U sets some shows;
    back = ranks_back p k F U sets some shows;
  }
