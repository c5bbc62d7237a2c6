-- What each line grew to, by the roots of the classes: an end of the tables has the union of its line's class, each line that goes into none has an end, and
-- so each line shows the union of the last level at which it is a line of its own. Assumes nothing.
use mathlib.Core.Path.{◌≡◌, sym, ap, ◌∙◌, subst}
use mathlib.Core.Logic.{◌⊎◌, inl, inr}
use mathlib.Core.List.Memᴰ
use mathlib.Core.List.{List, [], ◌∷◌, ◌++◌, map, append_assoc}
use Prim.Native.Nat.{ℕ, suc, ◌+◌, ◌≤◌, ◌<◌, ◌^◌}
use native.Mathlib.Omega.{arith}
use lib.ListN.{length, length-append, length-map}
use Rattle.sets.specs.Lists.{◌∈◌}
use Rattle.sets.specs.Value.{row, number_at}
use Rattle.sets.proofs.Tests.{same_or_not, lt_or_le}
use Rattle.sets.proofs.RowNumbers.{number_is}
use Rattle.percolation.specs.Percolate.{Community, union_at}
use Rattle.percolation.specs.Links.{Link, family}
use Rattle.percolation.specs.Tree.{Start, Branch, goes_into, last_level, whole_of}
use Rattle.percolation.proofs.Communities.{communities_of, at_same}
use Rattle.percolation.proofs.Levels.{levels_falling}
use Rattle.percolation.proofs.Growth.{Falls, falls_before, start_of, start_old, Standing, last_here, last_kept}
use Rattle.slots.specs.Tables.{Tables, root_of}
use Rattle.slots_theory.specs.Shows.{Shows}
use Rattle.slots_theory.proofs.Communal.{end_shown}
use Rattle.listings.specs.Model.{root_slots, stands_at}
use Rattle.listings.proofs.Listed.{roots_of, roots_at, stands_end}
use Rattle.tree_levels.specs.LevelModel.{grew_to}
use Rattle.tree_levels.proofs.LineUnions.{grew_other, grew_one}
use Rattle.tree_theory.specs.Model.{Rooted, rooted, Begun, begun_at, begun_lines, rooted_now, starts_now}
use Rattle.tree_theory.proofs.RootsLines.{same_length, same_member, same_small, goes_same, goes_none, goes_zero, shown_whole}
use Rattle.tree_theory.proofs.RootsLevel.{branch_at, roots_in, family_sets}
use Rattle.tree_theory.proofs.RootsNumbers.{begun_of}
use Rattle.tree_theory.proofs.ByRoots.{Grown}
use Rattle.tree_theory.proofs.ClassCounts.{Turned}
use Rattle.tree_theory.proofs.UnionsKept.{Bounded}
use Rattle.tree_theory.proofs.LevelJoins.{goes_none_new}
use Rattle.tree_theory.proofs.LevelStep.{level_numbers, step_ends, step_stored}

-- the number of a class is what it stands with
number_of : (f g : ℕ → ℕ) (R : List ℕ) → map (λ r. rooted r (f r)) R ≡ map (λ r. rooted r (g r)) R → (r : ℕ) → r ∈ R → f r ≡ g r
number_of f g R e r m =
    let q = Memᴰ.of_map (λ x. rooted x (g x)) R (subst (λ (l : List Rooted). rooted r (f r) ∈ l) e (Memᴰ.map (λ x. rooted x (f x)) m)) in
    sym (ap (λ (x : Rooted). x.number) q.2) ∙ ap g (ap (λ (x : Rooted). x.slot) q.2)

-- ---- after a level w

module _ (L : List Link) (p k w : ℕ) (U : Tables) (A : List Rooted) (S : List Start) (W D : List ℕ) (g : Grown L p k U A S W) (now : g.past ≡ D ++ (w ∷ []))
    (some : 1 ≤ k) (shows : Shows p k (family L p k w) U) where
  abbrev F : List ℕ
  F = family L p k w

  standing : Standing L p k (D ++ (w ∷ [])) g.begun g.branches
  standing = subst (λ (E : List ℕ). Standing L p k E g.begun g.branches) now g.standing

  falls : Falls ((D ++ (w ∷ [])) ++ W)
  falls = subst Falls (g.falling ∙ ap (λ (E : List ℕ). E ++ W) now) (levels_falling L)

  -- the level is the lowest so far
  lowest : (d : ℕ) → d ∈ (D ++ (w ∷ [])) → w ≤ d
  lowest d m = go (Memᴰ.append_cases D m)
    where
      go : d ∈ D ⊎ d ∈ (w ∷ []) → w ≤ d
      go (inl i) = omega (arith, falls_before D w W (subst Falls (append_assoc D (w ∷ []) W) falls) d i)
      go (inr i) = let e : d ≡ w = Memᴰ.eq_of_singleton i in omega (arith, e)

  number : ℕ → ℕ
  number = g.matches.number

  -- the union that stands at an end
  union_at_lem : (r : ℕ) → r ∈ roots_in U → row U.unions r ≡ union_at k F (row U.smallest r)
  unfolding stands_at
  union_at_lem r m =
      let o = roots_of U.entries U.used m in
      let e = stands_end p k F U (family_sets L p k w) some shows r o.1 in
      sym (ap (λ (c : Community). c.whole) e) ∙ (communities_of k F _ (end_shown p k F U shows r o.0)).union
      ∙ ap (λ (c : Community). union_at k F c.small) e

  -- an end has a line that goes into none, and the union of that line's class
  pub end_line : (r : ℕ) → r ∈ roots_in U
      → (goes_into (g.matches.number r) 1 S ≡ 0) × (row U.unions r ≡ union_at k (family L p k w) (start_of S (g.matches.number r)).small)
  unfolding number
  end_line r m = (
    goes_same g.same (number r) 1 ∙ goes_none (number r) 1 g.begun (standing.unjoined b in_p),
    union_at_lem r m ∙ at_same k F F (λ x i. i) (λ x i. i) (row U.smallest r) (start_of g.begun (number r)).small (standing.chained b in_p w lowest)
        ∙ ap (union_at k F) (sym (same_small g.same (number r))),
  )
    where
      b : Branch
      b = branch_at (row U.smallest r) (number r)

      in_p : b ∈ g.branches
      in_p = subst (λ (P : List Branch). b ∈ P) (sym g.matches.branches) (Memᴰ.map (λ x. branch_at (row U.smallest x) (number x)) (g.matches.there r m))

  -- a line that goes into none has an end
  pub line_end : (m : ℕ) → 1 ≤ m → m ≤ length S → goes_into m 1 S ≡ 0 → (r : ℕ) × r ∈ roots_in U × (g.matches.number r ≡ m)
  line_end m l h e =
      let b = standing.present m l (omega (arith, h, same_length g.same)) (goes_zero m 1 g.begun (omega arith) (sym (goes_same g.same m 1) ∙ e)) in
      let q = Memᴰ.of_map (λ x. branch_at (row U.smallest x) (g.matches.number x)) g.matches.ranked
      (subst (λ (P : List Branch). b.0 ∈ P) g.matches.branches b.1) in
      (q.0, g.matches.back q.0 q.1, ap (λ (x : Branch). x.number) q.2 ∙ b.2)

-- ---- what the level writes

module _ (L : List Link) (p k w : ℕ) (T U : Tables) (h : Turned T U) (number : ℕ → ℕ) (A : List Rooted)
    (classes : A ≡ map (λ r. rooted r (number r)) (root_slots T.entries T.used))
    (stored : (r : ℕ) → r < T.used → root_of T.entries r ≡ r → row T.smallest (suc r) ≡ number r)
    (S : List Start) (Z W : List ℕ) (old : Grown L p k T A S Z)
    (new : Grown L p k U (rooted_now w (length S) U A) (starts_now w U A S) W)
    (many : length S + length (begun_lines w U A) < 2 ^ 64) (bounded : Bounded U.unions) (some : 1 ≤ k)
    (shows : Shows p k (family L p k w) U) (positive : 1 ≤ w)
    (now : new.past ≡ old.past ++ (w ∷ [])) where
  abbrev es : List ℕ
  es = U.entries

  abbrev ms2 : List ℕ
  ms2 = (level_numbers T.used w U A S).smallest

  abbrev us2 : List ℕ
  us2 = (level_numbers T.used w U A S).unions

  abbrev X : List Start
  X = map (λ b. b.start) (begun_lines w U A)

  abbrev D : List ℕ
  D = old.past

  total : length (S ++ X) ≡ length S + length (begun_lines w U A)
  total = length-append S X ∙ ap (λ (x : ℕ). length S + x) (length-map (begun_lines w U A) (λ (b : Begun). b.start))

  -- the number that stands behind an end is that of its line
  number_there : (r : ℕ) → r ∈ roots_in U → number_at ms2 (suc r) ≡ new.matches.number r
  unfolding rooted_now
  number_there r m =
      let o = roots_of es U.used m in
      let same = number_of _ new.matches.number (roots_in U) new.matches.classes r m in
      let b = new.within (rooted r (new.matches.number r)) (subst (λ (C : List Rooted). rooted r (new.matches.number r) ∈ C) (sym new.matches.classes)
      (Memᴰ.map (λ x. rooted x (new.matches.number x)) m)) in
      number_is ms2 (suc r) (new.matches.number r)
      (step_stored L p k w T U h number A classes stored S Z W old new many r o.0 o.1 ∙ same) (omega (arith, b.1, total, many))

  -- and its union stands there as it did
  union_there : (r : ℕ) → r ∈ roots_in U → row us2 r ≡ row U.unions r
  union_there r m = let o = roots_of es U.used m in ((step_ends L p k w T U h number A classes stored S Z W old new many bounded).ends r o.0 o.1).1

  old_weight : (x : Start) → x ∈ S → x.weight ∈ D
  old_weight x m = let q = same_member old.same x m in subst (λ (v : ℕ). v ∈ D) (sym q.2.weight) (old.standing.weights q.0 q.1)

  new_weight : (x : Start) → x ∈ X → x.weight ≡ w
  unfolding begun_at
  new_weight x m =
      let q = Memᴰ.of_map (λ (b : Begun). b.start) (begun_lines w U A) m in
      sym (ap (λ (y : Start). y.weight) q.2) ∙ sym (ap (λ (b : Begun). b.start.weight) (begun_of w U A q.0 q.1).3)

  low : (d : ℕ) → d ∈ D → w < d
  low = falls_before D w W (subst Falls (new.falling ∙ ap (λ (E : List ℕ). E ++ W) now ∙ append_assoc D (w ∷ []) W) (levels_falling L))

  module _ (u : ℕ → ℕ) (was : (m : ℕ) → 1 ≤ m → m ≤ length S → u m ≡ shown_whole L p k old.past S m) where
    pub step_wholes : (m : ℕ) → 1 ≤ m → m ≤ length (starts_now w U A S)
        → grew_to U.entries (level_numbers T.used w U A S).smallest (level_numbers T.used w U A S).unions u U.used m
        ≡ shown_whole L p k new.past (starts_now w U A S) m
    unfolding whole_of
    step_wholes m a b = go (same_or_not (goes_into m 1 (S ++ X)) 0) ∙ ap (λ (E : List ℕ). shown_whole L p k E (S ++ X) m) (sym now)
      where
        F : List ℕ
        F = family L p k w

        line_of : (r : ℕ) → r < U.used → root_of es r ≡ r → number_at ms2 (suc r) ≡ m → r ∈ roots_in U × (new.matches.number r ≡ m)
        line_of r l e z = let i = roots_at es U.used r l e in (i, sym (number_there r i) ∙ z)

        ends : (r : ℕ) → r ∈ roots_in U
            → (goes_into (new.matches.number r) 1 (S ++ X) ≡ 0) × (row U.unions r ≡ union_at k F (start_of (S ++ X) (new.matches.number r)).small)
        ends = end_line L p k w U _ (S ++ X) W D new now some shows

        go : (goes_into m 1 (S ++ X) ≡ 0) ⊎ (goes_into m 1 (S ++ X) ≡ 0 → ⊥)
            → grew_to es ms2 us2 u U.used m ≡ union_at k (family L p k (last_level (D ++ (w ∷ [])) (S ++ X) m)) (start_of (S ++ X) m).small
        go (inl e) =
            let r = line_end L p k w U _ (S ++ X) W D new now some shows m a b e in
            let o = roots_of es U.used r.1 in
            grew_one es ms2 us2 u m U.used (union_at k F (start_of (S ++ X) m).small)
            (λ q l f z. let i = line_of q l f z in union_there q i.0 ∙ (ends q i.0).1 ∙ ap (λ (x : ℕ). union_at k F (start_of (S ++ X) x).small) i.1)
            r.0 o.0 o.1 (number_there r.0 r.1 ∙ r.2)
            ∙ ap (λ (v : ℕ). union_at k (family L p k v) (start_of (S ++ X) m).small)
            (sym (last_here D w S X low old_weight new_weight m positive (goes_zero m 1 (S ++ X) (omega arith) e)))
        go (inr e) =
            grew_other es ms2 us2 u m U.used
            (λ q l f z. let i = line_of q l f z in e (ap (λ (x : ℕ). goes_into x 1 (S ++ X)) (sym i.1) ∙ (ends q i.0).0))
            ∙ was m a before ∙ ap (λ (v : ℕ). union_at k (family L p k v) (start_of S m).small)
            (sym (last_kept D w S X low old_weight new_weight m (λ n. e (goes_none m 1 (S ++ X) n))))
            ∙ ap (λ (x : Start). union_at k (family L p k (last_level (D ++ (w ∷ [])) (S ++ X) m)) x.small) (sym (start_old S X m a before))
          where
            before : m ≤ length S
            before = at (lt_or_le (length S) m)
              where
                at : (length S < m) ⊎ (m ≤ length S) → m ≤ length S
                at (inl l) = absurd (e (goes_none_new w U A S L p k W new T Z old m l))
                at (inr l) = l
