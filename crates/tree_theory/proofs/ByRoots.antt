-- The lines found by the roots, level by level, are the lines of the merge tree. Assumes nothing.
use mathlib.Core.Path.{◌≡◌, refl, sym, ap, ◌∙◌, subst}
use mathlib.Core.Bool.{true}
use mathlib.Core.List.Memᴰ
use mathlib.Core.List.{List, [], ◌∷◌, ◌++◌, map, append-nil, append_assoc}
use Prim.Native.Nat.{ℕ, ◌+◌, ◌≤◌, ◌<◌}
use native.Mathlib.Omega.{arith}
use lib.ListN.{length, get_or, take, drop, length-append, length-map}
use Rattle.sets.specs.Lists.{◌∈◌}
use Rattle.sets.proofs.ListLaws.{member_split}
use Rattle.percolation.specs.Percolate.{communities}
use Rattle.percolation.specs.Links.{Link, heavy, cliques, family}
use Rattle.percolation.specs.Levels.{levels}
use Rattle.percolation.specs.Steps.{legal}
use Rattle.percolation.specs.Tree.{Start, Branch, Level, level_of, starts_from, goes_into, tree, tree_bytes}
use Rattle.percolation.proofs.Levels.{levels_falling}
use Rattle.percolation.proofs.Tree.{all_starts, joins_below, joins_once}
use Rattle.percolation.proofs.Growth.{Falls, falls_before, Standing, standing_none, standing_next}
use Rattle.slots.specs.Tables.{Tables}
use Rattle.slots_theory.specs.Shows.{Shows}
use Rattle.slots_theory.proofs.Free.{Stays}
use Rattle.tree_theory.specs.Model.{Rooted, Begun, begun_lines, rooted_now, starts_now}
use Rattle.tree_theory.proofs.RootsLines.{SameStarts, same_none, same_append, same_length, SameSplit, same_split, goes_same, goes_none, lines_shown}
use Rattle.tree_theory.proofs.RootsLines.{tree_same, tree_length}
use Rattle.tree_theory.proofs.RootsLevel.{Matches, matches_none, Carried, carried_shown, step_starts, step_matches}
use Rattle.tree_theory.proofs.RootsNumbers.{Within, joins_from, rooted_within}
use Rattle.tree_theory.proofs.RootsRest.{cliques_take, cliques_front, rest_further, levels_rest}

-- After some levels, with the levels W to come: the classes A at the ends of the tables T, and the lines S that started, are the definition's.
pub record Grown (L : List Link) (p k : ℕ) (T : Tables) (A : List Rooted) (S : List Start) (W : List ℕ) : Type 0 where
  -- the definition's lines so far, and its classes of the last level
  pub begun : List Start
  pub branches : List Branch
  pub rest : all_starts L p k ≡ begun ++ starts_from L p k branches (length S) W
  pub same : SameStarts S begun
  pub matches : Matches T A branches
  pub within : Within (length S) A
  -- the levels so far, and which lines have classes at the last of them
  pub past : List ℕ
  pub falling : levels L ≡ past ++ W
  pub standing : Standing L p k past begun branches

module _ (L : List Link) (p k : ℕ) where
  -- before the first level
  pub grown_none : (T : Tables) → T.used ≡ 0 → Grown L p k T [] [] (levels L)
  grown_none T e = record {
    begun = [];
    branches = [];
    rest = refl;
    same = same_none;
    matches = matches_none T e;
    within = λ x m. absurd (Memᴰ.not-nil m);
    past = [];
    falling = refl;
    standing = standing_none L p k;
  }

  -- the next level
  pub grown_step : (v : ℕ) (W : List ℕ) (T U : Tables) (A : List Rooted) (S : List Start) → 1 ≤ k → Shows p k (family L p k v) U → Carried L p k v T U
      → Grown L p k T A S (v ∷ W) → Grown L p k U (rooted_now v (length S) U A) (starts_now v U A S) W
  unfolding starts_from
  grown_step v W T U A S some shows carried g = record {
    begun = g.begun ++ l.starts;
    branches = l.branches;
    rest = g.rest ∙ sym (append_assoc g.begun l.starts (starts_from L p k l.branches (length S + length l.starts) W))
        ∙ ap (λ (n : ℕ). (g.begun ++ l.starts) ++ starts_from L p k l.branches n W) many;
    same = same_append g.same new;
    matches = step_matches L p k v some T U shows carried A g.branches g.matches (length S);
    within = subst (λ (n : ℕ). Within n (rooted_now v (length S) U A)) count (rooted_within v U A (length S) g.within);
    past = g.past ++ (v ∷ []);
    falling = g.falling ∙ sym (append_assoc g.past (v ∷ []) W);
    standing = subst (λ (n : ℕ). Standing L p k (g.past ++ (v ∷ [])) (g.begun ++ (level_of L p k v g.branches n (communities k (family L p k v))).starts)
        (level_of L p k v g.branches n (communities k (family L p k v))).branches) (sym (same_length g.same))
        (standing_next L p k g.past g.begun g.branches g.standing v (falls_before g.past v W (subst Falls g.falling (levels_falling L))));
  }
    where
      l : Level
      l = level_of L p k v g.branches (length S) (communities k (family L p k v))

      X : List Start
      X = map (λ b. b.start) (begun_lines v U A)

      new : SameStarts X l.starts
      new = step_starts L p k v some T U shows carried A g.branches g.matches (length S)

      many : length S + length l.starts ≡ length (S ++ X)
      many = omega (arith, same_length new, length-append S X)

      count : length S + length (begun_lines v U A) ≡ length (S ++ X)
      count = omega (arith, length-append S X, length-map (begun_lines v U A) (λ b. b.start))

  -- the next level of the links in order: the first i are in, the first j are those of the next link's weight or more
  pub grown_take : (i j w : ℕ) (d : Link) (T U : Tables) (A : List Rooted) (S : List Start) → legal p L ≡ true → 1 ≤ k → i < length L
      → w ≡ (get_or L i d).weight → take j L ≡ heavy w L → Shows p k (cliques (take i L) p k) T → Shows p k (cliques (take j L) p k) U → Stays T U
      → Grown L p k T A S (levels (drop i L))
      → Grown L p k U (rooted_now w (length S) U A) (starts_now w U A S) (levels (drop j L))
  grown_take i j w d T U A S ok some fits weighs e old new kept g =
      grown_step w (levels (drop j L)) T U A S some (subst (λ (F : List ℕ). Shows p k F U) (cliques_take L j w e p k) new)
      (carried_shown L p k w (cliques (take i L) p k) T U old
      (cliques_front L j w e p k i (omega (arith, rest_further L j w e p i d ok fits weighs))) kept)
      (subst (λ (W : List ℕ). Grown L p k T A S W) (levels_rest L j w e p i d ok fits weighs) g)

  -- after the last level
  module _ (T : Tables) (A : List Rooted) (S : List Start) (g : Grown L p k T A S []) where
    pub grown_end : SameStarts S (all_starts L p k)
    unfolding starts_from
    grown_end = subst (λ (Z : List Start). SameStarts S Z) (sym (g.rest ∙ append-nil g.begun)) g.same

    pub grown_bytes : tree_bytes (lines_shown L p k (levels L) S) ≡ tree_bytes (tree L p k)
    grown_bytes = ap tree_bytes (tree_same L p k grown_end)

    pub grown_count : length S ≡ length (tree L p k)
    grown_count = same_length grown_end ∙ sym (tree_length L p k)

  -- the line x after B: it joins earlier lines, which went into none
  module _ (T : Tables) (A : List Rooted) (S : List Start) (W : List ℕ) (g : Grown L p k T A S W) where
    pub grown_joins : (B C : List Start) (x : Start) → S ≡ B ++ (x ∷ C) → (i : ℕ) → i ∈ x.joins → (1 ≤ i) × (i ≤ length B) × (goes_into i 1 B ≡ 0)
    grown_joins B C x e i j =
        let b = joins_below L p k s.first (s.last ++ later) s.start whole i (s.here.there i j) in (
          b.0,
          omega (arith, b.1, same_length s.before),
          goes_same s.before i 1 ∙ goes_none i 1 s.first free,
        )
      where
        s : SameSplit B C x g.begun
        s = same_split B C x g.begun (subst (λ (Z : List Start). SameStarts Z g.begun) e g.same)

        later : List Start
        later = starts_from L p k g.branches (length S) W

        whole : all_starts L p k ≡ s.first ++ (s.start ∷ (s.last ++ later))
        whole = g.rest ∙ ap (λ (Z : List Start). Z ++ later) s.whole ∙ append_assoc s.first (s.start ∷ s.last) later

        free : (y : Start) → y ∈ s.first → i ∈ y.joins → ⊥
        free y m n =
            let q = member_split y s.first m in
            let f : all_starts L p k ≡ q.0 ++ (y ∷ (q.1 ++ (s.start ∷ (s.last ++ later)))) =
            whole ∙ ap (λ (Z : List Start). Z ++ (s.start ∷ (s.last ++ later))) q.2
            ∙ append_assoc q.0 (y ∷ q.1) (s.start ∷ (s.last ++ later)) in
            joins_once L p k q.0 (q.1 ++ (s.start ∷ (s.last ++ later))) y f i n s.start (Memᴰ.append_right q.1 (Memᴰ.head refl))
            (s.here.there i j)

    -- there are no more lines than in the end
    pub grown_fits : length S ≤ length (tree L p k)
    grown_fits =
        omega (arith, tree_length L p k, ap length g.rest, length-append g.begun (starts_from L p k g.branches (length S) W), same_length g.same)

    -- the lines of the next level join lines of the levels before it
    pub grown_early : (v : ℕ) (U : Tables) (b : Begun) → b ∈ begun_lines v U A → (i : ℕ) → i ∈ b.start.joins → (1 ≤ i) × (i ≤ length S)
    grown_early v U b m i j =
        let r = joins_from v U A b m i j in
        let h = g.within r.0 r.1 in
        (omega (arith, h.0, r.2), omega (arith, h.1, r.2))
