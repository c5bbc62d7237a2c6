-- A pass over the levels of a sheet: what holds before each level, and that after the last one the lines counted are those of the tree. Assumes nothing.
use mathlib.Core.Path.{◌≡◌, refl, sym, ap, ◌∙◌, subst, subst⁻¹}
use mathlib.Core.Bool.{true}
use mathlib.Core.List.{List, [], ◌∷◌, ◌++◌, map, append-nil, append_assoc}
use Prim.Native.Nat.{ℕ, ◌+◌, ◌≤◌, ◌<◌}
use native.Mathlib.Omega.{arith}
use lib.ListN.{length, get_or, take, drop, length-append, length-map, take-append-drop}
use lib.Seq.{take_at}
use Rattle.sets.specs.Value.{width}
use Rattle.sets.proofs.ListLaws.{get_d_member}
use Rattle.percolation.specs.Links.{Link, heavy, cliques, family, slots}
use Rattle.percolation.specs.Levels.{levels}
use Rattle.percolation.specs.Steps.{legal}
use Rattle.percolation.specs.Tree.{Start, tree}
use Rattle.percolation.proofs.Accepted.{legal_positive}
use Rattle.checks.specs.Neighbours.{Neighbours}
use Rattle.slots.specs.Tables.{Tables, tables, room, root_of}
use Rattle.slots_theory.specs.Shows.{Shows}
use Rattle.joining.proofs.Follow.{root_le, root_twice}
use Rattle.listings.specs.Model.{root_slots}
use Rattle.runs.specs.Model.{rows_with, took_links}
use Rattle.runs.proofs.Ran.{slots_front, further_near}
use Rattle.tree_levels.specs.LevelModel.{join_counts, start_slots, wiped}
use Rattle.tree_theory.specs.Model.{Rooted, rooted, Begun, begun_lines, rooted_now, starts_now}
use Rattle.tree_theory.proofs.RootsRest.{cliques_take, rest_further, levels_rest, levels_end}
use Rattle.tree_theory.proofs.ByRoots.{Grown, grown_take, grown_count}
use Rattle.tree_theory.proofs.UnionsKept.{Bounded}
use Rattle.tree_theory.proofs.ClassCounts.{Turned, counts_length, counts_bounded, counts_other, count_end}
use Rattle.tree_theory.proofs.LevelLines.{begun_count}
use Rattle.tree_theory.proofs.LevelKept.{Between, SameEnds, emptied, between_next, grown_next, next_shows, next_turned, next_bounded, next_room}

-- link i is the next one, of the weight w, and its level ends before link j
pub record NextLevel (L : List Link) (p k i j w : ℕ) : Type 0 where
  pub wide : p ≤ width
  pub two : 2 ≤ k
  pub lawful : legal p L ≡ true
  pub link : Link
  pub inside : i < length L
  pub weighs : w ≡ (get_or L i link).weight
  pub first : take j L ≡ heavy w L

-- before link i, in the tables T, with the classes A of the level before and the lines S that started
pub record Passed (L : List Link) (p k i : ℕ) (R : List ℕ) (T : Tables) (A : List Rooted) (S : List Start) : Type 0 where
  pub between : Between p k (cliques (take i L) p k) T
  pub near : Neighbours (take i L) R
  pub fits : slots p k (cliques L p k) ≤ room T.entries
  pub grown : Grown L p k T A S (levels (drop i L))

-- the tables after the links of a level, and how many lines start in them where b slots were used before
abbrev pub with_links : List Link → ℕ → ℕ → ℕ → List ℕ → Tables → Tables
with_links L k i j R T = took_links k R T (drop i (take j L))

abbrev pub starts_in : ℕ → Tables → ℕ
starts_in b U = length (start_slots U.entries (join_counts U.entries U.unions b) b U.used)

-- the levels so far are those before the ones to come
front_same : (A B W : List ℕ) → A ++ W ≡ B ++ W → A ≡ B
front_same A B W e =
    let l : length B ≡ length A = omega (arith, ap length e, length-append A W, length-append B W) in
    sym (take_at A W (length A) refl) ∙ ap (take (length A)) e ∙ take_at B W (length A) l

pub past_same : (L : List Link) (p k : ℕ) (T U : Tables) (A B : List Rooted) (S X : List Start) (Z W : List ℕ)
    (g : Grown L p k T A S Z) (h : Grown L p k U B X W) → Z ≡ W → g.past ≡ h.past
past_same L p k T U A B S X Z W g h e = front_same g.past h.past W (ap (λ (l : List ℕ). g.past ++ l) (sym e) ∙ sym g.falling ∙ h.falling)

pub past_all : (L : List Link) (p k : ℕ) (T : Tables) (A : List Rooted) (S : List Start) (W : List ℕ) (g : Grown L p k T A S W) → W ≡ [] → g.past ≡ levels L
past_all L p k T A S W g e = sym (g.falling ∙ ap (λ (Z : List ℕ). g.past ++ Z) e ∙ append-nil g.past)

module _ (L : List Link) (p k i j w : ℕ) (v : NextLevel L p k i j w) (R : List ℕ) (T : Tables) (A : List Rooted) (S : List Start)
    (h : Passed L p k i R T A S) where
  abbrev U : Tables
  U = with_links L k i j R T

  further : i ≤ j
  further = omega (arith, rest_further L j w v.first p i v.link v.lawful v.inside v.weighs)

  fit : slots p k (cliques (take j L) p k) ≤ room T.entries
  fit =
      omega (arith, slots_front p k (take j L) (drop j L), h.fits, ap (λ (N : List Link). slots p k (cliques N p k)) (take-append-drop j L))

  shows : Shows p k (cliques (take j L) p k) U
  shows = next_shows p L i j v.wide v.lawful further R h.near k T v.two h.between fit

  pub level_turned : Turned T (with_links L k i j R T)
  level_turned = next_turned p L i j v.wide v.lawful further R h.near k T v.two h.between fit

  pub level_bounded : Bounded (with_links L k i j R T).unions
  level_bounded = next_bounded p L i j v.wide v.lawful further R h.near k T v.two h.between fit

  pub level_grown : Grown L p k (with_links L k i j R T) (rooted_now w (length S) (with_links L k i j R T) A)
      (starts_now w (with_links L k i j R T) A S) (levels (drop j L))
  level_grown =
      grown_take L p k i j w v.link T U A S v.lawful (omega (arith, v.two)) v.inside v.weighs v.first h.between.shows shows
      level_turned.stays h.grown

  pub level_shows : Shows p k (family L p k w) (with_links L k i j R T)
  level_shows = subst (λ (F : List ℕ). Shows p k F U) (cliques_take L j w v.first p k) shows

  pub level_positive : 1 ≤ w
  level_positive = omega (arith, v.weighs, legal_positive p L v.lawful (get_or L i v.link) (get_d_member L i v.link v.inside))

  -- the level is the next one of those so far
  pub level_past : level_grown.past ≡ h.grown.past ++ (w ∷ [])
  level_past =
      front_same level_grown.past (h.grown.past ++ (w ∷ [])) (levels (drop j L))
      (sym level_grown.falling ∙ h.grown.falling
      ∙ ap (λ (W : List ℕ). h.grown.past ++ W) (levels_rest L j w v.first p i v.link v.lawful v.inside v.weighs)
      ∙ sym (append_assoc h.grown.past (w ∷ []) (levels (drop j L))))

  -- what stands at slots that are no ends may change
  pub level_passed : (ms us : List ℕ) → SameEnds (with_links L k i j R T) ms us
      → Passed L p k j (rows_with R (drop i (take j L))) (emptied (with_links L k i j R T) ms us) (rooted_now w (length S) (with_links L k i j R T) A)
      (starts_now w (with_links L k i j R T) A S)
  level_passed ms us ends = record {
    between = between_next p k (cliques (take j L) p k) U shows level_turned.still ms us ends;
    near = further_near p L i j v.wide v.lawful further R h.near;
    fits = omega (arith, h.fits, next_room p L i j v.wide v.lawful further R h.near k T v.two h.between fit);
    grown = grown_next L p k U _ _ _ ms us ends level_grown;
  }

  pub level_count : (c c' : ℕ) → c ≡ length S → c' ≡ c + starts_in T.used (with_links L k i j R T)
      → c' ≡ length (starts_now w (with_links L k i j R T) A S)
  level_count c c' e f =
      let B = begun_lines w U A in
      omega (
        arith,
        e,
        f,
        begun_count T U level_turned h.grown.matches.number A h.grown.matches.classes w,
        length-append S (map (λ b. b.start) B),
        length-map B (λ (b : Begun). b.start),
      )

-- ---- the first pass

-- before link i, in the tables T with c lines counted
pub record Counting (L : List Link) (p k i : ℕ) (R : List ℕ) (T : Tables) (c : ℕ) : Type 0 where
  pub classes : List Rooted
  pub starts : List Start
  pub passed : Passed L p k i R T classes starts
  pub count : c ≡ length starts

-- the counts leave the rows of ends and of slots that are not used
counts_ends : (T U : Tables) (h : Turned T U) (number : ℕ → ℕ) (A : List Rooted) → A ≡ map (λ r. rooted r (number r)) (root_slots T.entries T.used)
    → Bounded U.unions → SameEnds U U.smallest (join_counts U.entries U.unions T.used)
counts_ends T U h number A classes b = record {
  long = refl;
  tall = counts_length es us T.used;
  ends = λ i l e. (refl, count_end T U h number A classes i e);
  unused = λ i l. (
    refl,
    counts_other es us T.used i (λ j a t z. omega (arith, z, (h.still (root_of es j) (omega (arith, root_le es j, h.stays.more)) (root_twice es j)).0)),
  );
  bounded = counts_bounded es us T.used b;
}
  where
    es : List ℕ
    es = U.entries

    us : List ℕ
    us = U.unions

-- with the tables and rows as the code has them
pub counting_step : (L : List Link) (p k i j w : ℕ) → NextLevel L p k i j w → (R : List ℕ) (T : Tables) (c : ℕ) → Counting L p k i R T c
    → (U : Tables) (R' us' : List ℕ) (c' : ℕ) → U ≡ with_links L k i j R T → R' ≡ rows_with R (drop i (take j L)) → c' ≡ c + starts_in T.used U
    → us' ≡ wiped U.entries (join_counts U.entries U.unions T.used) U.used
    → Counting L p k j R' (tables U.sets U.entries U.smallest us' U.used) c'
counting_step L p k i j w v R T c h U R' us' c' eu er ec es =
    subst⁻¹ (λ (x : List ℕ). Counting L p k j R' (tables U.sets U.entries U.smallest x U.used) c') es
    (subst⁻¹ (λ (x : List ℕ). Counting L p k j x (emptied U U.smallest (join_counts U.entries U.unions T.used)) c') er
    (subst⁻¹ (λ (X : Tables). (c' ≡ c + starts_in T.used X)
    → Counting L p k j (rows_with R (drop i (take j L))) (emptied X X.smallest (join_counts X.entries X.unions T.used)) c') eu after ec))
  where
    ends : SameEnds (with_links L k i j R T) (with_links L k i j R T).smallest
        (join_counts (with_links L k i j R T).entries (with_links L k i j R T).unions T.used)
    ends =
        counts_ends T (with_links L k i j R T) (level_turned L p k i j w v R T h.classes h.starts h.passed) h.passed.grown.matches.number h.classes
        h.passed.grown.matches.classes
        (level_bounded L p k i j w v R T h.classes h.starts h.passed)

    after : c' ≡ c + starts_in T.used (with_links L k i j R T)
        → Counting L p k j (rows_with R (drop i (take j L)))
        (emptied (with_links L k i j R T) (with_links L k i j R T).smallest
        (join_counts (with_links L k i j R T).entries (with_links L k i j R T).unions T.used)) c'
    after e = record {
      classes = rooted_now w (length h.starts) (with_links L k i j R T) h.classes;
      starts = starts_now w (with_links L k i j R T) h.classes h.starts;
      passed = level_passed L p k i j w v R T h.classes h.starts h.passed _ _ ends;
      count = level_count L p k i j w v R T h.classes h.starts h.passed c c' h.count e;
    }

pub counting_end : (L : List Link) (p k i : ℕ) (R : List ℕ) (T : Tables) (c : ℕ) → length L ≤ i → Counting L p k i R T c → c ≡ length (tree L p k)
counting_end L p k i R T c l h =
    h.count ∙ grown_count L p k T h.classes h.starts (subst (λ (W : List ℕ). Grown L p k T h.classes h.starts W) (levels_end L i l) h.passed.grown)
