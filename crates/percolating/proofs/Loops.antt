-- The sub-cliques with no slot counted, and the strong cliques taken in, turn by turn. Assumes nothing.
use Rattle.std.proofs.lemmas.List.{append-nil}
use Rattle.std.specs.Prelude.{Option, Some, None, is_some}
use Rattle.std.specs.List.{filter}
use mathlib.Core.Path.{◌≡◌, refl, sym, ap, ap₂, ◌∙◌, subst}
use mathlib.Core.Bool.{Bool, true, false, cond, not, true≢false}
use mathlib.Core.Logic.{◌⊎◌, inl, inr}
use mathlib.Core.List.{List, [], ◌∷◌, ◌++◌, map}
use Prim.Native.Nat.{ℕ, zero, suc, ◌+◌, ◌-◌, ◌≤◌, ◌<◌, ◌^◌}
use native.Mathlib.Omega.{arith}
use lib.Dec.{leb}
use lib.ListN.{length, get_or}
use lib.Ieee.{Float, nan}
use borrow.Author.Tests.{le-leb, lt-leb}
use Rattle.sets.specs.declared.walk.Iter.{Iter}
use Rattle.sets.specs.Lists.{keep, from, below}
use Rattle.sets.specs.Rest.{left_of, rest}
use Rattle.sets.specs.Sets.{out, size, members}
use Rattle.sets.specs.Value.{width, row}
use Rattle.sets.proofs.Given.{left_lt, rest_is}
use Rattle.sets.proofs.Laws.{size_le}
use Rattle.sets.proofs.Tests.{split}
use Rattle.sets.proofs.ListLaws.{keep_yes, keep_no, keep_le, keep_all, keep_append, map_append, below_more}
use Rattle.sets.proofs.Members.{members_length}
use Rattle.percolation.specs.Strength.{weakest_of}
use Rattle.products.specs.declared.Measure.{Measure}
use Rattle.products.specs.Measures.{strong_enough, strong_with}
use Rattle.products.specs.Model.{table_weights}
use Rattle.slots.specs.declared.list.SlotList.{SlotList}
use Rattle.slots.specs.List.{slots_of, SameSlots, Finds}
use Rattle.slots.specs.Tables.{Tables, room}
use Rattle.slots.specs.Model.{find}
use Rattle.clique_list.specs.Model.{Scores}
use Rattle.percolating.specs.Model.{lacks, lacking, took_fitting, took_each, strong_by}
use Rattle.percolating.proofs.Fitting.{fitting_over}

-- ---- has_room

few : (a b c d e : ℕ) → a ≤ b → b ≡ c → c ≡ d → d ≤ e → a ≤ e
few a b c d e h i j k = omega arith

module _ (sets : List ℕ) (used Q : ℕ) where
  -- as many free slots as the clique has parts
  pub room_plenty : (free : ℕ) → Q < 2 ^ width → size Q ≤ free → true ≡ leb (length (lacking sets used Q)) free
  unfolding lacking
  room_plenty free fits h =
      sym (le-leb (length (keep (lacks sets used Q) (members width Q))) free (few _ _ _ _ free
      (keep_le (lacks sets used Q) (λ q. true) (members width Q) (λ q m e. refl)) (ap length (keep_all (λ q. true) (members width Q) (λ q m. refl)))
      (members_length width Q fits) h))

  pub lacking_tests : keep (lacks sets used Q) (members width Q) ≡ lacking sets used Q
  unfolding lacking
  lacking_tests = refl

-- what finding a sub-clique says
pub lacks_is : (r : Option ℕ) (sets : List ℕ) (used Q q s : ℕ) → s ≡ out q Q → Finds r sets used s → (b : Bool) → is_some r ≡ not b
    → b ≡ lacks sets used Q q
unfolding lacks
lacks_is None sets used Q q s e h true t = sym (le-leb used _ (omega (arith, h, ap (find sets used) e)))
lacks_is None sets used Q q s e h false t = absurd (true≢false (sym t))
lacks_is (Some i) sets used Q q s e h true t = absurd (true≢false t)
lacks_is (Some i) sets used Q q s e h false t = sym (lt-leb used _ (omega (arith, h.0, h.1, ap (find sets used) e)))

-- `filter` of the library keeps those that `keep` keeps
pub same_keep : (f : ℕ → Bool) (l : List ℕ) → filter f l ≡ keep f l
unfolding keep
same_keep f [] = refl
same_keep f (x ∷ l) = go (f x) (same_keep f l)
  where
    go : (b : Bool) → filter f l ≡ keep f l → cond b (x ∷ filter f l) (filter f l) ≡ elim b [ true ↦ x ∷ keep f l | false ↦ keep f l ]
    go true h = ap (λ (k : List ℕ). x ∷ k) h
    go false h = h

-- a set has as many parts as it can hold, or fewer
pub rest_few : (s : Iter) → length (rest s) ≤ width
rest_few s = omega (arith, ap length (rest_is s), members_length width (left_of s) (left_lt s), size_le width (left_of s) (left_lt s))

-- ---- percolate

module _ (M : Measure) (W C : List ℕ) (P : List Float) (n : ℕ) (scores : Scores W C n P) where
  -- what the code says of row i
  pub told_strong : (i : ℕ) → i < n → (b : Bool) → b ≡ strong_enough M (weakest_of (table_weights W (row C i))) (get_or P i nan) → b ≡ strong_by M W (row C i)
  unfolding strong_by strong_with
  told_strong i h b e = e ∙ ap (strong_enough M (weakest_of (table_weights W (row C i)))) (scores.each i h)

-- the strong ones of the first i rows, taken in
abbrev pub strong_first : Measure → List ℕ → List ℕ → ℕ → List ℕ
strong_first M W C i = keep (strong_by M W) (map (row C) (below i))

took_more : (sure : Bool) (T : Tables) (F : List ℕ) (Q : ℕ) → took_each sure T (F ++ Q ∷ []) ≡ took_fitting sure (took_each sure T F) Q
unfolding took_each
took_more sure T [] Q = refl
took_more sure T (x ∷ F) Q = took_more sure (took_fitting sure T x) F Q

module _ (M : Measure) (W C : List ℕ) (sure : Bool) (T : Tables) (i : ℕ) where
  pub strong_none : T ≡ took_each sure T (strong_first M W C 0)
  unfolding took_each below from keep
  strong_none = refl

  rows_more : map (row C) (below (i + 1)) ≡ map (row C) (below i) ++ row C i ∷ []
  rows_more = ap (map (row C)) (let e : i + 1 ≡ suc i = omega arith in ap below e ∙ below_more i) ∙ map_append (row C) (below i) (i ∷ [])

  pub strong_yes : (U : Tables) → U ≡ took_each sure T (strong_first M W C i) → strong_by M W (row C i) ≡ true → (q : ℕ) → q ≡ row C i
      → (V : Tables) → V ≡ took_fitting sure U q → V ≡ took_each sure T (strong_first M W C (i + 1))
  unfolding keep
  strong_yes U u t q at V v =
      v ∙ ap₂ (took_fitting sure) u at ∙ sym (took_more sure T (strong_first M W C i) (row C i))
      ∙ sym (ap (took_each sure T) (ap (keep (strong_by M W)) rows_more ∙ keep_append (strong_by M W) (map (row C) (below i)) (row C i ∷ [])
      ∙ ap (λ (l : List ℕ). strong_first M W C i ++ l) (keep_yes (strong_by M W) (row C i) [] t)))

  pub strong_no : (U : Tables) → U ≡ took_each sure T (strong_first M W C i) → strong_by M W (row C i) ≡ false
      → U ≡ took_each sure T (strong_first M W C (i + 1))
  unfolding keep
  strong_no U u t =
      u ∙ sym (ap (took_each sure T) (ap (keep (strong_by M W)) rows_more ∙ keep_append (strong_by M W) (map (row C) (below i)) (row C i ∷ [])
      ∙ ap (λ (l : List ℕ). strong_first M W C i ++ l) (keep_no (strong_by M W) (row C i) [] t) ∙ append-nil (strong_first M W C i)))

-- tables with more slots used than there may be stay as they are
pub strong_rest : (M : Measure) (W C : List ℕ) (sure : Bool) (T V : Tables) → room V.entries < V.used → (d i : ℕ)
    → V ≡ took_each sure T (strong_first M W C i) → V ≡ took_each sure T (strong_first M W C (i + d))
strong_rest M W C sure T V h zero i e = e ∙ ap (λ (n : ℕ). took_each sure T (strong_first M W C n)) (let n : i ≡ i + 0 = omega arith in n)
strong_rest M W C sure T V h (suc d) i e =
    go (split (strong_by M W (row C i))) (strong_rest M W C sure T V h d (i + 1))
    ∙ ap (λ (n : ℕ). took_each sure T (strong_first M W C n)) (let n : i + 1 + d ≡ i + suc d = omega arith in n)
  where
    go : (strong_by M W (row C i) ≡ true) ⊎ (strong_by M W (row C i) ≡ false)
        → (V ≡ took_each sure T (strong_first M W C (i + 1)) → V ≡ took_each sure T (strong_first M W C (i + 1 + d)))
        → V ≡ took_each sure T (strong_first M W C (i + 1 + d))
    go (inl t) rest = rest (strong_yes M W C sure T i V e t (row C i) refl V (sym (fitting_over sure V (row C i) h)))
    go (inr t) rest = rest (strong_no M W C sure T i V e t)

-- and so where there are none enough for row i
pub strong_full : (M : Measure) (W C : List ℕ) (sure : Bool) (T V : Tables) (i n : ℕ) → i < n → room V.entries < V.used
    → V ≡ took_each sure T (strong_first M W C (i + 1)) → V ≡ took_each sure T (strong_first M W C n)
strong_full M W C sure T V i n l h e =
    strong_rest M W C sure T V h (n - (i + 1)) (i + 1) e
    ∙ ap (λ (m : ℕ). took_each sure T (strong_first M W C m)) (let m : i + 1 + (n - (i + 1)) ≡ n = omega arith in m)

-- the tables of u have the strong ones of the first i rows more than those of t
abbrev pub HaveFirst : Measure → List ℕ → List ℕ → Bool → SlotList → ℕ → SlotList → Type 0
HaveFirst M W C sure t i u = SameSlots t u × (slots_of u ≡ took_each sure (slots_of t) (strong_first M W C i))

pub have_same : (M : Measure) (W C : List ℕ) (sure : Bool) (t : SlotList) (i : ℕ) (u v : SlotList) → u ≡ v → HaveFirst M W C sure t i v
    → HaveFirst M W C sure t i u
have_same M W C sure t i u v e h = subst (λ (x : SlotList). HaveFirst M W C sure t i x) (sym e) h
