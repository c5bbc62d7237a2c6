-- The call by its parts: the checks before 15 and what they show, refused before 15, and let through. Assumes nothing.
use mathlib.Core.Path.{◌≡◌, sym, ap, ap₂, ◌∙◌}
use mathlib.Core.Bool.{Bool, true, false, not}
use mathlib.Core.List.{List}
use Prim.Native.Nat.{ℕ}
use lib.Dec.{leb}
use lib.ListN.{length, replicate}
use lib.Ieee.{Float, is_nan}
use Rattle.std.specs.Prelude.{Err}
use Rattle.answers.specs.Verdict.{Verdict, accepted, refused, ◌then◌, unless}
use Rattle.answers.specs.Answers.{Answer}
use Rattle.answers.specs.Faults.{number_of}
use Rattle.answers.specs.declared.Refusal.{Refusal}
use Rattle.answers.proofs.Laws.{then_left, then_right, then_stop, then_go, then_second, then_third, unless_passed}
use Rattle.sets.specs.Value.{rows, sized}
use Rattle.sets.proofs.Tests.{and_left, and_right, and_stop, and_go}
use Rattle.sets.proofs.Tables.{sized_rows}
use Rattle.percolation.specs.Ranges.{good_k}
use Rattle.products.specs.declared.Measure.{Measure}
use Rattle.products.specs.declared.Measure.TheVariants.{Weakest, Product}
use Rattle.sheet.specs.Answers.{SheetSaid, holds, faulty, sheet_say}
use Rattle.sheet.specs.Sheet.{check_sheet}
use Rattle.sheet.proofs.Said.{said_faulty, said_holds}
use Rattle.slots.specs.Tables.{Tables}
use Rattle.clique_list.specs.declared.CliqueList.{CliqueList as LentList}
use Rattle.clique_list.specs.Lent.{SameList}
use Rattle.clique_list.specs.NoProduct.{no_product}
use Rattle.runs.specs.Lent.{level, cleared}
use Rattle.runs.proofs.Calls.{call_stopped, call_ran}
use Rattle.strong_checks.specs.OnSheet.{
  CliqueList,
  clique_list,
  list_of,
  level_all,
  cleared_list,
  left_list,
  check_measure,
  check_strength,
  StrengthRuns,
  StrengthMeets,
}

-- ---- 22 and 23

pub measure_weakest : (k t : ℕ) (M : Measure) → M ≡ Weakest t → accepted ≡ check_measure k M
unfolding check_measure
measure_weakest k t M e = sym (ap (check_measure k) e)

module _ (k : ℕ) (t : Float) (M : Measure) (e : M ≡ Product t) where
  pub measure_stop : (n a : ℕ) → refused n a ≡ unless (leb k 4) 22 0 → refused n a ≡ check_measure k M
  unfolding check_measure
  measure_stop n a f = sym (ap (check_measure k) e ∙ then_stop (unless (leb k 4) 22 0) (unless (not (is_nan t)) 23 0) n a (sym f))

  pub measure_past : accepted ≡ unless (leb k 4) 22 0 → (v : Verdict) (b : Bool) → b ≡ not (is_nan t) → v ≡ unless b 23 0 → v ≡ check_measure k M
  unfolding check_measure
  measure_past f v b number g =
      g ∙ ap (λ (x : Bool). unless x 23 0) number
      ∙ sym (ap (check_measure k) e ∙ then_go (unless (leb k 4) 22 0) (unless (not (is_nan t)) 23 0) (sym f))

-- ---- the checks before 15

module _ (s : List ℕ) (k : ℕ) (M : Measure) (ok : Bool) where
  abbrev from10 : Verdict
  from10 = unless (good_k k) 10 0 then check_measure k M then unless ok 11 0

  pub strength_faulty : (n a : ℕ) → check_sheet s ≡ refused n a → check_strength s k M ok ≡ refused n a
  unfolding check_strength
  strength_faulty n a e = then_stop (check_sheet s) from10 n a e

  module _ (e : check_sheet s ≡ accepted) where
    pub strength_ten : (n a : ℕ) → unless (good_k k) 10 0 ≡ refused n a → check_strength s k M ok ≡ refused n a
    unfolding check_strength
    strength_ten n a f = then_second (check_sheet s) (unless (good_k k) 10 0) (check_measure k M then unless ok 11 0) n a e f

    module _ (ten : unless (good_k k) 10 0 ≡ accepted) where
      pub strength_measure : (n a : ℕ) → check_measure k M ≡ refused n a → check_strength s k M ok ≡ refused n a
      unfolding check_strength
      strength_measure n a f =
          then_third (check_sheet s) (unless (good_k k) 10 0) (check_measure k M then unless ok 11 0) (refused n a) e ten
          (then_stop (check_measure k M) (unless ok 11 0) n a f)

      -- 11, or let through
      pub strength_past : check_measure k M ≡ accepted → (v : Verdict) → unless ok 11 0 ≡ v → check_strength s k M ok ≡ v
      unfolding check_strength
      strength_past m v f =
          then_third (check_sheet s) (unless (good_k k) 10 0) (check_measure k M then unless ok 11 0) v e ten (then_go (check_measure k M) (unless ok 11 0) m ∙ f)

  module _ (e : check_strength s k M ok ≡ accepted) where
    pub strength_sheet : check_sheet s ≡ accepted
    unfolding check_strength
    strength_sheet = then_left (check_sheet s) from10 e

    past9 : from10 ≡ accepted
    unfolding check_strength
    past9 = then_right (check_sheet s) from10 e

    pub strength_k : good_k k ≡ true
    strength_k = unless_passed (good_k k) 10 0 (then_left (unless (good_k k) 10 0) (check_measure k M then unless ok 11 0) past9)

    pub strength_level : ok ≡ true
    strength_level =
        unless_passed ok 11 0
        (then_right (check_measure k M) (unless ok 11 0) (then_right (unless (good_k k) 10 0) (check_measure k M then unless ok 11 0) past9))

-- lists of the right lengths
module _ (C : CliqueList) (T : Tables) (e : level_all C T ≡ true) where
  pub level_tables : level T ≡ true
  unfolding level_all
  level_tables = and_right (sized C.sets (length C.products)) (level T) e

  pub level_rows : rows C.sets ≡ length C.products
  unfolding level_all
  level_rows = sized_rows C.sets (length C.products) (and_left (sized C.sets (length C.products)) (level T) e)

-- the same, test by test as the code does them
module _ (C : CliqueList) (T : Tables) (a : Bool) (same : a ≡ sized C.sets (length C.products)) where
  pub level_both : a ≡ true → (b : Bool) → b ≡ level T → b ≡ level_all C T
  unfolding level_all
  level_both f b e = and_go (sized C.sets (length C.products)) (level T) (sym same ∙ f) e

  pub level_stop : a ≡ false → a ≡ level_all C T
  unfolding level_all
  level_stop f = f ∙ and_stop (sized C.sets (length C.products)) (level T) (sym same ∙ f)

-- ---- the clique list after a call

-- zeroed, it is the same whatever calls wrote to the lent list
pub cleared_same : (l m : LentList) → SameList l m → cleared_list (list_of m) ≡ cleared_list (list_of l)
unfolding cleared_list
cleared_same l m k = λ i. clique_list (replicate (k.cliques_length i) 0) (replicate (k.products_length i) no_product)

pub cleared_both : (C : CliqueList) {s : List ℕ} {v : List Float} → s ≡ replicate (length C.sets) 0 → v ≡ replicate (length C.products) no_product
    → clique_list s v ≡ cleared_list C
unfolding cleared_list
cleared_both C a b = λ i. clique_list (a i) (b i)

list_passed : (v : Verdict) (C : CliqueList) → v ≡ accepted → left_list v C ≡ cleared_list C
unfolding left_list
list_passed v C e = ap (λ (w : Verdict). left_list w C) e

list_refused : (n a : ℕ) (v : Verdict) (C : CliqueList) → v ≡ refused n a → left_list v C ≡ C
unfolding left_list
list_refused n a v C e = ap (λ (w : Verdict). left_list w C) e

-- ---- the whole call

-- what the checks before 15 said of a view of the list and the tables is said of them
pub strength_viewed : (s : List ℕ) (k : ℕ) (M : Measure) (x : SheetSaid) (b : Bool) (C D : CliqueList) (T U : Tables) → b ≡ level_all C T → C ≡ D → T ≡ U
    → x ≡ sheet_say (check_strength s k M b) s → x ≡ sheet_say (check_strength s k M (level_all D U)) s
strength_viewed s k M x b C D T U lev c t said = said ∙ ap (λ (y : Bool). sheet_say (check_strength s k M y) s) (lev ∙ ap₂ level_all c t)

module _ (s : List ℕ) (k : ℕ) (M : Measure) (C : CliqueList) (T : Tables) (old : List ℕ) where
  abbrev before : Verdict
  before = check_strength s k M (level_all C T)

  -- refused before 15: nothing is written
  pub strength_stopped : (f : Refusal) → faulty (number_of f.fault) f.place ≡ sheet_say (check_strength s k M (level_all C T)) s
      → StrengthMeets s k M C T old (Err f) C T old
  strength_stopped f said = record {
    call = call_stopped before _ _ _ T old s f said;
    list = sym (list_refused (number_of f.fault) f.place before C (said_faulty before s (number_of f.fault) f.place said));
  }

  -- let through: what the run gives, and the list and the tables zeroed
  pub strength_ran : (p m : ℕ) → holds p m ≡ sheet_say (check_strength s k M (level_all C T)) s → (r : Answer) (out : List ℕ) (E : CliqueList) (W : Tables)
      → StrengthRuns s k M (length C.products) (length T.entries) old r out → E ≡ cleared_list C → W ≡ cleared T → StrengthMeets s k M C T old r E W out
  strength_ran p m said r out E W y g w = record {
    call = call_ran before _ _ _ T old s p m said r out W y w;
    list = g ∙ sym (list_passed before C (said_holds before s p m said).0);
  }
