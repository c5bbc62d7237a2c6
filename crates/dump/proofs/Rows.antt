-- The rows of a dump, one after the other: checked, and counted in. Assumes nothing.
use mathlib.Core.Path.{◌≡◌, refl, sym, ap, ap₂, ◌∙◌, subst}
use mathlib.Core.Bool.{Bool, true, false}
use mathlib.Core.List.{List, [], ◌∷◌, ◌++◌}
use Prim.Native.Nat.{ℕ, min, ◌+◌, ◌-◌, ◌^◌, ◌≤◌, ◌<◌}
use native.Mathlib.Nat.{mul-le-mul}
use lib.ListN.{get_or}
use native.Mathlib.Omega.{arith}
use native.Mathlib.Numerals.{add-one}
use Rattle.answers.specs.Verdict.{accepted, refused, in_order}
use Rattle.answers.proofs.Laws.{then_both, last_go, last_stop, order_stop}
use Rattle.sets.specs.Sets.{full, size, sub}
use Rattle.sets.proofs.Laws.{size_le}
use Rattle.dump_theory.specs.Rows.{pairs_in}
use Rattle.sets.specs.Value.{width}
use Rattle.sheet.specs.Sheet.{list_of}
use Rattle.sheet.proofs.Lists.{list_of_none, list_of_more, list_of_length}
use Rattle.dump_theory.specs.Model.{Counts, Room, counted}
use Rattle.dump_theory.proofs.Counted.{counts_more, counts_room}
use Rattle.dump.specs.Dump.{dump_parts, rows_in, row_at, row_of, tripped, check_row}

module _ (d : List ℕ) where
  -- ---- 18

  -- the code's test of a row
  pub row_test : (b : Bool) (i p s all : ℕ) → p ≡ dump_parts d → p ≤ 64 → all ≡ full (min p width) → s ≡ row_of d i → b ≡ sub s all
      → b ≡ sub (row_of d i) (full (dump_parts d))
  row_test b i p s all e h a r t = let m : min p width ≡ dump_parts d = omega arith in t ∙ ap₂ sub r (a ∙ ap full m)

  pub rows_none : in_order (check_row d) 0 ≡ accepted
  unfolding in_order
  rows_none = refl

  pub rows_passed : (i : ℕ) → in_order (check_row d) i ≡ accepted → check_row d i ≡ accepted → in_order (check_row d) (i + 1) ≡ accepted
  unfolding in_order
  rows_passed i e t = ap (in_order (check_row d)) (add-one i) ∙ then_both (in_order (check_row d) i) (check_row d i) e t

  pub rows_more : (i : ℕ) → in_order (check_row d) i ≡ accepted → sub (row_of d i) (full (dump_parts d)) ≡ true → in_order (check_row d) (i + 1) ≡ accepted
  unfolding check_row
  rows_more i e t = rows_passed i e (last_go (sub (row_of d i) (full (dump_parts d))) 18 (row_at d i) t)

  pub rows_stop : (n i : ℕ) → i < n → in_order (check_row d) i ≡ accepted → sub (row_of d i) (full (dump_parts d)) ≡ false
      → in_order (check_row d) n ≡ refused 18 (row_at d i)
  unfolding check_row
  rows_stop n i h e t = order_stop (check_row d) n i 18 (row_at d i) h e (last_stop (sub (row_of d i) (full (dump_parts d))) 18 (row_at d i) t)

  -- ---- counted in

  pub counted_start : (C : List ℕ) → Counts [] C → Counts (list_of (row_of d) 0) C
  counted_start C c = subst (λ (R : List ℕ). Counts R C) (sym (list_of_none (row_of d))) c

  pub counted_room : (i s : ℕ) (C : List ℕ) → i < 65535 → s < 2 ^ 64 → Counts (list_of (row_of d) i) C → Room 65535 C s
  counted_room i s C h fits c = counts_room (list_of (row_of d) i) C s 65535 c fits (omega (arith, list_of_length (row_of d) i))

  pub counted_more : (i s : ℕ) (C D : List ℕ) → s ≡ row_of d i → D ≡ counted C s → Counts (list_of (row_of d) i) C → Counts (list_of (row_of d) (i + 1)) D
  counted_more i s C D e g c =
      let more : list_of (row_of d) i ++ (s ∷ []) ≡ list_of (row_of d) (i + 1) =
      ap (λ (x : ℕ). list_of (row_of d) i ++ (x ∷ [])) e ∙ sym (list_of_more (row_of d) i) ∙ ap (list_of (row_of d)) (sym (add-one i)) in
      subst (λ (R : List ℕ). Counts R D) more (subst (Counts (list_of (row_of d) i ++ (s ∷ []))) (sym g) (counts_more (list_of (row_of d) i) C s c))

  pub counted_last : (i : ℕ) (C : List ℕ) → i ≡ rows_in d → Counts (list_of (row_of d) i) C → Counts (tripped d) C
  unfolding tripped
  counted_last i C e c = subst (λ (R : List ℕ). Counts R C) (ap (list_of (row_of d)) e) c

-- ---- how many pairs a row can have

pub row_fits : (d : List ℕ) → ((j : ℕ) → get_or d j 0 < 256) → (i : ℕ) → row_of d i < 2 ^ 64
row_fits d h i =
    let a = row_at d i in
    omega (arith, h a, h (a + 1), h (a + 2), h (a + 2 + 1), h (a + 4), h (a + 4 + 1), h (a + 4 + 2), h (a + 4 + 2 + 1))

pub pairs_few : (s : ℕ) → s < 2 ^ 64 → pairs_in s ≤ 65535
unfolding pairs_in
pairs_few s h =
    let k : size s ≤ 64 = size_le 64 s h in
    let m : size s - 1 ≤ 63 = omega arith in omega (arith, mul-le-mul k m)
