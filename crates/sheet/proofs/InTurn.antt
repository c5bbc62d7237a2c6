-- Links checked one after the other with rows of neighbours and the last weight: what holds before each, and where the first refusal stands.
-- The links of a sheet and of a network's lists alike. Assumes nothing.
use mathlib.Core.Path.{◌≡◌, refl, sym, ap, ◌∙◌, subst⁻¹}
use mathlib.Core.Logic.{◌⊎◌, inl, inr}
use mathlib.Core.List.{[], List, ◌∷◌, ◌++◌}
use Prim.Native.Nat.{ℕ, ◌+◌, ◌<◌, ◌≤◌}
use native.Mathlib.Omega.{arith}
use native.Mathlib.Numerals.{add-one}
use Rattle.answers.specs.Verdict.{Verdict, accepted, refused, in_order}
use Rattle.std.specs.Prelude.{Result, Ok, Err}
use Rattle.answers.specs.declared.fault.Fault.{Fault}
use Rattle.answers.specs.declared.fault.Fault.TheVariants.{Mark}
use Rattle.answers.specs.Faults.{number_of}
use Rattle.answers.specs.Model.{fault_number}
use Rattle.answers.proofs.Laws.{order_each, order_all, order_stop}
use Rattle.sets.specs.Value.{width, no_rows}
use Rattle.sets.proofs.Tests.{same_or_not}
use Rattle.percolation.specs.Links.{Link}
use Rattle.percolation.specs.Steps.{check_link}
use Rattle.percolation.proofs.Accepted.{good_parts_lem}
use Rattle.checks.specs.Neighbours.{Neighbours, last_weight}
use Rattle.checks.specs.Model.{marked, link_number}
use Rattle.checks.proofs.Near.{near_none, near_more, last_more}
use Rattle.checks.proofs.Numbers.{numbered, numbered_0, link_says, number_parts}
use Rattle.sheet.specs.Sheet.{list_of}
use Rattle.sheet.proofs.Lists.{list_of_none, list_of_more}

-- every fault has a number
fault_numbered : (x : Fault) (a : ℕ) → numbered (number_of x) a ≡ refused (number_of x) a
unfolding numbered
fault_numbered x a = elim x as (λ y. numbered (number_of y) a ≡ refused (number_of y) a) [ Mark ↦ refl | _ ↦ refl ]

-- the check of link j of those that f gives
abbrev pub check_of : (ℕ → Link) → (ℕ → ℕ) → ℕ → ℕ → Verdict
check_of f place p j = check_link p (list_of f j) (f j) (place j)

-- the first j links passed, and stand in the rows R, with the last weight w
pub record Passed (f : ℕ → Link) (place : ℕ → ℕ) (p j : ℕ) (R : List ℕ) (w : ℕ) : Type 0 where
  pub near : Neighbours (list_of f j) R
  pub last : w ≡ last_weight (list_of f j)
  pub each : in_order (check_of f place p) j ≡ accepted

pub passed_none : (f : ℕ → Link) (place : ℕ → ℕ) (p : ℕ) → Passed f place p 0 no_rows 65535
unfolding last_weight in_order
passed_none f place p = record {
  near = subst⁻¹ (λ (L : List Link). Neighbours L no_rows) (list_of_none f) near_none;
  last = sym (ap last_weight (list_of_none f));
  each = refl;
}

module _ (f : ℕ → Link) (place : ℕ → ℕ) (p j : ℕ) (R : List ℕ) (w : ℕ) (fits : p ≤ width) (k : Passed f place p j R w)
    (l : Link) (same : l ≡ f j) (small : l.weight < 65536) (r : Result Unit Fault) (says : fault_number r ≡ link_number p R w l) where
  spoken : check_of f place p j ≡ numbered (fault_number r) (place j)
  spoken =
      ap (λ (x : Link). check_link p (list_of f j) x (place j)) (sym same)
      ∙ link_says p (list_of f j) R l (place j) fits k.near small
      ∙ ap (λ (n : ℕ). numbered n (place j)) (ap (λ (v : ℕ). link_number p R v l) (sym k.last) ∙ sym says)

  -- a fault is the first refusal
  pub passed_stop : (x : Fault) → r ≡ Err x → (m : ℕ) → j < m → in_order (check_of f place p) m ≡ refused (number_of x) (place j)
  passed_stop x e m h =
      order_stop (check_of f place p) m j (number_of x) (place j) h k.each
      (spoken ∙ ap (λ (y : Result Unit Fault). numbered (fault_number y) (place j)) e ∙ fault_numbered x (place j))

  -- where there is none the link is taken in
  pub passed_more : r ≡ Ok tt → Passed f place p (j + 1) (marked R l.low l.high) l.weight
  unfolding in_order
  passed_more ok =
      let g = good_parts_lem p l (number_parts p R w l (sym says ∙ ap fault_number ok)) in
      let more : list_of f j ++ (l ∷ []) ≡ list_of f (j + 1) = ap (λ (x : Link). list_of f j ++ (x ∷ [])) same ∙ sym (list_of_more f j) ∙ ap (list_of f) (sym (add-one j)) in
      let h : l.high < width = omega (arith, g.1) in
      record {
        near = subst⁻¹ (λ (L : List Link). Neighbours L (marked R l.low l.high)) (sym more) (near_more (list_of f j) R l k.near (omega (arith, g.0)) h);
        last = sym (last_more (list_of f j) l) ∙ ap last_weight more;
        each = order_all (check_of f place p) (j + 1) (λ i b. pick i b (same_or_not i j));
      }
    where
      pick : (i : ℕ) → i < j + 1 → (i ≡ j) ⊎ (i ≡ j → ⊥) → check_of f place p i ≡ accepted
      pick i b (inl e) = ap (check_of f place p) e ∙ spoken ∙ numbered_0 (fault_number r) (place j) (ap fault_number ok)
      pick i b (inr n) = order_each (check_of f place p) j k.each i (omega arith)
