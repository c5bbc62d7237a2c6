-- A set more in the row of each of its parts, one part after the other. Assumes nothing.
use mathlib.Core.Path.{◌≡◌, refl, sym, ap, ap₂, ◌∙◌}
use mathlib.Core.Logic.{◌⊎◌, inl, inr}
use mathlib.Core.Bool.{Bool, true, false, cond, ◌&&◌, ◌||◌, or-false}
use mathlib.Core.List.{List}
use Prim.Native.Nat.{ℕ, ◌<◌, ◌^◌}
use native.Mathlib.Omega.{arith}
use lib.Dec.{eqb}
use lib.ListN.{length}
use borrow.Author.Tests.{eqb-true}
use Rattle.sets.specs.Sets.{has, union, out, lowest}
use Rattle.sets.specs.Value.{width, rows, row, store}
use Rattle.sets.proofs.Tests.{iff, same_or_not}
use Rattle.sets.proofs.Laws.{has_empty, has_union}
use Rattle.sets.proofs.Parts.{out_keeps, out_part, out_lacks}
use Rattle.sets.proofs.Members.{answer_has}
use Rattle.sets.proofs.Tables.{rows_length, length_store, row_store, row_other}
use Rattle.mean.specs.Model.{Gained}

-- what the parts of rest are still to gain, with what the others have gained, is what all parts of s are to gain
pub record Gaining (C : List ℕ) (s rest : ℕ) (D : List ℕ) : Type 0 where
  pub long : length D ≡ length C
  pub holds : (q z : ℕ) → q < rows C → (has z (row D q) || has q rest && has z s) ≡ (has z (row C q) || has q s && has z s)

pub gaining_begin : (C : List ℕ) (s : ℕ) → Gaining C s s C
gaining_begin C s = record { long = refl; holds = λ q z l. refl }

pub gaining_end : (C : List ℕ) (s rest : ℕ) (D : List ℕ) → eqb rest 0 ≡ true → Gaining C s rest D → Gained C s D
gaining_end C s rest D e g = record {
  count = rows_length D C g.long;
  holds = λ q z l.
      sym (ap (λ (b : Bool). has z (row D q) || b && has z s) (ap (has q) (eqb-true rest 0 e) ∙ has_empty q) ∙ or-false (has z (row D q))) ∙ g.holds q z l;
}

-- one part more, the lowest that is left
module _ (C : List ℕ) (s rest : ℕ) (D : List ℕ) (some : eqb rest 0 ≡ false) (g : Gaining C s rest D) (q u m : ℕ) (E : List ℕ)
    (part : q ≡ cond (eqb rest 0) width (lowest rest)) (fits : u < 2 ^ width) (more : u ≡ union (row D q) s) (put : E ≡ store D q u)
    (less : m ≡ out q rest) where
  part_in : has q rest ≡ true
  part_in = answer_has width rest q some part

  pub gaining_next : Gaining C s m E
  gaining_next = record { long = ap length put ∙ length_store D q u ∙ g.long; holds = λ r z l. go r z l (same_or_not r q) ∙ g.holds r z l }
    where
      go : (r z : ℕ) → r < rows C → (r ≡ q) ⊎ (r ≡ q → ⊥) → (has z (row E r) || has r m && has z s) ≡ (has z (row D r) || has r rest && has z s)
      go r z l (inl e) =
          let inside : q < rows D = omega (arith, l, e, rows_length D C g.long) in
          let here : has z (row E r) ≡ has z (row D r) || has z s =
          ap (has z) (ap₂ row put e ∙ row_store D q u inside fits ∙ more) ∙ has_union z (row D q) s ∙ ap (λ (x : ℕ). has z (row D x) || has z s) (sym e) in
          let gone : has r m ≡ false = ap₂ has e less ∙ out_lacks q rest in
          let was : has r rest ≡ true = ap (λ (x : ℕ). has x rest) e ∙ part_in in
          ap₂ (λ (a b : Bool). a || b && has z s) here gone ∙ or-false (has z (row D r) || has z s)
          ∙ sym (ap (λ (b : Bool). has z (row D r) || b && has z s) was)
      go r z l (inr e) =
          let here : has z (row E r) ≡ has z (row D r) = ap (has z) (ap (λ (X : List ℕ). row X r) put ∙ row_other D q r u e) in
          let kept : has r m ≡ has r rest =
          ap (has r) less ∙ iff (has r (out q rest)) (has r rest) (λ t. out_part q r rest t) (λ t. out_keeps q r rest t e) in
          ap₂ (λ (a b : Bool). a || b && has z s) here kept
