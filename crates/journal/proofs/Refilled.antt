-- Tables without the last link: as they are where it made no k-clique, else made again. Assumes nothing.
use mathlib.Core.Path.{◌≡◌, refl, sym, ap, ap₂, ◌∙◌}
use mathlib.Core.Bool.{Bool, true, false, cond}
use mathlib.Core.List.{List, [], ◌∷◌}
use Prim.Native.Nat.{ℕ, zero, suc, ◌+◌, ◌-◌, min}
use native.Mathlib.Omega.{arith}
use lib.Dec.{eqb}
use lib.ListN.{length, get_or, take, length-append}
use borrow.Author.Tests.{eqb-true, eq-eqb}
use Rattle.sets.specs.Sets.{has, meet, into, one, members}
use Rattle.sets.specs.Value.{width, row, no_rows}
use Rattle.sets.proofs.Laws.{has_empty}
use Rattle.sets.proofs.Parts.{same_parts, meet_l}
use Rattle.sets.proofs.Tests.{never, iff}
use Rattle.percolation.specs.Links.{Link}
use Rattle.slots.specs.Tables.{Tables}
use Rattle.search.specs.Model.{over_each, sum_each, near, found, counted, between, new_cliques, cap}
use Rattle.slots.specs.declared.Lent.{Lent}
use Rattle.slots.specs.Lent.{tables_of}
use Rattle.runs.specs.Lent.{cleared}
use Rattle.runs.specs.Model.{took_links}
use Rattle.journal.specs.Model.{entry_link, readable, makes_none, refilled}

-- ---- all cliques counted: no part is asked to extend them

meet_empty : (x : ℕ) → meet 0 x ≡ 0
meet_empty x = same_parts (meet 0 x) 0 (λ q. meet_l q 0 x) (λ q h. never (has q 0) h (has_empty q))

pub all_counted : (R : List ℕ) (w : ℕ) (C : List ℕ) (t : ℕ) → counted false R w C 0 ≡ length (found R w C t)
unfolding counted found
all_counted R zero C t = refl
all_counted R (suc w) C t = each (all_counted R w) C
  where
    each : ((D : List ℕ) (s : ℕ) → counted false R w D 0 ≡ length (found R w D s)) → (B : List ℕ)
        → sum_each (λ q D. counted false R w (near R q D) (meet 0 (row R q))) B ≡ length (over_each (λ q D. found R w (near R q D) (into q t)) B)
    each ih [] = refl
    each ih (q ∷ B) =
        ap₂ ◌+◌ (ap (counted false R w (near R q B)) (meet_empty (row R q)) ∙ ih (near R q B) (into q t)) (each ih B)
        ∙ sym (length-append (found R w (near R q B) (into q t)) (over_each (λ p D. found R w (near R p D) (into p t)) B))

pub none_made : (R : List ℕ) (k e : ℕ) (l : Link) → l ≡ entry_link e → (x y c : ℕ) → x ≡ meet (row R l.low) (row R l.high) → y ≡ 0
    → c ≡ min (counted false R (k - 2) (members width x) y) cap → eqb c 0 ≡ makes_none R k e
unfolding makes_none new_cliques between
none_made R k e l link_is x y c ex ey ec =
    same ∙ ap (λ (m : Link). eqb (length (found R (k - 2) (members width (meet (row R m.low) (row R m.high))) (into m.high (one m.low)))) 0) link_is
  where
    n : ℕ
    n = length (found R (k - 2) (members width (meet (row R l.low) (row R l.high))) (into l.high (one l.low)))

    is : c ≡ min n cap
    is =
        ec
        ∙ (λ i. min (counted false R (k - 2) (members width (ex i)) (ey i)) cap)
        ∙ ap (λ (z : ℕ). min z cap) (all_counted R (k - 2) (members width (meet (row R l.low) (row R l.high))) (into l.high (one l.low)))

    same : eqb c 0 ≡ eqb n 0
    same = iff (eqb c 0) (eqb n 0) (λ t. eq-eqb n 0 (omega (arith, eqb-true c 0 t, is))) (λ t. eq-eqb c 0 (omega (arith, eqb-true n 0 t, is)))

pub length_none : (l : List ℕ) → length l ≡ 0 → l ≡ []
length_none [] e = refl
length_none (x ∷ l) e = let z : ⊥ = omega (arith, e) in absurd z

-- ---- both ways

module _ (p k : ℕ) (R : List ℕ) (T : Tables) (J : List ℕ) (n : ℕ) where
  pub refill_kept : makes_none R k (get_or J n 0) ≡ true → refilled p k R T J n ≡ T
  unfolding refilled
  refill_kept t = ap (λ (b : Bool). cond b T (took_links k no_rows (cleared T) (readable p (take n J)))) t

  pub refill_made : makes_none R k (get_or J n 0) ≡ false → refilled p k R T J n ≡ took_links k no_rows (cleared T) (readable p (take n J))
  unfolding refilled
  refill_made t = ap (λ (b : Bool). cond b T (took_links k no_rows (cleared T) (readable p (take n J)))) t

-- as the code has them
module _ (p k : ℕ) (R : List ℕ) (l : Lent) (used : ℕ) (J : List ℕ) (n x : ℕ) (at : x ≡ get_or J n 0) where
  pub code_kept : true ≡ makes_none R k x → tables_of l used ≡ refilled p k R (tables_of l used) J n
  code_kept t = sym (refill_kept p k R (tables_of l used) J n (ap (makes_none R k) (sym at) ∙ sym t))

  pub code_made : false ≡ makes_none R k x → (C U : Tables) (Q : List ℕ) → C ≡ cleared (tables_of l 0) → Q ≡ no_rows
      → U ≡ took_links k Q C (readable p (take n J)) → U ≡ refilled p k R (tables_of l used) J n
  unfolding cleared
  code_made t C U Q c q f =
      f ∙ ap₂ (λ (X : List ℕ) (Y : Tables). took_links k X Y (readable p (take n J))) q c
      ∙ sym (refill_made p k R (tables_of l used) J n (ap (makes_none R k) (sym at) ∙ sym t))
