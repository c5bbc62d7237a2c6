-- A clique taken in part by part, the lowest first. Assumes nothing.
use mathlib.Core.Path.{◌≡◌, refl, sym, ap, ap₂, ◌∙◌}
use mathlib.Core.Bool.{Bool, true, false, cond}
use mathlib.Core.Logic.{◌⊎◌, inl, inr}
use mathlib.Core.List.{List, [], ◌∷◌}
use Prim.Native.Nat.{ℕ, ◌<◌, ◌≤◌, ◌^◌}
use borrow.Author.Tests.{eqb-true, eqb-false}
use lib.Dec.{eqb}
use Rattle.sets.specs.Sets.{has, out, lowest, members}
use Rattle.sets.specs.Value.{width}
use Rattle.sets.proofs.Tests.{split}
use Rattle.sets.proofs.Laws.{has_empty, out_old}
use Rattle.sets.proofs.Members.{members_none, members_next}
use Rattle.slots.specs.Tables.{Tables, room}
use Rattle.slots.specs.Model.{find, took_part, took_parts, touched, took_in}
use Rattle.slots.proofs.Cases.{placed_none, joined_idle, touched_idle}

-- the code's lowest part, at a set that has parts
answer_is : (n q : ℕ) → eqb n 0 ≡ false → q ≡ cond (eqb n 0) width (lowest n) → q ≡ lowest n
answer_is n q t e = e ∙ ap (λ (x : Bool). cond x width (lowest n)) t

-- the code's sub-clique without the lowest part; of the empty set that is the empty set
pub peeled : (n q s : ℕ) → q ≡ cond (eqb n 0) width (lowest n) → s ≡ out q n → s ≡ out (lowest n) n
peeled n q s e d = d ∙ go (split (eqb n 0))
  where
    go : (eqb n 0 ≡ true) ⊎ (eqb n 0 ≡ false) → out q n ≡ out (lowest n) n
    go (inl t) = let none : (r : ℕ) → has r n ≡ false = λ r. ap (has r) (eqb-true n 0 t) ∙ has_empty r in out_old q n (none q) ∙ sym (out_old (lowest n) n (none (lowest n)))
    go (inr t) = ap (λ (x : ℕ). out x n) (answer_is n q t e)

-- one part more, and none
pub took_more : (f Q q : ℕ) (l m : List ℕ) (T U : Tables) → l ≡ q ∷ m → U ≡ took_part f Q q T → took_parts f Q l T ≡ took_parts f Q m U
unfolding took_parts
took_more f Q q l m T U e p = rw (e, p)

pub took_none : (f Q : ℕ) (l : List ℕ) (T : Tables) → l ≡ [] → took_parts f Q l T ≡ T
unfolding took_parts
took_none f Q l T e = rw e

pub peel_end : (f Q n : ℕ) (T : Tables) → eqb n 0 ≡ true → took_parts f Q (members width n) T ≡ T
unfolding took_parts
peel_end f Q n T e = ap (λ (l : List ℕ). took_parts f Q l T) (ap (members width) (eqb-true n 0 e) ∙ members_none width)

-- the rest after its lowest part q
module _ (n q m : ℕ) (some : eqb n 0 ≡ false) (e : q ≡ cond (eqb n 0) width (lowest n)) (d : m ≡ out q n) where
  pub peel_next : (f Q : ℕ) (T U : Tables) → n < 2 ^ width → U ≡ took_part f Q q T → took_parts f Q (members width n) T ≡ took_parts f Q (members width m) U
  unfolding took_parts
  peel_next f Q T U h p =
      let low : q ≡ lowest n = answer_is n q some e in
      ap (λ (l : List ℕ). took_parts f Q l T) (members_next width n (eqb-false n 0 some) h)
      ∙ ap₂ (λ (x : ℕ) (W : Tables). took_parts f Q (members width x) W) (sym (peeled n q m e d)) (ap (λ (x : ℕ). took_part f Q x T) (sym low) ∙ sym p)

-- the whole: its parts, and then the clique itself
pub took_in_lem : (Q f s : ℕ) (T U W : Tables) → s ≡ out (lowest Q) Q → f ≡ find T.sets T.used s → U ≡ took_parts f Q (members width Q) T → W ≡ touched U f Q → W ≡ took_in T Q
unfolding took_in
took_in_lem Q f s T U W d at p e =
    e ∙ ap (λ (X : Tables). touched X f Q) p
    ∙ ap (λ (x : ℕ). touched (took_parts x Q (members width Q) T) x Q) (at ∙ ap (find T.sets T.used) d)

-- where no slot is free and none holds the first of its sub-cliques, nothing changes
module _ (T : Tables) (f Q : ℕ) (absent : T.used ≤ f) (full : room T.entries ≤ T.used) where
  part_full : (q : ℕ) → took_part f Q q T ≡ T
  unfolding took_part
  part_full q = rw (placed_none T (out q Q) Q full) (joined_idle T f _ (inl absent))

  parts_full : (qs : List ℕ) → took_parts f Q qs T ≡ T
  unfolding took_parts
  parts_full [] = refl
  parts_full (q ∷ qs) = rw (part_full q) (parts_full qs)

  pub took_full : f ≡ find T.sets T.used (out (lowest Q) Q) → took_in T Q ≡ T
  unfolding took_in
  took_full e =
      ap (λ (x : ℕ). touched (took_parts x Q (members width Q) T) x Q) (sym e)
      ∙ ap (λ (U : Tables). touched U f Q) (parts_full (members width Q))
      ∙ touched_idle T f Q absent
