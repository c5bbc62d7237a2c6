-- No family needs more slots than the slot bound, and C(64, 5). Assumes nothing.
use mathlib.Core.Bool.{Bool, ◌&&◌}
use mathlib.Core.List.Memᴰ
use mathlib.Core.List.{List, [], ◌∷◌}
use mathlib.Core.Path.{◌≡◌, refl, sym, ap, ◌∙◌}
use mathlib.Core.Logic.{◌⊎◌, inl, inr}
use Prim.Native.Nat.{ℕ, zero, suc, ◌-◌, ◌≤◌, ◌<◌}
use native.Mathlib.Omega.{arith}
use lib.Dec.{eqb, eqb-suc-zero, eqb-suc-suc}
use Rattle.sets.specs.Lists.{◌∈◌, any}
use Rattle.sets.specs.Sets.{size, sub, sets_of}
use Rattle.sets.proofs.Tests.{lt_or_le, and_left}
use Rattle.sets.proofs.ListLaws.{keep_le, keep_none}
use Rattle.sets.proofs.Laws.{size_le}
use Rattle.sets.proofs.Members.{sets_of_lem}
use Rattle.percolation.specs.Links.{slot_sets, slots}
use Rattle.percolation.proofs.Accepted.{slots_none}
use Rattle.subsets.specs.Subsets.{subset_count, slot_bound}
use Rattle.subsets.proofs.Checks.{bound_in}
use Rattle.subsets.proofs.Formula.{formula, count_formula}

-- a slot is a set of k parts
pub slots_bound : (p k : ℕ) (F : List ℕ) → slots p (suc k) F ≤ subset_count p k
unfolding slots slot_sets subset_count
slots_bound p k F =
    keep_le (λ s. eqb (suc (size s)) (suc k) && any (sub s) F) (λ s. eqb (size s) k) (sets_of p)
    (λ s m t. sym (eqb-suc-suc (size s) k) ∙ and_left (eqb (suc (size s)) (suc k)) (any (sub s) F) t)

-- sets of no parts have no slot
slots_zero : (p : ℕ) (F : List ℕ) → slots p 0 F ≡ 0
unfolding slots slot_sets
slots_zero p F =
    keep_none (λ s. eqb (suc (size s)) 0 && any (sub s) F) (sets_of p)
    (λ s m. ap (λ (t : Bool). t && any (sub s) F) (eqb-suc-zero (size s)))

-- for a family of sets of k parts below p the slot bound is enough
pub bound_enough : (p k : ℕ) (F : List ℕ) → ((s : ℕ) → s ∈ F → (size s ≡ k) × s ∈ sets_of p) → slots p k F ≤ slot_bound p k
bound_enough p zero F h = omega (arith, slots_zero p F)
bound_enough p (suc k) F h = go (lt_or_le p (suc k)) F h
  where
    go : (p < suc k) ⊎ (suc k ≤ p) → (F : List ℕ) → ((s : ℕ) → s ∈ F → (size s ≡ suc k) × s ∈ sets_of p) → slots p (suc k) F ≤ slot_bound p (suc k)
    go (inl m) [] h = omega (arith, slots_none p (suc k))
    go (inl m) (s ∷ F) h = let r = h s (Memᴰ.head refl) in absurd (omega (arith, size_le p s (sets_of_lem p s r.1)))
    go (inr m) F h =
        let e : suc k - 1 ≡ k = omega arith in
        omega (arith, slots_bound p k F, bound_in p (suc k) m, ap (subset_count p) e)

-- C(64, 5), the slot bound for p 64 and k 6
pub count_64_5 : subset_count 64 5 ≡ 7624512
unfolding formula
count_64_5 = count_formula 64 5
