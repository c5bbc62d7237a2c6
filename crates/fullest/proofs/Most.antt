-- No sheet of a part count needs more slots than the fullest one at t 1, and that need is the slot bound. Assumes nothing.
use mathlib.Core.Path.{◌≡◌, refl, sym, ap, ap₂, ◌∙◌}
use mathlib.Core.Logic.{◌⊎◌, inl, inr}
use mathlib.Core.Bool.{true, ◌&&◌}
use mathlib.Core.List.{List}
use Prim.Native.Nat.{ℕ, suc, ◌-◌, ◌≤◌, ◌<◌}
use native.Mathlib.Omega.{arith}
use lib.Dec.{eqb, leb}
use lib.ListN.{length}
use borrow.Author.Tests.{eqb-true, eq-eqb, ltb-true}
use Rattle.answers.specs.Verdict.{accepted}
use Rattle.sets.specs.Lists.{◌∈◌, any}
use Rattle.sets.specs.Sets.{has, full, into, size, sub, sets_of}
use Rattle.sets.proofs.Tests.{lt_or_le, and_intro}
use Rattle.sets.proofs.ListLaws.{any_at, keep_at, keep_le, below_length}
use Rattle.sets.proofs.Laws.{size_meet_l}
use Rattle.sets.proofs.Members.{has_full, sets_of_lem, members_length, members_within}
use Rattle.sets.proofs.Parts.{into_sub, into_cases, outside, size_more}
use Rattle.percolation.specs.Links.{Link, link, heavy, joins, linked, family, cliques, slot_sets, slots}
use Rattle.percolation.specs.Ranges.{narrow_count, good_k}
use Rattle.percolation.proofs.Families.{cliques_of, cliques_at, in_sets, sets_part, linked_sym, joins_own}
use Rattle.percolation.proofs.Ranges.{good_k_lem}
use Rattle.subsets.specs.Subsets.{subset_count, slot_bound}
use Rattle.subsets.proofs.Bound.{bound_enough}
use Rattle.subsets.proofs.Checks.{bound_over, bound_in}
use Rattle.sheet.specs.Sheet.{parts, links_of, check_sheet}
use Rattle.sheet.proofs.Sound.{sheet_count}
use Rattle.made.specs.Made.{weighed}
use Rattle.made.proofs.Weighed.{weighed_at}
use Rattle.runs.specs.OnSheet.{slots_for}
use Rattle.fullest.specs.Fullest.{full_links, full_sheet}
use Rattle.fullest.proofs.Full.{fullest_read}

full_size : (p : ℕ) → size (full p) ≡ p
full_size p =
    sym (members_length p (full p) (sets_of_lem p (full p) (in_sets p (full p) (λ q t. ltb-true q p (sym (has_full q p) ∙ t)))))
    ∙ ap length (members_within p p (omega arith)) ∙ below_length p

-- the k-cliques of any links need no more than the bound
links_bound : (L : List Link) (p k : ℕ) → slots p k (cliques L p k) ≤ slot_bound p k
links_bound L p k = bound_enough p k (cliques L p k) (λ s m. let c = cliques_of L p k m in (c.sized, in_sets p s c.fits))

module _ (p : ℕ) where
  -- all links of weight 1 or more: all pairs
  abbrev L : List Link
  L = heavy 1 (full_links p)

  pair : (q r : ℕ) → q < r → r < p → linked L q r ≡ true
  unfolding linked heavy full_links
  pair q r l h =
      any_at (joins q r) L (keep_at (λ m. leb 1 m.weight) (weighed (λ x y. 1) p) (weighed_at (λ x y. 1) p q r l h (omega arith)) refl)
      (joins_own (link q r 1))

  both : (q r : ℕ) → (q ≡ r → ⊥) → q < p → r < p → linked L q r ≡ true
  both q r apart a b = pick (lt_or_le q r)
    where
      pick : (q < r) ⊎ (r ≤ q) → linked L q r ≡ true
      pick (inl l) = pair q r l b
      pick (inr l) = linked_sym L r q (pair r q (lower (lt_or_le r q)) a)
        where
          lower : (r < q) ⊎ (q ≤ r) → r < q
          lower (inl g) = g
          lower (inr g) = absurd (apart (omega arith))

  -- every set of parts is a clique
  all_clique : (k s : ℕ) → size s ≡ k → ((q : ℕ) → has q s ≡ true → q < p) → s ∈ cliques L p k
  all_clique k s e fits = cliques_at L p k s (record { fits = fits; sized = e; each = λ q r n t u. both q r n (fits q t) (fits r u) })

  module _ (k : ℕ) (low : 1 ≤ k) (most : k ≤ p) where
    -- a set of k - 1 parts lies in one of k
    slot : (s : ℕ) → s ∈ sets_of p → eqb (size s) (k - 1) ≡ true → eqb (suc (size s)) k && any (sub s) (cliques L p k) ≡ true
    slot s m e =
        let few : size s ≡ k - 1 = eqb-true (size s) (k - 1) e in
        let next : suc (size s) ≡ k = omega arith in
        let free = outside s (full p) (omega (arith, size_meet_l s (full p), full_size p)) in
        let q = free.0 in
        let more : size (into q s) ≡ k = size_more q s free.2 ∙ next in
        let in_p : q < p = ltb-true q p (sym (has_full q p) ∙ free.1) in
        and_intro (eqb (suc (size s)) k) (any (sub s) (cliques L p k)) (eq-eqb (suc (size s)) k next)
        (any_at (sub s) (cliques L p k) (all_clique k (into q s) more (λ r t. inside q in_p r (into_cases q r s t))) (into_sub q s))
      where
        inside : (q : ℕ) → q < p → (r : ℕ) → (r ≡ q) ⊎ (has r s ≡ true) → r < p
        inside q h r (inl y) = omega (arith, h, y)
        inside q h r (inr t) = sets_part p s m r t

    slots_all : subset_count p (k - 1) ≤ slots p k (cliques L p k)
    unfolding subset_count slots slot_sets
    slots_all = keep_le (λ s. eqb (size s) (k - 1)) (λ s. eqb (suc (size s)) k && any (sub s) (cliques L p k)) (sets_of p) slot

  full_slots : (k : ℕ) → 1 ≤ k → slots p k (cliques L p k) ≡ slot_bound p k
  full_slots k low = pick (lt_or_le p k)
    where
      pick : (p < k) ⊎ (k ≤ p) → slots p k (cliques L p k) ≡ slot_bound p k
      pick (inl h) = omega (arith, links_bound L p k, bound_over p k h)
      pick (inr h) = omega (arith, links_bound L p k, bound_in p k h, slots_all k low h)

-- what the fullest sheet needs at t 1 is the slot bound
pub fullest_bound : (p k : ℕ) → narrow_count p ≡ true → good_k k ≡ true → slots_for (full_sheet p) k 1 ≡ slot_bound p k
unfolding slots_for family
fullest_bound p k good g =
    let r = fullest_read p good in
    ap₂ (λ (n : ℕ) (K : List Link). slots n k (cliques (heavy 1 K) n k)) r.1 r.2 ∙ full_slots p k (omega (arith, good_k_lem k g))

-- and no sheet of as many parts needs more, at any threshold
pub fullest_most : (s : List ℕ) (k t : ℕ) → check_sheet s ≡ accepted → good_k k ≡ true → slots_for s k t ≤ slots_for (full_sheet (parts s)) k 1
unfolding slots_for family
fullest_most s k t e g =
    let b : slots_for (full_sheet (parts s)) k 1 ≡ slot_bound (parts s) k = fullest_bound (parts s) k (sheet_count s e) g in
    let a : slots_for s k t ≤ slot_bound (parts s) k = links_bound (heavy t (links_of s)) (parts s) k in
    omega (arith, a, b)
