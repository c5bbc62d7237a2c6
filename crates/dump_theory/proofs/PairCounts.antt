-- The pairs of parts below p that pass a test, and those whose parts a set holds. Assumes nothing.
use mathlib.Core.Bool.{Bool, true, false, cond, ◌&&◌, and-true}
use mathlib.Core.List.{List, [], ◌∷◌, map, map-map}
use mathlib.Core.Path.{◌≡◌, refl, ap, ◌∙◌}
use Prim.Native.Nat.{ℕ, zero, suc, ◌+◌, ◌-◌, ◌*◌, ◌^◌, ◌<◌}
use native.Mathlib.Nat.{add-mul, mul-add, mul-suc}
use native.Mathlib.Omega.{arith}
use borrow.Author.Tests.{lt-ltb, le-ltb}
use lib.Dec.{ltb}
use lib.ListN.{length, length-map}
use Rattle.sets.specs.Lists.{keep, below}
use Rattle.sets.specs.Sets.{has, size, members}
use Rattle.sets.proofs.Tests.{no_and}
use Rattle.sets.proofs.Members.{member_in, in_member, members_rising, members_length}
use Rattle.sets.proofs.ListLaws.{keep_both, number_order, keep_rising, rising_same, keep_at, keep_of, below_at, below_rising, keep_same, keep_none, keep_map, map_append, map_on, map_same, below_of, below_more}
use Rattle.percolation.specs.Weights.{sum}
use Rattle.made.specs.Made.{pairs_of, pairs}
use Rattle.percolation.proofs.Sums.{sum_append}
use Rattle.dump_theory.specs.Rows.{pairs_in}
use Rattle.dump_theory.proofs.Sums.{count_below, count_flat, sum_add, sum_ones}

-- ---- pairs that pass a test

module _ (f : ℕ → ℕ → Bool) where
  abbrev passes : ℕ × ℕ → Bool
  passes e = f e.0 e.1

  -- those of the lower part l
  abbrev above : ℕ → ℕ → ℕ
  above p l = length (keep (λ h. ltb l h && f l h) (below p))

  lower : (p l : ℕ) → length (keep passes (map (λ h. (l, h)) (keep (ltb l) (below p)))) ≡ above p l
  lower p l =
      ap length (keep_map passes (λ h. (l, h)) (keep (ltb l) (below p)))
      ∙ length-map (keep (f l) (keep (ltb l) (below p))) (λ h. (l, h))
      ∙ ap length (keep_both (ltb l) (f l) (below p))

  by_lower : (p : ℕ) → length (keep passes (pairs p)) ≡ sum (map (above p) (below p))
  unfolding pairs pairs_of
  by_lower p =
      count_flat passes (map (λ l. map (λ h. (l, h)) (keep (ltb l) (below p))) (below p))
      ∙ ap sum (map-map (λ c. length (keep passes c)) (λ l. map (λ h. (l, h)) (keep (ltb l) (below p))) (below p) ∙ map_same _ (above p) (below p) (lower p))

  above_more : (p l : ℕ) → l < p → above (suc p) l ≡ above p l + cond (f l p) 1 0
  above_more p l h =
      count_below (λ x. ltb l x && f l x) p ∙ ap (λ (b : Bool). above p l + cond (b && f l p) 1 0) (lt-ltb l p h)

  above_none : (p : ℕ) → above (suc p) p ≡ 0
  above_none p =
      keep_none (λ h. ltb p h && f p h) (below (suc p))
      (λ h m. let l : h < suc p = below_of (suc p) m in ap (λ (b : Bool). b && f p h) (le-ltb p h (omega arith)))

  -- the pairs of one part more: those there were, and those with the new part
  pub pairs_more : (p : ℕ)
      → length (keep (λ (e : ℕ × ℕ). f e.0 e.1) (pairs (suc p)))
      ≡ length (keep (λ (e : ℕ × ℕ). f e.0 e.1) (pairs p)) + length (keep (λ l. f l p) (below p))
  unfolding sum
  pairs_more p =
      let parted : sum (map (above (suc p)) (below (suc p))) ≡ sum (map (above (suc p)) (below p)) + sum (map (above (suc p)) (p ∷ [])) =
      ap (λ (t : List ℕ). sum (map (above (suc p)) t)) (below_more p) ∙ ap sum (map_append (above (suc p)) (below p) (p ∷ []))
      ∙ sum_append (map (above (suc p)) (below p)) (map (above (suc p)) (p ∷ [])) in
      let each : sum (map (above (suc p)) (below p)) ≡ sum (map (λ l. above p l + cond (f l p) 1 0) (below p)) =
      ap sum (map_on (above (suc p)) (λ l. above p l + cond (f l p) 1 0) (below p) (λ l m. above_more p l (below_of p m))) in
      omega (
        arith,
        by_lower (suc p),
        by_lower p,
        above_none p,
        sum_add (above p) (λ l. cond (f l p) 1 0) (below p),
        sum_ones (λ l. f l p) (below p),
      )

-- ---- how many there are

square : (b : Bool) (h m : ℕ) → h * 2 + m ≡ m * m → (h + cond b m 0) * 2 + (m + cond b 1 0) ≡ (m + cond b 1 0) * (m + cond b 1 0)
square true h m e = omega (arith, add-mul m 1 (m + 1), mul-add m m 1)
square false h m e = let z : m + 0 ≡ m = omega arith in rw z (omega arith)

twice : (h m : ℕ) → h * 2 + m ≡ m * m → h * 2 ≡ m * (m - 1)
twice h zero e = omega arith
twice h (suc m) e = let d : suc m - 1 ≡ m = omega arith in rw d (omega (arith, mul-suc (suc m) m))

-- ---- pairs that a set holds

module _ (s : ℕ) where
  abbrev held : ℕ → ℕ
  held p = length (keep (λ (e : ℕ × ℕ). has e.0 s && has e.1 s) (pairs p))

  abbrev many : ℕ → ℕ
  many p = length (keep (λ q. has q s) (below p))

  with_new : (p : ℕ) (b : Bool) → length (keep (λ l. has l s && b) (below p)) ≡ cond b (many p) 0
  with_new p true = ap length (keep_same (λ l. has l s && true) (λ l. has l s) (below p) (λ l m. and-true (has l s)))
  with_new p false = keep_none (λ l. has l s && false) (below p) (λ l m. no_and (has l s))

  many_more : (p : ℕ) → many (suc p) ≡ many p + cond (has p s) 1 0
  many_more p = count_below (λ q. has q s) p

  held_more : (p : ℕ) → held (suc p) ≡ held p + cond (has p s) (many p) 0
  held_more p = pairs_more (λ l h. has l s && has h s) p ∙ ap (λ (n : ℕ). held p + n) (with_new p (has p s))

  held_none : held 0 * 2 + many 0 ≡ many 0 * many 0
  unfolding pairs pairs_of
  held_none = refl

  -- m parts of s below p: twice their pairs and m are m * m
  held_square : (p : ℕ) → held p * 2 + many p ≡ many p * many p
  held_square zero = held_none
  held_square (suc p) = rw (held_more p, many_more p) (square (has p s) (held p) (many p) (held_square p))

  many_members : (p : ℕ) → keep (λ q. has q s) (below p) ≡ members p s
  many_members p =
      rising_same ltb number_order (keep (λ q. has q s) (below p)) (members p s)
      (keep_rising ltb (λ q. has q s) (below p) (below_rising p)) (members_rising p s)
      (λ q m. let r = keep_of (λ x. has x s) (below p) m in member_in p s q (below_of p r.0) r.1)
      (λ q m. let r = in_member p s q m in keep_at (λ x. has x s) (below p) (below_at q p r.0) r.1)

-- the parts of s are below p: the pairs that s holds
module _ (s p : ℕ) (fits : s < 2 ^ p) where
  pub held_twice : length (keep (λ (e : ℕ × ℕ). has e.0 s && has e.1 s) (pairs p)) * 2 ≡ size s * (size s - 1)
  held_twice = twice (held s p) (size s) (rw (many_members s p, members_length p s fits) at (held_square s p))

  pub held_pairs : length (keep (λ (e : ℕ × ℕ). has e.0 s && has e.1 s) (pairs p)) ≡ pairs_in s
  unfolding pairs_in
  held_pairs = omega (arith, held_twice)
