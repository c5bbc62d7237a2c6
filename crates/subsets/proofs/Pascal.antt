-- Pascal's rule for the number of r-part subsets. Assumes nothing.
use mathlib.Core.Bool.{Bool, true, false}
use mathlib.Core.Path.{◌≡◌, refl, sym, ap, ◌∙◌}
use mathlib.Core.Logic.{◌⊎◌, inl, inr}
use mathlib.Core.List.{List}
use Prim.Native.Nat.{ℕ, zero, suc, ◌+◌, ◌/◌, ◌^◌}
use native.Mathlib.Nat.{pow-suc}
use native.Mathlib.Omega.{arith}
use lib.Dec.{eqb, eqb-zero-suc, eqb-suc-zero, eqb-suc-suc}
use lib.ListN.{length}
use Rattle.sets.specs.Lists.{keep, from, below}
use Rattle.sets.specs.Sets.{size, sets_of}
use Rattle.sets.proofs.Tests.{split}
use Rattle.sets.proofs.ListLaws.{keep_yes, keep_no}
use Rattle.sets.proofs.Laws.{size_step, size_empty}
use Rattle.sets.proofs.Members.{sets_below}
use Rattle.subsets.specs.Subsets.{subset_count}

-- how many of the n sets from i on have a size that passes g
tally : (ℕ → Bool) → ℕ → ℕ → ℕ
tally g i n = length (keep (λ s. g (size s)) (from i n))

mark : Bool → ℕ
mark true = 1
mark false = 0

tally_end : (g : ℕ → Bool) (i : ℕ) → tally g i 0 ≡ 0
unfolding tally keep from
tally_end g i = refl

tally_step : (g : ℕ → Bool) (i n : ℕ) → tally g i (suc n) ≡ mark (g (size i)) + tally g (suc i) n
unfolding tally mark from
tally_step g i n = go (split (g (size i)))
  where
    go : (g (size i) ≡ true) ⊎ (g (size i) ≡ false) → tally g i (suc n) ≡ mark (g (size i)) + tally g (suc i) n
    go (inl e) = omega (arith, ap length (keep_yes (λ s. g (size s)) i (from (suc i) n) e), ap mark e)
    go (inr e) = omega (arith, ap length (keep_no (λ s. g (size s)) i (from (suc i) n) e), ap mark e)

-- tests that agree at every size
tally_same : (g h : ℕ → Bool) → ((z : ℕ) → g z ≡ h z) → (i n : ℕ) → tally g i n ≡ tally h i n
tally_same g h f i zero = tally_end g i ∙ sym (tally_end h i)
tally_same g h f i (suc n) = omega (arith, tally_step g i n, tally_step h i n, ap mark (f (size i)), tally_same g h f (suc i) n)

tally_none : (i n : ℕ) → tally (λ z. false) i n ≡ 0
unfolding mark
tally_none i zero = tally_end (λ z. false) i
tally_none i (suc n) = omega (arith, tally_step (λ z. false) i n, tally_none (suc i) n)

-- a set's parts each one up, without part 0 and with it
size_even : (i : ℕ) → size (i + i) ≡ size i
size_even i = let h : (i + i) / 2 ≡ i = omega arith in omega (arith, size_step (i + i), ap size h)

size_odd : (i : ℕ) → size (suc (i + i)) ≡ suc (size i)
size_odd i = let h : suc (i + i) / 2 ≡ i = omega arith in omega (arith, size_step (suc (i + i)), ap size h)

-- the sets without part 0, and those with it
tally_double : (g : ℕ → Bool) (i m : ℕ) → tally g (i + i) (m + m) ≡ tally g i m + tally (λ z. g (suc z)) i m
tally_double g i zero = omega (arith, tally_end g (i + i), tally_end g i, tally_end (λ z. g (suc z)) i)
tally_double g i (suc m) =
    let two : suc m + suc m ≡ suc (suc (m + m)) = omega arith in
    let next : suc (suc (i + i)) ≡ suc i + suc i = omega arith in
    omega (
      arith,
      ap (tally g (i + i)) two,
      tally_step g (i + i) (suc (m + m)),
      tally_step g (suc (i + i)) (m + m),
      ap (λ (x : ℕ). tally g x (m + m)) next,
      ap (λ (x : ℕ). mark (g x)) (size_even i),
      ap (λ (x : ℕ). mark (g x)) (size_odd i),
      tally_step g i m,
      tally_step (λ z. g (suc z)) i m,
      tally_double g (suc i) m,
    )

count_tally : (n r : ℕ) → subset_count n r ≡ tally (λ z. eqb z r) 0 (2 ^ n)
unfolding subset_count tally below
count_tally n r = ap (λ (l : List ℕ). length (keep (λ s. eqb (size s) r) l)) (sets_below n)

-- one part more: the subsets without it, and those with it
count_split : (n r : ℕ) → subset_count (suc n) r ≡ subset_count n r + tally (λ z. eqb (suc z) r) 0 (2 ^ n)
count_split n r =
    let twice : 2 ^ suc n ≡ 2 ^ n + 2 ^ n = omega (arith, pow-suc 2 n) in
    omega (arith, count_tally (suc n) r, count_tally n r, ap (tally (λ z. eqb z r) 0) twice, tally_double (λ z. eqb z r) 0 (2 ^ n))

pub count_none : (r : ℕ) → subset_count 0 (suc r) ≡ 0
unfolding mark
count_none r =
    omega (
      arith,
      count_tally 0 (suc r),
      tally_step (λ z. eqb z (suc r)) 0 0,
      tally_end (λ z. eqb z (suc r)) 1,
      ap mark (ap (λ (x : ℕ). eqb x (suc r)) size_empty ∙ eqb-zero-suc r),
    )

pub count_empty : (n : ℕ) → subset_count n 0 ≡ 1
count_empty zero = unfold subset_count keep size sets_of below from in refl
count_empty (suc n) =
    omega (
      arith,
      count_split n 0,
      count_empty n,
      tally_same (λ z. eqb (suc z) 0) (λ z. false) (λ z. eqb-suc-zero z) 0 (2 ^ n),
      tally_none 0 (2 ^ n),
    )

pub pascal : (n r : ℕ) → subset_count (suc n) (suc r) ≡ subset_count n r + subset_count n (suc r)
pascal n r =
    omega (
      arith,
      count_split n (suc r),
      count_tally n r,
      tally_same (λ z. eqb (suc z) (suc r)) (λ z. eqb z r) (λ z. eqb-suc-suc z r) 0 (2 ^ n),
    )
