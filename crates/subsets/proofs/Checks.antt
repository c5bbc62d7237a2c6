-- What a count and the slot bound answer in each case of the code. Assumes nothing.
use mathlib.Core.Bool.{true, false}
use mathlib.Core.Path.{◌≡◌, refl, sym, ap, ◌∙◌}
use Prim.Native.Nat.{ℕ, zero, suc, ◌-◌, ◌≤◌, ◌<◌}
use native.Mathlib.Omega.{arith}
use borrow.Author.Tests.{le-leb, lt-leb}
use lib.Dec.{leb}
use Rattle.answers.specs.declared.Refusal.{Refusal}
use Rattle.answers.specs.Faults.{number_of}
use Rattle.answers.specs.Verdict.{refused, unless}
use Rattle.answers.specs.Answers.{counts, refuses, say_of}
use Rattle.answers.proofs.Laws.{then_stop, go, last_go, say_accepted, say_refused}
use Rattle.sets.proofs.Tests.{no_and}
use Rattle.percolation.specs.Ranges.{good_count, good_k}
use Rattle.percolation.proofs.Ranges.{good_count_lem, good_k_lem}
use Rattle.subsets.specs.Subsets.{subset_count, table_count, slot_bound, check_bound}
use Rattle.subsets.proofs.Formula.{count_few}

-- ---- a count

pub far_count : (n r : ℕ) → 64 < n → 0 ≡ table_count n r
unfolding table_count
far_count n r h = rw (lt-leb n 64 h) refl

pub far_parts : (n r : ℕ) → 6 < r → 0 ≡ table_count n r
unfolding table_count
far_parts n r h = rw (lt-leb r 6 h, no_and (leb n 64)) refl

pub in_table : (n r : ℕ) → n ≤ 64 → r ≤ 6 → table_count n r ≡ subset_count n r
unfolding table_count
in_table n r h l = rw (le-leb n 64 h, le-leb r 6 l) refl

pub few_parts : (n r : ℕ) → n ≤ 64 → r ≤ 6 → n < r → 0 ≡ table_count n r
few_parts n zero h l m = absurd (omega arith)
few_parts n (suc r) h l m = sym (in_table n (suc r) h l ∙ count_few n r (omega arith))

-- ---- the slot bound

pub bound_over : (p k : ℕ) → p < k → slot_bound p k ≡ 0
unfolding slot_bound
bound_over p k h = rw (lt-leb k p h) refl

pub bound_in : (p k : ℕ) → k ≤ p → slot_bound p k ≡ subset_count p (k - 1)
unfolding slot_bound
bound_in p k h = rw (le-leb k p h) refl

-- the count's answer is the bound
pub bound_at : (p k : ℕ) → good_count p ≡ true → good_k k ≡ true → k ≤ p → table_count p (k - 1) ≡ slot_bound p k
bound_at p k e f h =
    in_table p (k - 1) (good_count_lem p e).1 (omega (arith, (good_k_lem k f).1)) ∙ sym (bound_in p k h)

module _ (p k n : ℕ) where
  pub said_four : (f : Refusal) → refused (number_of f.fault) f.place ≡ unless (good_count p) 4 0 → refuses (number_of f.fault) f.place ≡ say_of (check_bound p k) n
  unfolding check_bound
  said_four f e =
      let m = number_of f.fault in
      sym (say_refused (check_bound p k) n m f.place (then_stop (unless (good_count p) 4 0) (unless (good_k k) 10 0) m f.place (sym e)))

  module _ (e : good_count p ≡ true) where
    pub said_ten : (f : Refusal) → refused (number_of f.fault) f.place ≡ unless (good_k k) 10 0 → refuses (number_of f.fault) f.place ≡ say_of (check_bound p k) n
    unfolding check_bound
    said_ten f r =
        let m = number_of f.fault in
        sym (say_refused (check_bound p k) n m f.place (go (good_count p) 4 0 (unless (good_k k) 10 0) e ∙ sym r))

    pub says_count : good_k k ≡ true → (b : ℕ) → b ≡ n → counts b ≡ say_of (check_bound p k) n
    unfolding check_bound
    says_count f b s =
        ap counts s
        ∙ sym (say_accepted (check_bound p k) n (go (good_count p) 4 0 (unless (good_k k) 10 0) e ∙ last_go (good_k k) 10 0 f))
