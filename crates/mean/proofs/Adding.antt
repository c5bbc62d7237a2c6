-- The counted links of a list added up, one link after the other. Assumes nothing.
use mathlib.Core.Path.{◌≡◌, sym, ap, ap₂, ◌∙◌}
use mathlib.Core.Bool.{Bool, true, false, cond}
use mathlib.Core.List.{List, [], ◌∷◌, ◌++◌, append-nil}
use Prim.Native.Nat.{ℕ, ◌+◌, ◌*◌, ◌≤◌, ◌<◌}
use native.Mathlib.Omega.{arith}
use lib.Dec.{eqb}
use lib.ListN.{length, length-append, take}
use Rattle.sets.specs.Lists.{keep}
use Rattle.sets.specs.Sets.{has}
use Rattle.sets.specs.Value.{row}
use Rattle.sets.proofs.ListLaws.{keep_yes, keep_no, keep_append}
use Rattle.percolation.specs.Links.{Link, link}
use Rattle.percolation.specs.Weights.{weight_sum}
use Rattle.percolation.proofs.Sums.{weight_none, weight_first, weight_append}
use Rattle.sheet.specs.Sheet.{links, link_of, links_of}
use Rattle.runs.proofs.InSheet.{sheet_given}
use Rattle.runs.proofs.LinkList.{first_more}
use Rattle.mean.specs.Model.{counts}

-- w and n are the sum of the weights and the number of the counted links among the first j of the sheet s, and small enough for a machine word
pub record Adding (f : Link → Bool) (s : List ℕ) (j w n : ℕ) : Type 0 where
  pub sum : w ≡ weight_sum (keep f (take j (links_of s)))
  pub links : n ≡ length (keep f (take j (links_of s)))
  pub small : w ≤ 65535 * j
  pub few : n ≤ j

pub adding_none : (f : Link → Bool) (s : List ℕ) → Adding f s 0 0 0
unfolding keep
adding_none f s = record { sum = sym weight_none; links = omega arith; small = omega arith; few = omega arith }

module _ (f : Link → Bool) (s : List ℕ) (j w n : ℕ) (h : j < links s) (a : Adding f s j w n) where
  -- the links below one more
  abbrev K : List Link
  K = keep f (take j (links_of s))

  split_last : keep f (take (j + 1) (links_of s)) ≡ K ++ keep f (link_of s j ∷ [])
  split_last = ap (keep f) (first_more (links_of s) (link_of s) (links s) (sheet_given s) j h) ∙ keep_append f (take j (links_of s)) (link_of s j ∷ [])

  pub adding_yes : f (link_of s j) ≡ true → (v : ℕ) → v ≡ (link_of s j).weight → v < 65536 → Adding f s (j + 1) (w + v) (n + 1)
  unfolding keep
  adding_yes t v e l =
      let all : keep f (take (j + 1) (links_of s)) ≡ K ++ (link_of s j ∷ []) = split_last ∙ ap (λ (X : List Link). K ++ X) (keep_yes f (link_of s j) [] t) in
      record {
        sum =
            omega (arith, a.sum, e, ap weight_sum all, weight_append K (link_of s j ∷ []), weight_first (link_of s j) [], weight_none);
        links = omega (arith, a.links, ap length all, length-append K (link_of s j ∷ []));
        small = omega (arith, a.small);
        few = omega (arith, a.few);
      }

  pub adding_no : f (link_of s j) ≡ false → Adding f s (j + 1) w n
  unfolding keep
  adding_no t =
      let all : keep f (take (j + 1) (links_of s)) ≡ K = split_last ∙ ap (λ (X : List Link). K ++ X) (keep_no f (link_of s j) [] t) ∙ append-nil K in
      record {
        sum = a.sum ∙ ap weight_sum (sym all);
        links = a.links ∙ ap length (sym all);
        small = omega (arith, a.small);
        few = omega (arith, a.few);
      }

-- the code's look at one part of a row
pub counts_at : (k : ℕ) (C : List ℕ) (l : Link) (x s : ℕ) (r : Bool) → x ≡ cond (eqb k 2) l.low l.high → s ≡ row C l.low → r ≡ has x s
    → r ≡ counts k C l
unfolding counts
counts_at k C l x s r e d f = f ∙ ap₂ has e d

-- the code asks by the ends alone
pub counts_ends : (k : ℕ) (C s : List ℕ) (j : ℕ) (r : Link) (t b : Bool) → r ≡ link_of s j → t ≡ counts k C r → t ≡ b
    → counts k C (link_of s j) ≡ b
counts_ends k C s j r t b e c d = ap (counts k C) (sym e) ∙ sym c ∙ d
