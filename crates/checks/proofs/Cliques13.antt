-- 13 by rows of neighbours: a set is a k-clique exactly where it has k parts, all below p, and each of them has the others in its row. Assumes nothing.
use mathlib.Core.Path.{◌≡◌, refl, sym, ap, ◌∙◌}
use mathlib.Core.Bool.{Bool, true, false, ◌&&◌}
use mathlib.Core.List.{[], List, ◌∷◌}
use Prim.Native.Nat.{ℕ, ◌≤◌, ◌<◌, ◌^◌, min}
use native.Mathlib.Omega.{arith}
use lib.Dec.{eqb}
use borrow.Author.Tests.{ltb-true, lt-ltb}
use Rattle.std.specs.List.{list_all}
use Rattle.sets.specs.Lists.{◌∈◌, any, all}
use Rattle.sets.specs.Sets.{has, out, size, sub, full, members}
use Rattle.sets.specs.Value.{width, row}
use Rattle.sets.proofs.Tests.{iff, never, not_so}
use Rattle.sets.proofs.ListLaws.{elem_at, elem_of, all_at, all_of}
use Rattle.sets.proofs.Laws.{sub_has, has_sub, has_lt}
use Rattle.sets.proofs.Parts.{out_keeps, out_part, out_other}
use Rattle.sets.proofs.Members.{has_full, member_in, in_member}
use Rattle.percolation.specs.Links.{Link, linked, cliques}
use Rattle.percolation.proofs.Families.{Clique, cliques_of, cliques_at}
use Rattle.checks.specs.Neighbours.{Neighbours}

-- `all` of the library is that of these definitions
same_all : (f : ℕ → Bool) (l : List ℕ) → list_all f l ≡ all f l
unfolding all
same_all f [] = refl
same_all f (x ∷ l) = ap (λ (b : Bool). f x && b) (same_all f l)

-- ---- the answers

module _ (L : List Link) (R : List ℕ) (p k s : ℕ) (near : Neighbours L R) (wide : p ≤ width) where
  -- a k-clique passes each test
  module _ (m : s ∈ cliques L p k) where
    c : Clique L p k s
    c = cliques_of L p k m

    passes_fits : sub s (full (min p width)) ≡ true
    passes_fits = has_sub s (full (min p width)) (λ q h. has_full q (min p width) ∙ lt-ltb q (min p width) (omega (arith, c.fits q h)))

    passes_row : (q : ℕ) → has q s ≡ true → sub (out q s) (row R q) ≡ true
    passes_row q h =
        has_sub (out q s) (row R q) (λ r g.
        let i = out_part q r s g in
        near.near q r (omega (arith, c.fits q h)) (omega (arith, c.fits r i)) ∙ c.each q r (λ e. out_other q r s g (sym e)) h i)

  no_member : (s ∈ cliques L p k → ⊥) → false ≡ any (eqb s) (cliques L p k)
  no_member f = sym (not_so (any (eqb s) (cliques L p k)) (λ t. f (elem_of s (cliques L p k) t)))

  pub not_sized : (size s ≡ k → ⊥) → false ≡ any (eqb s) (cliques L p k)
  not_sized f = no_member (λ m. f (c m).sized)

  pub not_fitting : sub s (full (min p width)) ≡ false → false ≡ any (eqb s) (cliques L p k)
  not_fitting f = no_member (λ m. never (sub s (full (min p width))) (passes_fits m) f)

  -- and what passes each is one
  passed_all : size s ≡ k → sub s (full (min p width)) ≡ true → ((q : ℕ) → has q s ≡ true → sub (out q s) (row R q) ≡ true) → s ∈ cliques L p k
  passed_all z f h = cliques_at L p k s (record { fits = fits; sized = z; each = each })
    where
      fits : (q : ℕ) → has q s ≡ true → q < p
      fits q i = omega (arith, ltb-true q (min p width) (sym (has_full q (min p width)) ∙ sub_has q s (full (min p width)) f i))

      each : (q r : ℕ) → (q ≡ r → ⊥) → has q s ≡ true → has r s ≡ true → linked L q r ≡ true
      each q r ne i j =
          sym (near.near q r (omega (arith, fits q i)) (omega (arith, fits r j)))
          ∙ sub_has r (out q s) (row R q) (h q i) (out_keeps q r s j (λ d. ne (sym d)))

  -- what is left to test: that each part has the others in its row
  pub by_rows : size s ≡ k → s < 2 ^ width → sub s (full (min p width)) ≡ true
      → list_all (λ q. sub (out q s) (row R q)) (members width s) ≡ any (eqb s) (cliques L p k)
  by_rows z small f =
      iff (list_all test (members width s)) (any (eqb s) (cliques L p k))
      (λ t. elem_at (cliques L p k) (passed_all z f (λ q i. all_of test (members width s) (sym (same_all test (members width s)) ∙ t)
      (member_in width s q (has_lt width q s small i) i))))
      (λ t. same_all test (members width s) ∙ all_at test (members width s) (λ q m. passes_row (elem_of s (cliques L p k) t) q (in_member width s q m).1))
    where
      test : ℕ → Bool
      test q = sub (out q s) (row R q)
