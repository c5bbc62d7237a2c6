-- First links of a legal list: a k-clique is complete with its last link, and two are joined by none before both are complete. Assumes nothing.
use mathlib.Core.Path.{◌≡◌, refl, sym, ap, ◌∙◌, subst}
use mathlib.Core.Logic.{◌⊎◌, inl, inr}
use mathlib.Core.Bool.{true, false}
use mathlib.Core.List.Memᴰ
use mathlib.Core.List.{List, [], ◌∷◌, ◌++◌}
use Prim.Native.Nat.{ℕ, zero, suc, ◌≤◌, ◌<◌}
use native.Mathlib.Omega.{arith}
use lib.ListN.{length, take, drop, take-append-drop}
use lib.Seq.{take-suc}
use Rattle.sets.specs.Lists.{◌∈◌}
use Rattle.sets.specs.Sets.{has}
use Rattle.sets.proofs.Tests.{never, not_so}
use Rattle.sets.proofs.ListLaws.{any_at, any_of, get_d_member}
use Rattle.percolation.specs.Percolate.{adjacent, Chain, joined}
use Rattle.percolation.specs.Links.{Link, link, inside, joins, linked, cliques}
use Rattle.percolation.specs.Steps.{legal}
use Rattle.percolation.proofs.Accepted.{good_parts_lem, legal_parts, legal_init, check_new, cliques_none}
use Rattle.percolation.proofs.Chains.{first_in, last_in, joined_chain}
use Rattle.percolation.proofs.Families.{joins_inside, inside_ends, Clique, cliques_of, cliques_at}
use Rattle.runs.proofs.Ran.{take_legal}
use Rattle.meeting.proofs.Prefixes.{link_at, held_cliques, prefix_held}
use Rattle.meeting_sequential.specs.Model.{Complete}

module _ (L : List Link) (p k x n : ℕ) (c : Complete L x n) where
  pub complete_member : x ∈ cliques L p k → (i : ℕ) → n ≤ i → x ∈ cliques (take i L) p k
  unfolding linked
  complete_member m i h =
      held_cliques (take n L) (take i L) p k (prefix_held L n i h) x
      (cliques_at (take n L) p k x (record { fits = d.fits; sized = d.sized; each = each }))
    where
      d : Clique L p k x
      d = cliques_of L p k m

      each : (q r : ℕ) → (q ≡ r → ⊥) → has q x ≡ true → has r x ≡ true → linked (take n L) q r ≡ true
      each q r ne f g = go (any_of (joins q r) L (d.each q r ne f g))
        where
          found : (l : Link) → joins q r l ≡ true → l ∈ take n L ⊎ l ∈ drop n L → linked (take n L) q r ≡ true
          found l t (inl i) = any_at (joins q r) (take n L) i t
          found l t (inr i) = never (inside x l) (joins_inside x q r l f g t) (c.later l i)

          go : (l : Link) × l ∈ L × (joins q r l ≡ true) → linked (take n L) q r ≡ true
          go l = found l.0 l.2 (Memᴰ.append_cases (take n L) (subst (λ (N : List Link). l.0 ∈ N) (sym (take-append-drop n L)) l.1))

  -- fewer links lack the last one
  pub incomplete : legal p L ≡ true → (i : ℕ) → i < n → x ∈ cliques (take i L) p k → ⊥
  incomplete ok i h m = go n refl
    where
      go : (z : ℕ) → n ≡ z → ⊥
      go zero e = omega arith
      go (suc j) e =
          let l : Link = link_at L j in
          let b : j < length L = omega (arith, c.within) in
          let g : legal p (take j L ++ (l ∷ [])) ≡ true = ap (legal p) (sym (take-suc L j (link 0 0 0) b)) ∙ take_legal p (suc j) L ok in
          let f = good_parts_lem p l (legal_parts p L ok l (get_d_member L j (link 0 0 0) b)) in
          let d = cliques_of (take j L) p k (held_cliques (take i L) (take j L) p k (prefix_held L i j (omega arith)) x m) in
          never (linked (take j L) l.low l.high)
          (d.each l.low l.high (λ q. omega (arith, f.0)) (inside_ends x l (c.last j e)).0 (inside_ends x l (c.last j e)).1)
          (check_new p (take j L) l 0 (legal_init p (take j L) l 0 g).1)

  -- a k-clique is not complete with no link
  pub complete_some : 2 ≤ k → x ∈ cliques L p k → 1 ≤ n
  complete_some two m = go n refl
    where
      go : (z : ℕ) → n ≡ z → 1 ≤ n
      go zero e = absurd (Memᴰ.not-nil (subst (λ (F : List ℕ). x ∈ F) (cliques_none p k two) (complete_member m 0 (omega arith))))
      go (suc j) e = omega arith

-- before both are complete nothing joins them
pub apart_before : (L : List Link) (p k a b x y : ℕ) → legal p L ≡ true → Complete L a x → Complete L b y → (i : ℕ) → (i < x) ⊎ (i < y)
    → joined k (cliques (take i L) p k) a b ≡ false
apart_before L p k a b x y ok c d i h = not_so (joined k (cliques (take i L) p k) a b) (λ t. go (joined_chain k (cliques (take i L) p k) a b t) h)
  where
    go : Chain (adjacent k) (cliques (take i L) p k) a b → (i < x) ⊎ (i < y) → ⊥
    go r (inl l) = incomplete L p k a x c ok i l (first_in r)
    go r (inr l) = incomplete L p k b y d ok i l (last_in r)
