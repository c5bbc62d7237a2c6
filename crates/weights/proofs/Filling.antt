-- The table of weights filled link by link, the last first. Assumes nothing.
use mathlib.Core.Path.{◌≡◌, sym, ap, ap₂, ◌∙◌, subst}
use mathlib.Core.Logic.{◌⊎◌, inl, inr}
use mathlib.Core.Bool.{false}
use mathlib.Core.List.{List, [], ◌∷◌}
use Prim.Native.Nat.{ℕ, ◌+◌, ◌*◌, ◌≤◌, ◌<◌}
use native.Mathlib.Omega.{arith}
use native.Mathlib.Numerals.{add-one}
use lib.ListN.{length, get_or, set, drop, length-set, drop_of_length-le, replicate, length-replicate, get_or-replicate}
use lib.Seq.{drop-cons, get_or-set_same, get_or-set_other}
use Rattle.answers.specs.Verdict.{accepted}
use Rattle.sets.specs.Value.{width}
use Rattle.sets.proofs.Tests.{not_so, same_or_not}
use Rattle.percolation.specs.Links.{Link, link, joins}
use Rattle.percolation.specs.Strength.{weight_between}
use Rattle.percolation.proofs.Families.{joins_ends, joins_own}
use Rattle.percolation.proofs.Strength.{between_first, between_later}
use Rattle.products.specs.Model.{pair_weight}
use Rattle.sheet.specs.Sheet.{parts, links, link_of, links_of, check_sheet}
use Rattle.sheet.proofs.Sound.{sheet_legal}
use Rattle.runs.proofs.InSheet.{sheet_given, links_length, link_at_lem, parts_width}
use Rattle.runs.proofs.LinkList.{ends_below}
use Rattle.weights.specs.Model.{Blank, Weighs}

-- a table of zeros has the weights of no link
pub weighs_none : (T : List ℕ) → Blank T → Weighs [] T
unfolding pair_weight weight_between
weighs_none T b = record { places = b.places; weights = λ q r h g. b.zeros (q * 64 + r) (omega arith) }

-- one link more in front
pub weighs_more : (L : List Link) (T U : List ℕ) (l : Link) → l.low < l.high → l.high < width → Weighs L T
    → U ≡ set T (l.low * 64 + l.high) l.weight → Weighs (l ∷ L) U
unfolding pair_weight
weighs_more L T U l rising wide h e = record {
  places = ap length e ∙ length-set T (l.low * 64 + l.high) l.weight ∙ h.places;
  weights = λ q r a b. go q r a b (same_or_not q l.low) (same_or_not r l.high);
}
  where
    at : ℕ
    at = l.low * 64 + l.high

    other : (q r : ℕ) → q < r → r < width → (q * 64 + r ≡ l.low * 64 + l.high → ⊥) → joins q r l ≡ false → get_or U (q * 64 + r) 0 ≡ weight_between (l ∷ L) q r
    other q r a b n f =
        ap (λ (X : List ℕ). get_or X (q * 64 + r) 0) e
        ∙ get_or-set_other T (l.low * 64 + l.high) (q * 64 + r) l.weight 0 n
        ∙ h.weights q r a b ∙ sym (between_later l L q r f)

    unjoined : (q r : ℕ) → q < r → ((l.low ≡ q) × (l.high ≡ r) → ⊥) → joins q r l ≡ false
    unjoined q r a f = not_so (joins q r l) (λ t. pick (joins_ends q r l t))
      where
        pick : ((l.low ≡ q) × (l.high ≡ r)) ⊎ ((l.low ≡ r) × (l.high ≡ q)) → ⊥
        pick (inl x) = f x
        pick (inr x) = omega (arith, x.0, x.1)

    go : (q r : ℕ) → q < r → r < width → (q ≡ l.low) ⊎ (q ≡ l.low → ⊥) → (r ≡ l.high) ⊎ (r ≡ l.high → ⊥) → get_or U (q * 64 + r) 0 ≡ weight_between (l ∷ L) q r
    go q r a b (inl x) (inl y) =
        let here : q * 64 + r ≡ l.low * 64 + l.high = omega arith in
        let inside : l.low * 64 + l.high < length T = omega (arith, h.places) in
        ap₂ (λ (X : List ℕ) (i : ℕ). get_or X i 0) e here
        ∙ get_or-set_same T (l.low * 64 + l.high) l.weight 0 inside
        ∙ sym (between_first l L q r (ap₂ (λ (i j : ℕ). joins i j l) x y ∙ joins_own l))
    go q r a b (inl x) (inr y) = other q r a b (λ z. y (omega arith)) (unjoined q r a (λ z. y (sym z.1)))
    go q r a b (inr x) y = other q r a b (λ z. x (omega arith)) (unjoined q r a (λ z. x (sym z.0)))

-- ---- the links of a sheet from j on

module _ (s : List ℕ) where
  pub from_last : (j : ℕ) (T : List ℕ) → j ≡ links s → Blank T → Weighs (drop j (links_of s)) T
  from_last j T e b =
      subst (λ (L : List Link). Weighs L T) (sym (drop_of_length-le (links_of s) {i = j} (omega (arith, links_length s)))) (weighs_none T b)

  pub from_next : check_sheet s ≡ accepted → (i j : ℕ) (T U : List ℕ) (l : Link) → i + 1 ≡ j → j ≤ links s → l ≡ link_of s i → Weighs (drop j (links_of s)) T
      → U ≡ set T (l.low * 64 + l.high) l.weight → Weighs (drop i (links_of s)) U
  from_next ok i j T U l n h e w u =
      let d = link 0 0 0 in
      let here : i < links s = omega arith in
      let b = ends_below (links_of s) (link_of s) (links s) (sheet_given s) (parts s) (sheet_legal s ok) i here in
      let front : drop i (links_of s) ≡ l ∷ drop j (links_of s) =
      drop-cons (links_of s) i d (omega (arith, links_length s))
      ∙ ap₂ (λ (x : Link) (m : ℕ). x ∷ drop m (links_of s)) (link_at_lem s i d here ∙ sym e) (sym (add-one i) ∙ n) in
      subst (λ (L : List Link). Weighs L U) (sym front)
      (weighs_more (drop j (links_of s)) T U l (omega (arith, ap (λ (x : Link). x.low) e, ap (λ (x : Link). x.high) e, b))
      (omega (arith, ap (λ (x : Link). x.high) e, b, parts_width s ok)) w u)

  pub all_weighs : (j : ℕ) (T : List ℕ) → j ≡ 0 → Weighs (drop j (links_of s)) T → Weighs (links_of s) T
  all_weighs j T e w = subst (λ (i : ℕ). Weighs (drop i (links_of s)) T) e w

-- the ends of a link fit the table
pub ends_narrow : (s : List ℕ) → check_sheet s ≡ accepted → (i : ℕ) (l : Link) → i < links s → l ≡ link_of s i → (l.low < 64) × (l.high < 64)
ends_narrow s ok i l h e =
    let b = ends_below (links_of s) (link_of s) (links s) (sheet_given s) (parts s) (sheet_legal s ok) i h in
    let low = ap (λ (x : Link). x.low) e in
    let high = ap (λ (x : Link). x.high) e in
    (omega (arith, low, high, b, parts_width s ok), omega (arith, high, b, parts_width s ok))

-- a new table
pub blank_new : Blank (replicate 4096 0)
blank_new = record { places = length-replicate {A = ℕ} 4096 0; zeros = λ i l. get_or-replicate 4096 i 0 0 l }
