-- The rows of neighbours hold the links: with none, and with one more. Assumes nothing.
use mathlib.Core.Path.{◌≡◌, refl, sym, ap, ap₂, ◌∙◌, subst⁻¹}
use mathlib.Core.Logic.{◌⊎◌, inl, inr}
use mathlib.Core.Bool.{Bool, true, ◌&&◌, ◌||◌, or-false, or_assoc}
use mathlib.Core.List.{[], List, ◌∷◌, ◌++◌}
use Prim.Native.Nat.{ℕ, ◌<◌, ◌^◌}
use native.Mathlib.Omega.{arith}
use lib.Dec.{eqb}
use borrow.Author.Tests.{eqb-true, eq-eqb, ne_eqb, lt-ltb}
use Rattle.sets.specs.Lists.{any}
use Rattle.sets.specs.Sets.{has, into}
use Rattle.sets.specs.Value.{width, rows, row, store, no_rows}
use Rattle.sets.proofs.Tests.{iff, same_or_not, and_intro, and_left, and_right, or_left, or_right, or_cases}
use Rattle.sets.proofs.ListLaws.{any_more}
use Rattle.sets.proofs.Laws.{has_empty, has_into, into_lt}
use Rattle.sets.proofs.RowNumbers.{none_fits}
use Rattle.sets.proofs.Tables.{rows_store, row_store, row_other, rows_none, row_none}
use Rattle.percolation.specs.Links.{Link, joins, linked}
use Rattle.percolation.proofs.Families.{joins_ends, joins_sym}
use Rattle.checks.specs.Neighbours.{Neighbours, last_weight}
use Rattle.checks.specs.Model.{with_neighbour, marked}

pub near_none : Neighbours [] no_rows
unfolding linked any
near_none = record {
  count = rows_none;
  fits = λ a. subst⁻¹ (λ (n : ℕ). n < 2 ^ width) (row_none a) none_fits;
  near = λ a b h g. ap (has b) (row_none a) ∙ has_empty b;
}

-- ---- one neighbour more

module _ (R : List ℕ) (fits : (a : ℕ) → row R a < 2 ^ width) (count : rows R ≡ width) (c d : ℕ) (hc : c < width) (hd : d < width) where
  stored : with_neighbour R c d ≡ store R c (into d (row R c))
  unfolding with_neighbour
  stored = rw (lt-ltb d width hd) refl

  small : into d (row R c) < 2 ^ width
  small = into_lt width d (row R c) hd (fits c)

  row_same : row (with_neighbour R c d) c ≡ into d (row R c)
  row_same = ap (λ (t : List ℕ). row t c) stored ∙ row_store R c (into d (row R c)) (omega (arith, count)) small

  row_else : (a : ℕ) → (a ≡ c → ⊥) → row (with_neighbour R c d) a ≡ row R a
  row_else a n = ap (λ (t : List ℕ). row t a) stored ∙ row_other R c a (into d (row R c)) n

  with_count : rows (with_neighbour R c d) ≡ width
  with_count = ap rows stored ∙ rows_store R c (into d (row R c)) ∙ count

  with_fits : (a : ℕ) → row (with_neighbour R c d) a < 2 ^ width
  with_fits a = go (same_or_not a c)
    where
      go : (a ≡ c) ⊎ (a ≡ c → ⊥) → row (with_neighbour R c d) a < 2 ^ width
      go (inl e) = subst⁻¹ (λ (n : ℕ). n < 2 ^ width) (ap (row (with_neighbour R c d)) e ∙ row_same) small
      go (inr n) = subst⁻¹ (λ (n : ℕ). n < 2 ^ width) (row_else a n) (fits a)

  with_near : (a b : ℕ) → has b (row (with_neighbour R c d) a) ≡ has b (row R a) || eqb a c && eqb b d
  with_near a b = go (same_or_not a c)
    where
      go : (a ≡ c) ⊎ (a ≡ c → ⊥) → has b (row (with_neighbour R c d) a) ≡ has b (row R a) || eqb a c && eqb b d
      go (inl e) =
          ap (has b) (ap (row (with_neighbour R c d)) e ∙ row_same) ∙ has_into b d (row R c)
          ∙ ap₂ (λ (x y : Bool). x || y && eqb b d) (ap (λ (n : ℕ). has b (row R n)) (sym e)) (sym (eq-eqb a c e))
      go (inr n) = ap (has b) (row_else a n) ∙ rw (ne_eqb a c n) (sym (or-false (has b (row R a))))

-- ---- one link more

joins_at : (a b : ℕ) (l : Link) → l.low ≡ a → l.high ≡ b → joins a b l ≡ true
unfolding joins
joins_at a b l e f = or_left _ _ (and_intro _ _ (eq-eqb l.low a e) (eq-eqb l.high b f))

linked_more : (L : List Link) (l : Link) (a b : ℕ) → linked (L ++ (l ∷ [])) a b ≡ linked L a b || joins a b l
unfolding linked
linked_more L l a b = any_more (joins a b) L l

module _ (L : List Link) (R : List ℕ) (l : Link) (n : Neighbours L R) (hl : l.low < width) (hh : l.high < width) where
  abbrev once : List ℕ
  once = with_neighbour R l.low l.high

  once_fits : (a : ℕ) → row once a < 2 ^ width
  once_fits = with_fits R n.fits n.count l.low l.high hl hh

  once_count : rows once ≡ width
  once_count = with_count R n.fits n.count l.low l.high hl hh

  twice_near : (a b : ℕ) → has b (row (marked R l.low l.high) a) ≡ (has b (row R a) || eqb a l.low && eqb b l.high) || eqb a l.high && eqb b l.low
  unfolding marked
  twice_near a b =
      with_near once once_fits once_count l.high l.low hh hl a b
      ∙ ap (λ (x : Bool). x || eqb a l.high && eqb b l.low) (with_near R n.fits n.count l.low l.high hl hh a b)

  joined_ends : (a b : ℕ) → joins a b l ≡ eqb a l.low && eqb b l.high || eqb a l.high && eqb b l.low
  joined_ends a b = iff (joins a b l) _ (λ e. into_ends (joins_ends a b l e)) (λ e. out_ends (or_cases (eqb a l.low && eqb b l.high) _ e))
    where
      into_ends : ((l.low ≡ a) × (l.high ≡ b)) ⊎ ((l.low ≡ b) × (l.high ≡ a)) → (eqb a l.low && eqb b l.high || eqb a l.high && eqb b l.low) ≡ true
      into_ends (inl h) = or_left _ _ (and_intro _ _ (eq-eqb a l.low (sym h.0)) (eq-eqb b l.high (sym h.1)))
      into_ends (inr h) = or_right (eqb a l.low && eqb b l.high) _ (and_intro _ _ (eq-eqb a l.high (sym h.1)) (eq-eqb b l.low (sym h.0)))

      out_ends : ((eqb a l.low && eqb b l.high) ≡ true) ⊎ ((eqb a l.high && eqb b l.low) ≡ true) → joins a b l ≡ true
      out_ends (inl h) = joins_at a b l (sym (eqb-true a l.low (and_left _ _ h))) (sym (eqb-true b l.high (and_right (eqb a l.low) _ h)))
      out_ends (inr h) =
          joins_sym b a l (joins_at b a l (sym (eqb-true b l.low (and_right (eqb a l.high) _ h))) (sym (eqb-true a l.high (and_left _ _ h))))

  pub near_more : Neighbours (L ++ (l ∷ [])) (marked R l.low l.high)
  unfolding marked
  near_more = record {
    count = with_count once once_fits once_count l.high l.low hh hl;
    fits = with_fits once once_fits once_count l.high l.low hh hl;
    near = λ a b ha hb. twice_near a b ∙ ap (λ (x : Bool). (x || eqb a l.low && eqb b l.high) || eqb a l.high && eqb b l.low) (n.near a b ha hb)
        ∙ or_assoc (linked L a b) (eqb a l.low && eqb b l.high) (eqb a l.high && eqb b l.low)
        ∙ ap (λ (x : Bool). linked L a b || x) (sym (joined_ends a b)) ∙ sym (linked_more L l a b);
  }

-- ---- the last weight

pub last_more : (L : List Link) (l : Link) → last_weight (L ++ (l ∷ [])) ≡ l.weight
unfolding last_weight
last_more [] l = refl
last_more (b ∷ []) l = refl
last_more (b ∷ c ∷ L) l = last_more (c ∷ L) l
