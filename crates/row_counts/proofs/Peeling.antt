-- A table of counts while the parts of a set are taken from it, the lowest first: what is left to count, from what is there, gives what the whole set
-- gives from the start. Assumes nothing.
use mathlib.Core.Path.{◌≡◌, sym, ap, ap₂, ◌∙◌, subst}
use mathlib.Core.Bool.{true, false}
use mathlib.Core.List.{List}
use Prim.Native.Nat.{ℕ, ◌+◌, ◌*◌, ◌^◌, ◌<◌}
use lib.Dec.{eqb}
use lib.ListN.{length, get_or}
use borrow.Author.Tests.{eqb-true, eqb-false}
use Rattle.sets.specs.Sets.{out, lowest}
use Rattle.sets.proofs.Laws.{out_lt}
use Rattle.dump_theory.specs.Model.{RoomWith, Room, raised, counted_with, counted}
use Rattle.dump_theory.proofs.Counting.{length_raised, length_counted_with, counted_with_none, counted_with_next, counted_none, counted_next}
use Rattle.dump_theory.proofs.Counted.{room_first, room_raised, room_with, room_next}

-- ---- the pairs of one part

pub record WithLeft (C₀ : List ℕ) (q t : ℕ) (C : List ℕ) (s : ℕ) : Type 0 where
  pub left : counted_with C q s ≡ counted_with C₀ q t
  pub places : length C ≡ 4096
  pub fits : s < 2 ^ 64
  pub room : RoomWith 65535 C q s

module _ (C₀ : List ℕ) (q t : ℕ) (C : List ℕ) (s : ℕ) (h : WithLeft C₀ q t C s) where
  pub with_done : eqb s 0 ≡ true → C ≡ counted_with C₀ q t
  with_done z = sym (ap (counted_with C q) (eqb-true s 0 z) ∙ counted_with_none C q) ∙ h.left

  module _ (r : ℕ) (z : eqb s 0 ≡ false) (e : r ≡ lowest s) where
    pub with_room : get_or C (q * 64 + r) 0 < 65535
    with_room = subst (λ (x : ℕ). get_or C (q * 64 + x) 0 < 65535) (sym e) (room_first 65535 C q s h.room (eqb-false s 0 z))

    pub with_more : (D : List ℕ) (u : ℕ) → D ≡ raised C q r → u ≡ out r s → WithLeft C₀ q t D u
    with_more D u d g =
        let D' = raised C q (lowest s) in
        let u' = out (lowest s) s in
        let same : WithLeft C₀ q t D' u' = record {
          left = sym (counted_with_next C q s (eqb-false s 0 z) h.fits) ∙ h.left;
          places = length_raised C q (lowest s) ∙ h.places;
          fits = out_lt 64 (lowest s) s h.fits;
          room = room_raised 65535 C q s h.room;
        } in
        subst (λ (x : ℕ). WithLeft C₀ q t D x) (sym (g ∙ ap (λ (x : ℕ). out x s) e))
        (subst (λ (X : List ℕ). WithLeft C₀ q t X u') (sym (d ∙ ap (raised C q) e)) same)

-- ---- the pairs of a row

pub record RowLeft (C₀ : List ℕ) (row : ℕ) (C : List ℕ) (s : ℕ) : Type 0 where
  pub left : counted C s ≡ counted C₀ row
  pub places : length C ≡ 4096
  pub fits : s < 2 ^ 64
  pub room : Room 65535 C s

module _ (C₀ : List ℕ) (row : ℕ) (C : List ℕ) (s : ℕ) (h : RowLeft C₀ row C s) where
  pub row_done : eqb s 0 ≡ true → C ≡ counted C₀ row
  row_done z = sym (ap (counted C) (eqb-true s 0 z) ∙ counted_none C) ∙ h.left

  module _ (q u : ℕ) (z : eqb s 0 ≡ false) (e : q ≡ lowest s) (g : u ≡ out q s) where
    rest : u ≡ out (lowest s) s
    rest = g ∙ ap (λ (x : ℕ). out x s) e

    pub rest_fits : u < 2 ^ 64
    rest_fits = subst (λ (x : ℕ). x < 2 ^ 64) (sym rest) (out_lt 64 (lowest s) s h.fits)

    pub rest_room : RoomWith 65535 C q u
    rest_room =
        subst (λ (x : ℕ). RoomWith 65535 C x u) (sym e)
        (subst (λ (x : ℕ). RoomWith 65535 C (lowest s) x) (sym rest) (room_with 65535 C s h.room (eqb-false s 0 z)))

    pub row_more : (D : List ℕ) → D ≡ counted_with C q u → RowLeft C₀ row D u
    row_more D d =
        let D' = counted_with C (lowest s) (out (lowest s) s) in
        let u' = out (lowest s) s in
        let same : RowLeft C₀ row D' u' = record {
          left = sym (counted_next C s (eqb-false s 0 z) h.fits) ∙ h.left;
          places = length_counted_with C (lowest s) u' ∙ h.places;
          fits = out_lt 64 (lowest s) s h.fits;
          room = room_next 65535 C s h.room h.fits;
        } in
        subst (λ (x : ℕ). RowLeft C₀ row D x) (sym rest) (subst (λ (X : List ℕ). RowLeft C₀ row X u') (sym (d ∙ ap₂ (counted_with C) e rest)) same)
