-- The parts that a row names, the lowest first, and the columns that their names take. Assumes nothing.
use mathlib.Core.Path.{◌≡◌, refl, sym, ap, ◌∙◌, subst}
use mathlib.Core.Bool.{Bool, true, false, cond}
use mathlib.Core.List.Memᴰ
use mathlib.Core.List.{List, [], ◌∷◌, ◌++◌}
use Prim.Native.Nat.{ℕ, zero, suc, ◌+◌, ◌-◌, ◌*◌, ◌≤◌, ◌<◌}
use native.Mathlib.Omega.{arith}
use lib.Dec.{eqb}
use lib.ListN.{length, take, drop, length-append, length-take, length-drop}
use borrow.Author.Tests.{eqb-true, eqb-false}
use Rattle.sets.specs.Lists.{◌∈◌}
use Rattle.sets.specs.Sets.{full, out as Sets·out, lowest}
use Rattle.sets.specs.Value.{width}
use Rattle.sets.proofs.Laws.{has_lt, sub_trans, out_sub}
use Rattle.sets.proofs.Members.{in_member, members_none, members_next, answer_has, within_lt}
use Rattle.part_names.specs.Names.{eight_at}
use Rattle.sheet.specs.Sheet.{parts, name_at, name_of}
use Rattle.page.specs.Page.{blanks, cell, cells}
use Rattle.page.specs.Model.{Named, Leaves, parts_in}
use Rattle.page.proofs.Filling.{replaced}

-- ---- the parts

-- each of the parts Q is one of the sheet's
abbrev pub Listed : List ℕ → List ℕ → Type 0
Listed s Q = (q : ℕ) → q ∈ Q → q < parts s

pub parts_listed : (s : List ℕ) (u : ℕ) → Listed s (parts_in s u)
parts_listed s u q m = (in_member (parts s) u q m).0

pub drop_listed : (s : List ℕ) (n : ℕ) (Q : List ℕ) → Listed s Q → Listed s (drop n Q)
drop_listed s zero Q h = h
drop_listed s (suc n) [] h = h
drop_listed s (suc n) (q ∷ Q) h = drop_listed s n Q (λ r m. h r (Memᴰ.tail m))

pub none_left : (s : List ℕ) (u : ℕ) → eqb u 0 ≡ true → parts_in s u ≡ []
none_left s u e = ap (parts_in s) (eqb-true u 0 e) ∙ members_none (parts s)

-- q is the lowest part of a set that has some
module _ (s : List ℕ) (u q : ℕ) (N : Named s u) (some : eqb u 0 ≡ false) (e : q ≡ cond (eqb u 0) width (lowest u)) where
  low : q ≡ lowest u
  low = e ∙ ap (λ (t : Bool). cond t width (lowest u)) some

  pub next_below : q < parts s
  next_below = has_lt (parts s) q u (within_lt (parts s) u N.within) (answer_has width u q some e)

  pub next_part : parts_in s u ≡ q ∷ parts_in s (Sets·out q u)
  next_part =
      members_next (parts s) u (eqb-false u 0 some) (within_lt (parts s) u N.within)
      ∙ ap (λ (x : ℕ). x ∷ parts_in s (Sets·out x u)) (sym low)

  pub next_named : Named s (Sets·out q u)
  next_named = record { within = sub_trans (Sets·out q u) u (full (parts s)) (out_sub q u) N.within; narrow = N.narrow; long = N.long }

-- ---- their columns

module _ (s : List ℕ) (long : name_at s (parts s) ≤ length s) where
  pub name_eight : (q : ℕ) → q < parts s → length (name_of s q) ≡ 8
  name_eight q h = omega (arith, length-take 8 (drop (name_at s q) s), length-drop (name_at s q) s)

  pub cell_length : (Q : List ℕ) → Listed s Q → length (cell s Q) ≡ 10
  unfolding cell
  cell_length [] h = refl
  cell_length (q ∷ Q) h = length-append (name_of s q) (blanks 2) ∙ ap (λ (n : ℕ). n + 2) (name_eight q (h q (Memᴰ.head refl)))

  pub cells_length : (n : ℕ) (Q : List ℕ) → Listed s Q → length (cells s n Q) ≡ 10 * n
  unfolding cells
  cells_length zero Q h = refl
  cells_length (suc n) Q h =
      omega (arith, length-append (cell s Q) (cells s n (drop 1 Q)), cell_length Q h, cells_length n (drop 1 Q) (drop_listed s 1 Q h))

pub cells_next : (s : List ℕ) (n m : ℕ) (Q R : List ℕ) → n ≡ suc m → drop 1 Q ≡ R → cells s n Q ≡ cell s Q ++ cells s m R
unfolding cells
cells_next s n m Q R e f = ap (λ (k : ℕ). cells s k Q) e ∙ ap (λ (l : List ℕ). cell s Q ++ cells s m l) f

pub cells_none : (s : List ℕ) (n : ℕ) (Q : List ℕ) → n ≡ 0 → cells s n Q ≡ []
unfolding cells
cells_none s n Q e = ap (λ (k : ℕ). cells s k Q) e

pub cell_none : (s : List ℕ) (u : ℕ) (out : List ℕ) → eqb u 0 ≡ true → out ≡ blanks 10 → out ≡ cell s (parts_in s u)
unfolding cell
cell_none s u out e o = o ∙ sym (ap (cell s) (none_left s u e))

-- eight bytes of the sheet copied over the first eight columns
pub cell_copied : (s out copy : List ℕ) (a e : ℕ) → e ≡ a + 8 → out ≡ blanks 10 → copy ≡ take (e - a) (drop a s)
    → replaced out 0 8 copy ≡ eight_at s a ++ blanks 2
cell_copied s out copy a e z o f =
    let whole : copy ≡ eight_at s a = f ∙ ap (λ (n : ℕ). take n (drop a s)) (let n : e - a ≡ 8 = omega arith in n) in
    ap (λ (l : List ℕ). replaced l 0 8 copy) o ∙ ap (λ (l : List ℕ). l ++ blanks 2) whole

pub cell_named : (s : List ℕ) (q : ℕ) (Q R : List ℕ) → Q ≡ q ∷ R → name_of s q ++ blanks 2 ≡ cell s Q
unfolding cell
cell_named s q Q R e = sym (ap (cell s) e)

-- ---- what a cell does

pub cell_empty : (s out : List ℕ) (u v : ℕ) → Named s u → eqb u 0 ≡ true → v ≡ u → out ≡ blanks 10 → (out ≡ cell s (parts_in s u)) × Leaves s u 1 v
cell_empty s out u v N e f o = (
  cell_none s u out e o,
  record { rest = ap (parts_in s) f ∙ none_left s u e ∙ sym (ap (drop 1) (none_left s u e)); named = subst (Named s) (sym f) N },
)

pub cell_filled : (s : List ℕ) (u q r a : ℕ) (N : Named s u) (some : eqb u 0 ≡ false) (e : q ≡ cond (eqb u 0) width (lowest u))
    (out copy : List ℕ) → a ≡ name_at s q
    → out ≡ blanks 10
    → copy ≡ take (a + 8 - a) (drop a s)
    → r ≡ Sets·out q u → (replaced out 0 8 copy ≡ cell s (parts_in s u)) × Leaves s u 1 r
cell_filled s u q r a N some e out copy f o g h =
    let next = next_part s u q N some e in (
      cell_copied s out copy a (a + 8) refl o g ∙ ap (λ (x : ℕ). eight_at s x ++ blanks 2) f
          ∙ cell_named s q (parts_in s u) (parts_in s (Sets·out q u)) next,
      record { rest = ap (parts_in s) h ∙ sym (ap (drop 1) next); named = subst (Named s) (sym h) (next_named s u q N some e) },
    )
