-- The names P00, P01 and on, byte by byte; they are names, and no two are alike. Assumes nothing.
use mathlib.Core.Path.{◌≡◌, refl, sym, ap, ap₂, ◌∙◌}
use mathlib.Core.Logic.{◌⊎◌, inl, inr}
use mathlib.Core.Bool.{true}
use mathlib.Core.List.{List, ◌++◌, map, flatten}
use Prim.Native.Nat.{ℕ, zero, suc, ◌+◌, ◌*◌, ◌-◌, ◌/◌, ◌%◌, ◌≤◌, ◌<◌}
use native.Mathlib.Omega.{arith}
use lib.Dec.{leb}
use lib.ListN.{set, length, get_or, take, drop, length-append, length-drop, get_or-append}
use lib.Seq.{ext_get_or, get_or-take, get_or-drop, get_or-append-add, get_or-set_same, get_or-set_other, length-take-le}
use borrow.Author.Tests.{le-leb}
use Rattle.sets.specs.Lists.{from, below}
use Rattle.sets.proofs.Tests.{lt_or_le, and_intro}
use Rattle.percolation.specs.Ranges.{narrow_count}
use Rattle.percolation.proofs.Ranges.{narrow_count_lem}
use Rattle.part_names.specs.Names.{visible, spaces, visible_then_spaces, is_name, eight_at}
use Rattle.part_names.proofs.Form.{all_names}
use Rattle.made.specs.Made.{Named}
use Rattle.fullest.specs.Fullest.{part_name, part_names}

-- ---- byte by byte

module _ (q : ℕ) where
  pub byte_space : (j : ℕ) → (j ≡ 0 → ⊥) → (j ≡ 1 → ⊥) → (j ≡ 2 → ⊥) → j < 8 → 32 ≡ get_or (part_name q) j 0
  unfolding part_name
  byte_space zero a b c l = absurd (a refl)
  byte_space (suc zero) a b c l = absurd (b refl)
  byte_space (suc (suc zero)) a b c l = absurd (c refl)
  byte_space (suc (suc (suc zero))) a b c l = refl
  byte_space (suc (suc (suc (suc zero)))) a b c l = refl
  byte_space (suc (suc (suc (suc (suc zero))))) a b c l = refl
  byte_space (suc (suc (suc (suc (suc (suc zero)))))) a b c l = refl
  byte_space (suc (suc (suc (suc (suc (suc (suc zero))))))) a b c l = refl
  byte_space (suc (suc (suc (suc (suc (suc (suc (suc j)))))))) a b c l = absurd (omega arith)

  name_length : length (part_name q) ≡ 8
  unfolding part_name
  name_length = refl

-- the names of the n parts from a on
names_from : ℕ → ℕ → List ℕ
names_from a n = flatten (map part_name (from a n))

names_length : (a n : ℕ) → length (names_from a n) ≡ 8 * n
unfolding names_from from flatten
names_length a zero = refl
names_length a (suc n) = omega (arith, length-append (part_name a) (names_from (suc a) n), name_length a, names_length (suc a) n)

names_at : (n a i : ℕ) → i < 8 * n → get_or (names_from a n) i 0 ≡ get_or (part_name (a + i / 8)) (i % 8) 0
unfolding names_from from flatten
names_at zero a i l = absurd (omega arith)
names_at (suc n) a i l = pick (lt_or_le i 8) (λ g. names_at n (suc a) (i - 8) g)
  where
    pick : (i < 8) ⊎ (8 ≤ i) → (i - 8 < 8 * n → get_or (names_from (suc a) n) (i - 8) 0 ≡ get_or (part_name (suc a + (i - 8) / 8)) ((i - 8) % 8) 0)
        → get_or (names_from a (suc n)) i 0 ≡ get_or (part_name (a + i / 8)) (i % 8) 0
    pick (inl h) more =
        let part : a ≡ a + i / 8 = omega arith in
        let place : i ≡ i % 8 = omega arith in
        get_or-append (part_name a) (names_from (suc a) n) 0 i (omega (arith, name_length a))
        ∙ ap₂ (λ (x y : ℕ). get_or (part_name x) y 0) part place
    pick (inr h) more =
        let whole : i ≡ length (part_name a) + (i - 8) = omega (arith, name_length a) in
        let part : suc a + (i - 8) / 8 ≡ a + i / 8 = omega arith in
        let place : (i - 8) % 8 ≡ i % 8 = omega arith in
        ap (λ (x : ℕ). get_or (part_name a ++ names_from (suc a) n) x 0) whole
        ∙ get_or-append-add (part_name a) (names_from (suc a) n) (i - 8) 0
        ∙ more (omega arith)
        ∙ ap₂ (λ (x y : ℕ). get_or (part_name x) y 0) part place

module _ (p : ℕ) where
  pub part_names_length : length (part_names p) ≡ 8 * p
  unfolding part_names below names_from
  part_names_length = names_length 0 p

  pub part_names_at : (i : ℕ) → i < 8 * p → get_or (part_names p) i 0 ≡ get_or (part_name (i / 8)) (i % 8) 0
  unfolding part_names below names_from
  part_names_at i l =
      let part : 0 + i / 8 ≡ i / 8 = omega arith in
      names_at p 0 i l ∙ ap (λ (x : ℕ). get_or (part_name x) (i % 8) 0) part

  -- ---- a loop over the bytes

  abbrev pub Named_to : List ℕ → ℕ → Type 0
  Named_to x i = (j : ℕ) → j < i → get_or x j 0 ≡ get_or (part_names p) j 0

  pub named_more : (x : List ℕ) (i b : ℕ) → i < 8 * p → i < length x → Named_to x i → b ≡ get_or (part_name (i / 8)) (i % 8) 0 → Named_to (set x i b) (i + 1)
  named_more x i b low fits before e j l = pick (lt_or_le i j)
    where
      pick : (i < j) ⊎ (j ≤ i) → get_or (set x i b) j 0 ≡ get_or (part_names p) j 0
      pick (inl h) = absurd (omega arith)
      pick (inr h) = same (lt_or_le j i)
        where
          same : (j < i) ⊎ (i ≤ j) → get_or (set x i b) j 0 ≡ get_or (part_names p) j 0
          same (inl g) = get_or-set_other x i j b 0 (λ y. omega arith) ∙ before j g
          same (inr g) =
              let y : j ≡ i = omega arith in
              ap (λ (z : ℕ). get_or (set x i b) z 0) y ∙ get_or-set_same x i b 0 fits ∙ e ∙ sym (part_names_at i low)
              ∙ ap (λ (z : ℕ). get_or (part_names p) z 0) (sym y)

  pub named_all : (x : List ℕ) (i : ℕ) → i ≡ 8 * p → 8 * p ≤ length x → Named_to x i → take (8 * p) x ≡ part_names p
  named_all x i e long each =
      ext_get_or 0 (take (8 * p) x) (part_names p) (length-take-le (8 * p) x long ∙ sym part_names_length)
      (λ j l.
      let low : j < 8 * p = omega (arith, l, length-take-le (8 * p) x long) in
      get_or-take (8 * p) x j 0 low ∙ each j (omega arith))

  -- ---- they are names

  eight : (q : ℕ) → q < p → eight_at (part_names p) (8 * q) ≡ part_name q
  eight q h =
      ext_get_or 0 (eight_at (part_names p) (8 * q)) (part_name q) (long ∙ sym (name_length q))
      (λ j l.
      let low : j < 8 = omega (arith, l, long) in
      let part : (8 * q + j) / 8 ≡ q = omega arith in
      let place : (8 * q + j) % 8 ≡ j = omega arith in
      get_or-take 8 (drop (8 * q) (part_names p)) j 0 low ∙ get_or-drop (8 * q) (part_names p) j 0 ∙ part_names_at (8 * q + j) (omega arith)
      ∙ ap₂ (λ (x y : ℕ). get_or (part_name x) y 0) part place)
    where
      long : length (eight_at (part_names p) (8 * q)) ≡ 8
      long = length-take-le 8 (drop (8 * q) (part_names p)) (omega (arith, length-drop (8 * q) (part_names p), part_names_length))

seen : (b : ℕ) → 33 ≤ b → b ≤ 126 → visible b ≡ true
unfolding visible
seen b low high = and_intro (leb 33 b) (leb b 126) (le-leb 33 b low) (le-leb b 126 high)

is_name_lem : (q : ℕ) → q < 64 → is_name (part_name q) ≡ true
unfolding is_name part_name spaces visible_then_spaces
is_name_lem q h = rw (seen (48 + q / 10) (omega arith) (omega arith), seen (48 + q % 10) (omega arith) (omega arith)) refl

differ : (q r : ℕ) → part_name q ≡ part_name r → q ≡ r
unfolding part_name
differ q r e =
    let tens : 48 + q / 10 ≡ 48 + r / 10 = ap (λ (x : List ℕ). get_or x 1 0) e in
    let ones : 48 + q % 10 ≡ 48 + r % 10 = ap (λ (x : List ℕ). get_or x 2 0) e in
    omega arith

pub part_named : (p : ℕ) → narrow_count p ≡ true → Named (part_names p) p
part_named p good = record {
  count = good;
  long = part_names_length p;
  passed = all_names (λ q. eight_at (part_names p) (8 * q)) (λ q. 0) p
      (λ q l. ap is_name (eight p q l) ∙ is_name_lem q (omega (arith, l, narrow_count_lem p good)))
      (λ q r l h e. let same = differ q r (sym (eight p q (omega arith)) ∙ e ∙ eight p r h) in omega (arith, same));
}
