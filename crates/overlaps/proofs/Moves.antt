-- Rows that change places: the rows before e stay, those from e on and below n are the same sets in another order. What a sweep does to the rows.
-- Assumes nothing.
use mathlib.Core.Path.{◌≡◌, refl, sym, ap, ◌∙◌, subst}
use mathlib.Core.Logic.{◌⊎◌, inl, inr}
use mathlib.Core.Bool.{true, false}
use mathlib.Core.List.Memᴰ
use mathlib.Core.List.{List, map}
use Prim.Native.Nat.{ℕ, zero, suc, ◌+◌, ◌≤◌, ◌<◌, ◌^◌}
use native.Mathlib.Omega.{arith}
use lib.ListN.{length}
use Rattle.sets.specs.Lists.{◌∈◌, below}
use Rattle.sets.specs.Value.{width, rows, row, store}
use Rattle.sets.proofs.Tests.{split, same_or_not, lt_or_le}
use Rattle.sets.proofs.ListLaws.{below_of, below_at}
use Rattle.sets.proofs.Tables.{row_store, row_other, rows_store, rows_length, length_store}
use Rattle.percolation.specs.Percolate.{overlap}
use Rattle.overlaps.specs.Model.{swapped, swept_from}
use Rattle.overlaps.proofs.Steps.{swept_near, swept_far, swept_none}

-- the table U has the set a in a row from e on and below n
abbrev pub Among : ℕ → ℕ → List ℕ → ℕ → Type 0
Among e n U a = (j : ℕ) × (e ≤ j) × (j < n) × (a ≡ row U j)

pub record Moved (e n : ℕ) (T U : List ℕ) : Type 0 where
  pub same : length U ≡ length T
  pub kept : (i : ℕ) → i < e → row U i ≡ row T i
  pub to : (i : ℕ) → e ≤ i → i < n → Among e n T (row U i)
  pub fro : (i : ℕ) → e ≤ i → i < n → Among e n U (row T i)

-- the rows below n are sets that the code can hold
abbrev pub Fits : ℕ → List ℕ → Type 0
Fits n T = (i : ℕ) → i < n → row T i < 2 ^ width

pub moved_none : (e n : ℕ) (T : List ℕ) → Moved e n T T
moved_none e n T = record { same = refl; kept = λ i h. refl; to = λ i l h. (i, l, h, refl); fro = λ i l h. (i, l, h, refl) }

pub moved_both : (e n : ℕ) (T U W : List ℕ) → Moved e n T U → Moved e n U W → Moved e n T W
moved_both e n T U W a b = record {
  same = b.same ∙ a.same;
  kept = λ i h. b.kept i h ∙ a.kept i h;
  to = λ i l h. let x = b.to i l h in let y = a.to x.0 x.1 x.2 in (y.0, y.1, y.2, x.3 ∙ y.3);
  fro = λ i l h. let x = a.fro i l h in let y = b.fro x.0 x.1 x.2 in (y.0, y.1, y.2, x.3 ∙ y.3);
}

-- what moves from e on moves from an earlier row on
pub moved_from : (d e n : ℕ) (T U : List ℕ) → d ≤ e → Moved e n T U → Moved d n T U
moved_from d e n T U le m = record {
  same = m.same;
  kept = λ i h. m.kept i (omega arith);
  to = λ i l h. to i l h (lt_or_le i e);
  fro = λ i l h. fro i l h (lt_or_le i e);
}
  where
    to : (i : ℕ) → d ≤ i → i < n → (i < e) ⊎ (e ≤ i) → Among d n T (row U i)
    to i l h (inl x) = (i, l, h, m.kept i x)
    to i l h (inr x) = let r = m.to i x h in (r.0, omega (arith, r.1), r.2, r.3)

    fro : (i : ℕ) → d ≤ i → i < n → (i < e) ⊎ (e ≤ i) → Among d n U (row T i)
    fro i l h (inl x) = (i, l, h, sym (m.kept i x))
    fro i l h (inr x) = let r = m.fro i x h in (r.0, omega (arith, r.1), r.2, r.3)

pub moved_rows : (e n : ℕ) (T U : List ℕ) → Moved e n T U → rows U ≡ rows T
moved_rows e n T U m = rows_length U T m.same

pub moved_fits : (e n : ℕ) (T U : List ℕ) → Moved e n T U → Fits n T → Fits n U
moved_fits e n T U m f i h = go (lt_or_le i e)
  where
    go : (i < e) ⊎ (e ≤ i) → row U i < 2 ^ width
    go (inl x) = subst (λ (z : ℕ). z < 2 ^ width) (sym (m.kept i x)) (f i h)
    go (inr x) = let r = m.to i x h in subst (λ (z : ℕ). z < 2 ^ width) (sym r.3) (f r.0 r.2)

-- ---- two rows change places

module _ (T : List ℕ) (i j : ℕ) (fi : i < rows T) (fj : j < rows T) (wi : row T i < 2 ^ width) (wj : row T j < 2 ^ width) where
  swap_second : row (swapped T i j) j ≡ row T i
  unfolding swapped
  swap_second = row_store (store T i (row T j)) j (row T i) (omega (arith, rows_store T i (row T j))) wi

  pub swap_first : row (swapped T i j) i ≡ row T j
  unfolding swapped
  swap_first = go (same_or_not i j)
    where
      go : (i ≡ j) ⊎ (i ≡ j → ⊥) → row (store (store T i (row T j)) j (row T i)) i ≡ row T j
      go (inl e) = ap (row (store (store T i (row T j)) j (row T i))) e ∙ swap_second ∙ ap (row T) e
      go (inr ne) = row_other (store T i (row T j)) j i (row T i) ne ∙ row_store T i (row T j) fi wj

  swap_rest : (x : ℕ) → (x ≡ i → ⊥) → (x ≡ j → ⊥) → row (swapped T i j) x ≡ row T x
  unfolding swapped
  swap_rest x a b = row_other (store T i (row T j)) j x (row T i) b ∙ row_other T i x (row T j) a

pub length_swapped : (T : List ℕ) (i j : ℕ) → length (swapped T i j) ≡ length T
unfolding swapped
length_swapped T i j = length_store (store T i (row T j)) j (row T i) ∙ length_store T i (row T j)

pub swap_moved : (T : List ℕ) (e j n : ℕ) → e ≤ j → j < n → n ≤ rows T → Fits n T → Moved e n T (swapped T e j)
swap_moved T e j n le h r f = record {
  same = length_swapped T e j;
  kept = λ i l. rest i (λ x. omega arith) (λ x. omega arith);
  to = λ i l b. to i l b (same_or_not i e) (same_or_not i j);
  fro = λ i l b. fro i l b (same_or_not i e) (same_or_not i j);
}
  where
    one : row (swapped T e j) e ≡ row T j
    one = swap_first T e j (omega arith) (omega arith) (f e (omega arith)) (f j h)

    two : row (swapped T e j) j ≡ row T e
    two = swap_second T e j (omega arith) (omega arith) (f e (omega arith)) (f j h)

    rest : (x : ℕ) → (x ≡ e → ⊥) → (x ≡ j → ⊥) → row (swapped T e j) x ≡ row T x
    rest = swap_rest T e j (omega arith) (omega arith) (f e (omega arith)) (f j h)

    to : (i : ℕ) → e ≤ i → i < n → (i ≡ e) ⊎ (i ≡ e → ⊥) → (i ≡ j) ⊎ (i ≡ j → ⊥) → Among e n T (row (swapped T e j) i)
    to i l b (inl x) y = (j, le, h, ap (row (swapped T e j)) x ∙ one)
    to i l b (inr x) (inl y) = (e, omega arith, omega arith, ap (row (swapped T e j)) y ∙ two)
    to i l b (inr x) (inr y) = (i, l, b, rest i x y)

    fro : (i : ℕ) → e ≤ i → i < n → (i ≡ e) ⊎ (i ≡ e → ⊥) → (i ≡ j) ⊎ (i ≡ j → ⊥) → Among e n (swapped T e j) (row T i)
    fro i l b (inl x) y = (j, le, h, ap (row T) x ∙ sym two)
    fro i l b (inr x) (inl y) = (e, omega arith, omega arith, ap (row T) y ∙ sym one)
    fro i l b (inr x) (inr y) = (i, l, b, sym (rest i x y))

-- ---- a sweep

-- the rows from a on and below e are near the set s, those from e on are not
pub record Parted (k s a n : ℕ) (T U : List ℕ) (e : ℕ) : Type 0 where
  pub moved : Moved a n T U
  pub more : a ≤ e
  pub within : e ≤ n
  pub near : (i : ℕ) → a ≤ i → i < e → overlap k s (row U i) ≡ true
  pub far : (i : ℕ) → e ≤ i → i < n → overlap k s (row U i) ≡ false

module _ (k s a n : ℕ) (T : List ℕ) (long : n ≤ rows T) (fits : Fits n T) where
  -- m rows are left, from j on
  sweep_rest : (m j e : ℕ) (U : List ℕ) → j + m ≡ n → a ≤ e → e ≤ j → Moved a n T U
      → ((i : ℕ) → a ≤ i → i < e → overlap k s (row U i) ≡ true) → ((i : ℕ) → e ≤ i → i < j → overlap k s (row U i) ≡ false)
      → Parted k s a n T (swept_from m k s U e j).table (swept_from m k s U e j).end
  sweep_rest zero j e U q ae ej mv near far =
      rw (swept_none k s U e j) (record { moved = mv; more = ae; within = omega arith; near = near; far = λ i l h. far i l (omega arith) })
  sweep_rest (suc m) j e U q ae ej mv near far = go (split (overlap k s (row U j))) (sweep_rest m)
    where
      ih_type : Type 0
      ih_type = (j' e' : ℕ) (W : List ℕ) → j' + m ≡ n → a ≤ e' → e' ≤ j' → Moved a n T W
          → ((i : ℕ) → a ≤ i → i < e' → overlap k s (row W i) ≡ true) → ((i : ℕ) → e' ≤ i → i < j' → overlap k s (row W i) ≡ false)
          → Parted k s a n T (swept_from m k s W e' j').table (swept_from m k s W e' j').end

      wide : n ≤ rows U
      wide = omega (arith, moved_rows a n T U mv)

      ufits : Fits n U
      ufits = moved_fits a n T U mv fits

      sw : Moved e n U (swapped U e j)
      sw = swap_moved U e j n ej (omega arith) wide ufits

      first : row (swapped U e j) e ≡ row U j
      first = swap_first U e j (omega (arith, wide)) (omega (arith, wide)) (ufits e (omega arith)) (ufits j (omega arith))

      second : row (swapped U e j) j ≡ row U e
      second = swap_second U e j (omega (arith, wide)) (omega (arith, wide)) (ufits e (omega arith)) (ufits j (omega arith))

      rest : (x : ℕ) → (x ≡ e → ⊥) → (x ≡ j → ⊥) → row (swapped U e j) x ≡ row U x
      rest = swap_rest U e j (omega (arith, wide)) (omega (arith, wide)) (ufits e (omega arith)) (ufits j (omega arith))

      near_more : overlap k s (row U j) ≡ true → (i : ℕ) → a ≤ i → i < suc e → (i ≡ e) ⊎ (i ≡ e → ⊥) → overlap k s (row (swapped U e j) i) ≡ true
      near_more t i l h (inl x) = ap (λ (z : ℕ). overlap k s (row (swapped U e j) z)) x ∙ ap (overlap k s) first ∙ t
      near_more t i l h (inr x) = ap (overlap k s) (sw.kept i (omega arith)) ∙ near i l (omega arith)

      far_more : (i : ℕ) → suc e ≤ i → i < suc j → (i ≡ j) ⊎ (i ≡ j → ⊥) → overlap k s (row (swapped U e j) i) ≡ false
      far_more i l h (inl x) = ap (λ (z : ℕ). overlap k s (row (swapped U e j) z)) x ∙ ap (overlap k s) second ∙ far e (omega arith) (omega arith)
      far_more i l h (inr x) = ap (overlap k s) (rest i (λ y. omega arith) x) ∙ far i (omega arith) (omega arith)

      far_same : overlap k s (row U j) ≡ false → (i : ℕ) → e ≤ i → i < suc j → (i ≡ j) ⊎ (i ≡ j → ⊥) → overlap k s (row U i) ≡ false
      far_same t i l h (inl x) = ap (λ (z : ℕ). overlap k s (row U z)) x ∙ t
      far_same t i l h (inr x) = far i l (omega arith)

      go : (overlap k s (row U j) ≡ true) ⊎ (overlap k s (row U j) ≡ false) → ih_type
          → Parted k s a n T (swept_from (suc m) k s U e j).table (swept_from (suc m) k s U e j).end
      go (inl t) ih =
          rw (swept_near m k s U e j t) (ih (suc j) (suc e) (swapped U e j) (omega arith) (omega arith) (omega arith)
          (moved_both a n T U (swapped U e j) mv (moved_from a e n U (swapped U e j) ae sw))
          (λ i l h. near_more t i l h (same_or_not i e)) (λ i l h. far_more i l h (same_or_not i j)))
      go (inr t) ih =
          rw (swept_far m k s U e j t) (ih (suc j) e U (omega arith) ae (omega arith) mv near (λ i l h. far_same t i l h (same_or_not i j)))

  pub sweep_parts : (m : ℕ) → a + m ≡ n → Parted k s a n T (swept_from m k s T a a).table (swept_from m k s T a a).end
  sweep_parts m q =
      sweep_rest m a a T q (omega arith) (omega arith) (moved_none a n T) (λ i l h. absurd (omega arith)) (λ i l h. absurd (omega arith))

-- ---- the rows below n are the members of M

pub record Holding (n : ℕ) (M T : List ℕ) : Type 0 where
  pub row_in : (i : ℕ) → i < n → row T i ∈ M
  pub in_row : (x : ℕ) → x ∈ M → Among 0 n T x

pub holding_rows : (n : ℕ) (T : List ℕ) → Holding n (map (row T) (below n)) T
holding_rows n T = record {
  row_in = λ i h. Memᴰ.map (row T) (below_at i n h);
  in_row = λ x m. let r = Memᴰ.of_map (row T) (below n) m in (r.0, omega arith, below_of n r.1, sym r.2);
}

pub holding_moved : (e n : ℕ) (M T U : List ℕ) → Moved e n T U → Holding n M T → Holding n M U
holding_moved e n M T U m h = record {
  row_in = λ i l. let r = all.to i (omega arith) l in subst (λ (z : ℕ). z ∈ M) (sym r.3) (h.row_in r.0 r.2);
  in_row = λ x i. let a = h.in_row x i in let r = all.fro a.0 (omega arith) a.2 in (r.0, omega arith, r.2, a.3 ∙ r.3);
}
  where
    all : Moved 0 n T U
    all = moved_from 0 e n T U (omega arith) m
