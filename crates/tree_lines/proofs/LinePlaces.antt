-- Lines as records of the output: their bytes, one more written among those of its level, room for it, and which lines there are. Assumes nothing.
use mathlib.Core.Path.{◌≡◌, refl, sym, ap, ◌∙◌}
use mathlib.Core.Logic.{◌⊎◌, inl, inr}
use mathlib.Core.Bool.{true, false, ◌&&◌}
use mathlib.Core.List.{List, [], ◌++◌, append-nil}
use Prim.Native.Nat.{ℕ, ◌+◌, ◌-◌, ◌*◌, ◌/◌, ◌≤◌, ◌<◌}
use native.Mathlib.Omega.{arith}
use lib.Dec.{leb}
use lib.ListN.{length, length-append}
use lib.Seq.{sets}
use borrow.Author.Tests.{leb-true, le-leb, lt-leb}
use Rattle.sets.specs.Value.{bytes, set_bytes, set_length, with_set}
use Rattle.sets.proofs.Tests.{never, and_intro, and_left, and_right, and_stop, not_so, lt_or_le}
use Rattle.sets.proofs.SetBytes.{bytes_length, set_length_lem}
use Rattle.percolation.specs.Tree.{Line, line, whole_place, tree_bytes}
use Rattle.records.specs.Model.{Opened}
use Rattle.records.proofs.Numbers.{Field, writes_sets, sets_writes, writes_set, writes_both}
use Rattle.records.proofs.InBytes.{records_none, records_append, records_length, gap_filled}
use Rattle.tree_lines.specs.LineModel.{line_length, line_bytes, has_line, PlacesLine}

-- the fields before the sets
abbrev pub head_of : ℕ → ℕ → ℕ → List ℕ
head_of w j i = bytes 2 w ++ bytes 4 j ++ bytes 4 i

pub head_length_lem : (w j i : ℕ) → length (head_of w j i) ≡ 10
head_length_lem w j i =
    omega (
      arith,
      length-append (bytes 2 w ++ bytes 4 j) (bytes 4 i),
      length-append (bytes 2 w) (bytes 4 j),
      bytes_length 2 w,
      bytes_length 4 j,
      bytes_length 4 i,
    )

pub line_bytes_lem : (x : Line) → length (line_bytes x) ≡ line_length
line_bytes_lem x =
    omega (
      arith,
      length-append (head_of x.weight x.joins x.into ++ set_bytes x.small) (set_bytes x.whole),
      length-append (head_of x.weight x.joins x.into) (set_bytes x.small),
      head_length_lem x.weight x.joins x.into,
      set_length_lem x.small,
      set_length_lem x.whole,
    )

-- ---- the bytes of lines

pub tree_none : tree_bytes [] ≡ []
unfolding tree_bytes
tree_none = records_none line_bytes

pub tree_append : (X Y : List Line) → tree_bytes (X ++ Y) ≡ tree_bytes X ++ tree_bytes Y
unfolding tree_bytes
tree_append X Y = records_append line_bytes X Y

pub tree_length : (X : List Line) → length (tree_bytes X) ≡ length X * line_length
unfolding tree_bytes
tree_length X = records_length line_bytes line_length line_bytes_lem X

-- ---- one is written

-- the smallest clique stands behind the numbers
pub small_at : (x : Line) → Field (line_bytes x) (set_bytes x.small) 10
small_at x = record { front = head_of x.weight x.joins x.into; back = set_bytes x.whole; parts = refl; long = head_length_lem x.weight x.joins x.into }

-- and the union behind it
unfoldable pub whole_at : (x : Line) → Field (line_bytes x) (set_bytes x.whole) whole_place
whole_at x = record {
  front = head_of x.weight x.joins x.into ++ set_bytes x.small;
  back = [];
  parts = sym (append-nil (line_bytes x));
  long = omega (
    arith,
    length-append (head_of x.weight x.joins x.into) (set_bytes x.small),
    head_length_lem x.weight x.joins x.into,
    set_length_lem x.small,
  );
}

pub fields_written : (o0 o1 o2 o3 o4 o5 : List ℕ) (k i1 i2 i3 i4 w j i s u : ℕ) → i1 ≡ k + 2 → i2 ≡ k + 6 → i3 ≡ k + 10 → i4 ≡ k + whole_place
    → o1 ≡ sets o0 k (bytes 2 w) → o2 ≡ sets o1 i1 (bytes 4 j) → o3 ≡ sets o2 i2 (bytes 4 i) → o4 ≡ with_set o3 i3 s → o5 ≡ with_set o4 i4 u
    → k + line_length ≤ length o0 → o5 ≡ sets o0 k (line_bytes (line w j i s u))
fields_written o0 o1 o2 o3 o4 o5 k i1 i2 i3 i4 w j i s u e1 e2 e3 e4 w1 w2 w3 w4 w5 fits =
    let n2 : length (bytes 2 w ++ bytes 4 j) ≡ 6 = omega (arith, length-append (bytes 2 w) (bytes 4 j), bytes_length 2 w, bytes_length 4 j) in
    let n4 : length (head_of w j i ++ set_bytes s) ≡ 10 + set_length =
    omega (arith, length-append (head_of w j i) (set_bytes s), head_length_lem w j i, set_length_lem s) in
    let c1 = writes_both o0 o1 o2 (bytes 2 w) (bytes 4 j) k i1 (omega (arith, bytes_length 2 w)) (writes_sets o0 o1 (bytes 2 w) k k refl w1)
    (writes_sets o1 o2 (bytes 4 j) i1 i1 refl w2) in
    let c2 = writes_both o0 o2 o3 (bytes 2 w ++ bytes 4 j) (bytes 4 i) k i2 (omega (arith, n2)) c1 (writes_sets o2 o3 (bytes 4 i) i2 i2 refl w3) in
    let c3 = writes_both o0 o3 o4 (head_of w j i) (set_bytes s) k i3 (omega (arith, head_length_lem w j i)) c2 (writes_set o3 o4 i3 i3 s refl w4) in
    let c4 = writes_both o0 o4 o5 (head_of w j i ++ set_bytes s) (set_bytes u) k i4 (omega (arith, n4)) c3 (writes_set o4 o5 i4 i4 u refl w5) in
    sets_writes o0 o5 (line_bytes (line w j i s u)) k (omega (arith, line_bytes_lem (line w j i s u))) c4

-- in the place opened for it
pub put_whole : (old mid new : List ℕ) (from to size start : ℕ) (y : Line) → size ≡ line_length → Opened old mid from to size 10 y.small start
    → new ≡ sets mid start (line_bytes y) → PlacesLine old new from to y
unfolding tree_bytes
put_whole old mid new from to size start y e o w =
    gap_filled line_bytes line_length line_bytes_lem (λ (z : Line). z.small) 10 small_at old mid new from to size start y e o
    (writes_sets mid new (line_bytes y) start start refl w)

-- ---- room for one more line behind n lines

pub line_room : (len size n : ℕ) → size ≡ line_length → n < len / size → n * line_length + line_length ≤ len
line_room len size n e h = omega (arith, ap (λ (k : ℕ). len / k) e)

pub line_no_room : {A : Type 0} (old x rest : List ℕ) (X Y : List Line) (size n : ℕ) → size ≡ line_length → length old / size ≤ n → length (X ++ Y) ≡ n
    → old ≡ tree_bytes X ++ tree_bytes Y ++ x ++ rest → length x ≡ line_length → A
line_no_room old x rest X Y size n e h l f m =
    let both = tree_bytes X ++ tree_bytes Y in
    let lc : length both ≡ n * line_length = ap length (sym (tree_append X Y)) ∙ tree_length (X ++ Y) ∙ ap (λ (i : ℕ). i * line_length) l in
    absurd (omega (arith, ap (λ (k : ℕ). length old / k) e, lc, length-append both x, length-append (both ++ x) rest, ap length f))

-- ---- a line that the output has, and one that it has not

pub has_line_lem : (len n m : ℕ) → has_line len n m ≡ true → (1 ≤ m) × (m ≤ n) × (m ≤ len / line_length)
unfolding has_line
has_line_lem len n m t =
    let r = and_right (leb 1 m) (leb m n && leb m (len / line_length)) t in (
      leb-true 1 m (and_left (leb 1 m) (leb m n && leb m (len / line_length)) t),
      leb-true m n (and_left (leb m n) (leb m (len / line_length)) r),
      leb-true m (len / line_length) (and_right (leb m n) (leb m (len / line_length)) r),
    )

pub no_line : (len n m : ℕ) → has_line len n m ≡ false → (m < 1) ⊎ ((n < m) ⊎ (len / line_length < m))
unfolding has_line
no_line len n m t = go (lt_or_le m 1) (lt_or_le n m) (lt_or_le (len / line_length) m)
  where
    go : (m < 1) ⊎ (1 ≤ m) → (n < m) ⊎ (m ≤ n) → (len / line_length < m) ⊎ (m ≤ len / line_length) → (m < 1) ⊎ ((n < m) ⊎ (len / line_length < m))
    go (inl a) b c = inl a
    go (inr a) (inl b) c = inr (inl b)
    go (inr a) (inr b) (inl c) = inr (inr c)
    go (inr a) (inr b) (inr c) =
        never (leb 1 m && (leb m n && leb m (len / line_length)))
        (and_intro (leb 1 m) _ (le-leb 1 m a) (and_intro (leb m n) (leb m (len / line_length)) (le-leb m n b) (le-leb m (len / line_length) c))) t

-- as the code tests it: it is not there

pub line_below : (len n m : ℕ) → m < 1 → has_line len n m ≡ false
unfolding has_line
line_below len n m a = sym (and_stop (leb 1 m) _ (lt-leb 1 m a))

pub line_above : (len n m : ℕ) → n ≡ len / line_length → n < m → has_line len (len / line_length) m ≡ false
line_above len n m e b = not_so (has_line len (len / line_length) m) (λ t. absurd (omega (arith, e, has_line_lem len (len / line_length) m t)))

-- it is there, from k on
pub line_there : (len n m k : ℕ) → n ≡ len / line_length → k ≡ line_length → 1 ≤ m → m ≤ n
    → (has_line len (len / line_length) m ≡ true) × ((m - 1) * k ≡ (m - 1) * line_length) × ((m - 1) * k + line_length ≤ len)
unfolding has_line
line_there len n m k e f a b =
    let at = ap (λ (i : ℕ). (m - 1) * i) f in
    let w : m ≤ len / line_length = omega (arith, e) in (
      and_intro (leb 1 m) _ (le-leb 1 m a)
          (and_intro (leb m (len / line_length)) (leb m (len / line_length)) (le-leb m (len / line_length) w) (le-leb m (len / line_length) w)),
      at,
      omega arith,
    )
