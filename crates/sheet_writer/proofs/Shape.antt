-- What a network of the right shape is, and a sheet written in three pieces: head, names, links. Assumes nothing.
use mathlib.Core.Path.{◌≡◌, refl, sym, ap, ◌∙◌}
use mathlib.Core.Bool.{true, ◌&&◌}
use mathlib.Core.List.{List, ◌++◌, append_assoc, append-nil}
use Prim.Native.Nat.{ℕ, ◌+◌, ◌-◌, ◌*◌, ◌/◌, ◌%◌, ◌≤◌}
use native.Mathlib.Omega.{arith}
use lib.Dec.{eqb}
use lib.ListN.{length, take, drop, length-append, length-drop, drop_of_length-le}
use lib.Seq.{take_at, drop_at, drop-drop, take_all}
use borrow.Author.Tests.{eqb-true}
use Rattle.sets.proofs.Tests.{and_left, and_right}
use Rattle.percolation.specs.Ranges.{narrow_count}
use Rattle.percolation.proofs.Ranges.{narrow_count_lem}
use Rattle.part_names.specs.Names.{eight_at, check_names}
use Rattle.part_names.proofs.Form.{names_same}
use Rattle.sheet.specs.Sheet.{sheet_length}
use Rattle.sheet.specs.Network.{Network}
use Rattle.sheet_writer.specs.Writing.{parts_of, links_in, eight_in, link_in, head_bytes, sheet_of, has_shape}
use Rattle.sheet_writer.proofs.Written.{head_bytes_lem, links_bytes, links_length}

-- name bytes in eights, and three lists of one length
pub shape_parts : (n : Network) → has_shape n ≡ true → (length n.names % 8 ≡ 0) × (length n.higher ≡ links_in n) × (length n.weights ≡ links_in n)
unfolding has_shape
shape_parts n t =
    let r = and_right (eqb (length n.names % 8) 0) (eqb (length n.higher) (links_in n) && eqb (length n.weights) (links_in n)) t in (
      eqb-true (length n.names % 8) 0 (and_left (eqb (length n.names % 8) 0) _ t),
      eqb-true (length n.higher) (links_in n) (and_left (eqb (length n.higher) (links_in n)) (eqb (length n.weights) (links_in n)) r),
      eqb-true (length n.weights) (links_in n) (and_right (eqb (length n.higher) (links_in n)) (eqb (length n.weights) (links_in n)) r),
    )

pub shape_most : (n : Network) → has_shape n ≡ true → narrow_count (parts_of n) ≡ true → length n.names ≤ 512
shape_most n h g = omega (arith, (narrow_count_lem (parts_of n) g).1, (shape_parts n h).0)

-- the names of a network, each told at place 0
pub named_alike : (n : Network)
    → check_names (λ q. eight_at n.names (8 * q)) (λ q. 0 + 0 * q) (length n.names / 8) ≡ check_names (eight_in n) (λ q. 0) (parts_of n)
named_alike n = names_same _ _ _ _ _ (λ q h. refl) (λ q h. omega arith)

-- ---- three pieces

-- a piece from i on, of k elements, and one behind it replaced
three : (d hd ns ls h x y cl pl part : List ℕ) (i k m : ℕ)
    → length hd ≡ i → length ns ≡ k → length ls ≡ m → i + k + m ≤ length d
    → h ≡ hd ++ drop i d
    → cl ≡ ns
    → x ≡ take i h ++ (cl ++ drop (i + k) h)
    → part ≡ drop (i + k) x
    → pl ≡ ls ++ drop m part
    → y ≡ take (i + k) x ++ pl
    → y ≡ (hd ++ ns ++ ls) ++ drop (i + k + m) d
three d hd ns ls h x y cl pl part i k m lh ln ll fits eh ecl ex ep epl ey =
    let hh : take i h ≡ hd = ap (take i) eh ∙ take_at hd (drop i d) i lh in
    let hk : drop (i + k) h ≡ drop (i + k) d = sym (drop-drop k i h) ∙ ap (λ (l : List ℕ). drop k (drop i l)) eh ∙ ap (drop k) (drop_at hd (drop i d) i lh) ∙ drop-drop k i d in
    let x' : x ≡ (hd ++ ns) ++ drop (i + k) d = ex ∙ cc (append_assoc hd ns (drop (i + k) d)) in
    let lx : length (hd ++ ns) ≡ i + k = length-append hd ns ∙ cc in
    let tx : take (i + k) x ≡ hd ++ ns = ap (take (i + k)) x' ∙ take_at (hd ++ ns) (drop (i + k) d) (i + k) lx in
    let px : part ≡ drop (i + k) d = ep ∙ ap (drop (i + k)) x' ∙ drop_at (hd ++ ns) (drop (i + k) d) (i + k) lx in
    let pm : drop m part ≡ drop (i + k + m) d = ap (drop m) px ∙ drop-drop m (i + k) d in
    ey ∙ cc (append_assoc (hd ++ ns) ls (drop (i + k + m) d), append_assoc hd ns ls)

-- the same, in the shape in which the code leaves it: parts that were lent and came back
abbrev mid : List ℕ → List ℕ → ℕ → ℕ → List ℕ
mid h cl i k = take i h ++ (cl ++ drop (i + k - i) (drop i h))

pub sheet_put : (d hd ns ls h cl pl : List ℕ) (i k m : ℕ) → length hd ≡ i → length ns ≡ k → length ls ≡ m → i + k + m ≤ length d
    → h ≡ hd ++ drop i d
    → cl ≡ ns
    → pl ≡ ls ++ drop m (take (length (mid h cl i k) - (i + k)) (drop (i + k) (mid h cl i k)))
    → take (i + k) (mid h cl i k) ++ (pl ++ drop (length (mid h cl i k) - (i + k)) (drop (i + k) (mid h cl i k))) ≡ (hd ++ ns ++ ls) ++ drop (i + k + m) d
sheet_put d hd ns ls h cl pl i k m lh ln ll fits eh ecl epl =
    let x : List ℕ = mid h cl i k in
    let back : drop (i + k - i) (drop i h) ≡ drop (i + k) h = drop-drop (i + k - i) i h ∙ ap (λ (n : ℕ). drop n h) (let e : i + (i + k - i) ≡ i + k = omega arith in e) in
    let rest : length (drop (i + k) x) ≤ length x - (i + k) = omega (arith, length-drop (i + k) x) in
    three d hd ns ls h x _ cl pl (take (length x - (i + k)) (drop (i + k) x)) i k m lh ln ll fits eh ecl
    (ap (λ (t : List ℕ). take i h ++ (cl ++ t)) back)
    (take_all (length x - (i + k)) (drop (i + k) x) rest)
    epl
    (ap (λ (t : List ℕ). take (i + k) x ++ t) (ap (λ (t : List ℕ). pl ++ t) (drop_of_length-le (drop (i + k) x) rest) ∙ append-nil pl))

pub sheet_size : (n : Network) → length (sheet_of n) ≡ sheet_length (length n.names) (links_in n)
unfolding sheet_of
sheet_size n =
    let ls = links_bytes (link_in n) (links_in n) in
    length-append (head_bytes (parts_of n) (links_in n)) (n.names ++ ls)
    ∙ (let a = ap length (head_bytes_lem (parts_of n) (links_in n)) in omega (arith, a, length-append n.names ls, links_length (link_in n) (links_in n)))
