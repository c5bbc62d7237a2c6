-- Bytes written over lent space one after the other, and numbers of two and four bytes read back. Assumes nothing.
use mathlib.Core.Path.{◌≡◌, refl, sym, ap, ap₂, ◌∙◌}
use mathlib.Core.Logic.{◌⊎◌, inl, inr}
use mathlib.Core.List.{List, ◌∷◌, ◌++◌, append_assoc}
use Prim.Native.Nat.{ℕ, ◌+◌, ◌-◌, ◌*◌, ◌/◌, ◌%◌, ◌^◌, ◌≤◌, ◌<◌, min}
use native.Mathlib.Omega.{arith}
use native.Mathlib.Nat.{div-div-eq-div-mul}
use lib.ListN.{length, get_or, take, drop, length-append, length-drop, take-append-drop, get_or-eq_default}
use lib.Seq.{sets, take_all, drop-drop, sets-eq, take_at, drop_at, length-take-le, get_or-append-add}
use Rattle.sets.specs.Value.{width, bytes, set_bytes, set_at, with_set}
use Rattle.sets.proofs.SetBytes.{bytes_length, set_length_lem, two_bytes, four_bytes, put_writes, at_reads, low_bytes}
use Rattle.sets.proofs.Tests.{lt_or_le}
use Rattle.records.specs.Numbers.{two_at, four_at}

-- ---- written

-- `new` is `old` with y at k
abbrev pub Writes : List ℕ → List ℕ → ℕ → List ℕ → Type 0
Writes old new k y = (a x b : List ℕ) → old ≡ a ++ x ++ b → length a ≡ k → length x ≡ length y → new ≡ a ++ y ++ b

pub writes_sets : (old new y : List ℕ) (i k : ℕ) → i ≡ k → new ≡ sets old i y → Writes old new k y
writes_sets old new y i k z e a x b f l m =
    let long : length (a ++ x) ≡ k + length y = omega (arith, length-append a x) in
    let fits : k + length y ≤ length old = omega (arith, ap length f, length-append (a ++ x) b) in
    e ∙ ap (λ (j : ℕ). sets old j y) z ∙ sets-eq y old k fits
    ∙ ap₂ (λ (u v : List ℕ). u ++ y ++ v) (ap (take k) (f ∙ append_assoc a x b) ∙ take_at a (x ++ b) k l)
    (ap (drop (k + length y)) f ∙ drop_at (a ++ x) b (k + length y) long)

-- and back, where it fits
pub sets_writes : (old new y : List ℕ) (k : ℕ) → k + length y ≤ length old → Writes old new k y → new ≡ sets old k y
sets_writes old new y k h w =
    let a = take k old in
    let x = take (length y) (drop k old) in
    let b = drop (length y) (drop k old) in
    let parts : old ≡ a ++ x ++ b =
    sym (take-append-drop k old) ∙ ap (λ (t : List ℕ). a ++ t) (sym (take-append-drop (length y) (drop k old))) ∙ sym (append_assoc a x b) in
    let la : length a ≡ k = length-take-le k old (omega arith) in
    let lx : length x ≡ length y = length-take-le (length y) (drop k old) (omega (arith, length-drop k old)) in
    w a x b parts la lx ∙ sym (writes_sets old (sets old k y) y k k refl refl a x b parts la lx)

-- a set
pub writes_set : (old new : List ℕ) (i k s : ℕ) → i ≡ k → new ≡ with_set old i s → Writes old new k (set_bytes s)
writes_set old new i k s z e a x b f l m = put_writes old new i s e a x b f (l ∙ sym z) (m ∙ set_length_lem s)

-- one after the other
pub writes_both : (old mid new y z : List ℕ) (k i : ℕ) → i ≡ k + length y → Writes old mid k y → Writes mid new i z → Writes old new k (y ++ z)
writes_both old mid new y z k i c f g a x b e l m =
    let n = length y in
    let s : length (y ++ z) ≡ n + length z = length-append y z in
    let u = take n x in
    let v = drop n x in
    let lu : length u ≡ n = length-take-le n x (omega arith) in
    let first : old ≡ a ++ u ++ (v ++ b) = e ∙ ap (λ (t : List ℕ). a ++ t ++ b) (sym (take-append-drop n x)) ∙ simp append_assoc in
    let second : mid ≡ (a ++ y) ++ v ++ b = f a u (v ++ b) first l lu ∙ sym (append_assoc (a ++ y) v b) in
    g (a ++ y) v b second (omega (arith, length-append a y)) (omega (arith, length-drop n x)) ∙ ap (λ (t : List ℕ). t ++ b) (append_assoc a y z)

-- ---- a field

-- the bytes v stand in xs from k on
pub record Field (xs v : List ℕ) (k : ℕ) : Type 0 where
  pub front : List ℕ
  pub back : List ℕ
  pub parts : xs ≡ front ++ v ++ back
  pub long : length front ≡ k

pub field_written : (old new u v : List ℕ) (k : ℕ) (F : Field old u k) → length u ≡ length v → Writes old new k v → new ≡ F.front ++ v ++ F.back
field_written old new u v k F e w = w F.front u F.back F.parts F.long e

-- ---- read

pub field_set : (s : List ℕ) (k n : ℕ) → Field s (set_bytes n) k → n < 2 ^ width → set_at s k ≡ n
field_set s k n F h = at_reads s k (set_at s k) refl F.front F.back n F.parts F.long h

byte_in : (s v : List ℕ) (k : ℕ) (F : Field s v k) (i : ℕ) → get_or s (k + i) 0 ≡ get_or (v ++ F.back) i 0
byte_in s v k F i =
    ap (λ (t : List ℕ). get_or t (k + i) 0) (F.parts ∙ append_assoc F.front v F.back)
    ∙ ap (λ (j : ℕ). get_or (F.front ++ (v ++ F.back)) (j + i) 0) (sym F.long) ∙ get_or-append-add F.front (v ++ F.back) i 0

two_of : (x : ℕ) → x / 256 % 256 * 256 + x % 256 ≡ x % 65536
two_of x = omega arith

four_of : (n : ℕ) → (n / 16777216 % 256 * 256 + n / 65536 % 256) * 65536 + (n / 256 % 256 * 256 + n % 256) ≡ n % 2 ^ 32
four_of n =
    let h = n / 65536 in
    let d : n / 16777216 ≡ h / 256 = sym (div-div-eq-div-mul n 65536 256) in
    let e : n / 16777216 % 256 * 256 + n / 65536 % 256 ≡ h % 65536 = ap (λ (x : ℕ). x % 256 * 256 + n / 65536 % 256) d ∙ two_of h in
    ap₂ (λ (x y : ℕ). x * 65536 + y) e (two_of n) ∙ last
  where
    last : n / 65536 % 65536 * 65536 + n % 65536 ≡ n % 2 ^ 32
    last = omega arith

pub field_two : (s : List ℕ) (k n : ℕ) → Field s (bytes 2 n) k → two_at s k ≡ n % 65536
field_two s k n F =
    let byte : (i : ℕ) → get_or s (k + i) 0 ≡ get_or (n / 256 % 256 ∷ n % 256 ∷ F.back) i 0 =
    λ i. byte_in s (bytes 2 n) k F i ∙ ap (λ (t : List ℕ). get_or (t ++ F.back) i 0) (two_bytes n) in
    let b0 : get_or s k 0 ≡ n / 256 % 256 = ap (λ (j : ℕ). get_or s j 0) (let z : k ≡ k + 0 = omega arith in z) ∙ byte 0 in
    ap₂ (λ (x y : ℕ). x * 256 + y) b0 (byte 1) ∙ two_of n

pub field_four : (s : List ℕ) (k n : ℕ) → Field s (bytes 4 n) k → four_at s k ≡ n % 2 ^ 32
field_four s k n F =
    let byte : (i : ℕ) → get_or s (k + i) 0 ≡ get_or (n / 16777216 % 256 ∷ n / 65536 % 256 ∷ n / 256 % 256 ∷ n % 256 ∷ F.back) i 0 =
    λ i. byte_in s (bytes 4 n) k F i ∙ ap (λ (t : List ℕ). get_or (t ++ F.back) i 0) (four_bytes n) in
    let b0 : get_or s k 0 ≡ n / 16777216 % 256 = ap (λ (j : ℕ). get_or s j 0) (let z : k ≡ k + 0 = omega arith in z) ∙ byte 0 in
    let b3 : get_or s (k + 2 + 1) 0 ≡ n % 256 = ap (λ (j : ℕ). get_or s j 0) (let z : k + 2 + 1 ≡ k + 3 = omega arith in z) ∙ byte 3 in
    let high : two_at s k ≡ n / 16777216 % 256 * 256 + n / 65536 % 256 = ap₂ (λ (x y : ℕ). x * 256 + y) b0 (byte 1) in
    let low : two_at s (k + 2) ≡ n / 256 % 256 * 256 + n % 256 = ap₂ (λ (x y : ℕ). x * 256 + y) (byte 2) b3 in
    ap₂ (λ (x y : ℕ). x * 65536 + y) high low ∙ four_of n

-- past the end
pub byte_past : (s : List ℕ) (i : ℕ) → length s ≤ i → get_or s i 0 ≡ 0
byte_past s i h = get_or-eq_default s 0 h

-- read at a place that is as far as a machine word counts
pub byte_saturated : (s : List ℕ) (i j k m x : ℕ) → length s ≤ m → k ≡ min (i + j) m → x ≡ get_or s k 0 → x ≡ get_or s (i + j) 0
byte_saturated s i j k m x h e f = go (lt_or_le m (i + j))
  where
    go : (m < i + j) ⊎ (i + j ≤ m) → x ≡ get_or s (i + j) 0
    go (inl l) = f ∙ byte_past s k (omega arith) ∙ sym (byte_past s (i + j) (omega arith))
    go (inr l) = f ∙ ap (λ (n : ℕ). get_or s n 0) (let z : k ≡ i + j = omega arith in z)

-- made of bytes that were read one by one
module _ (s y : List ℕ) (i x : ℕ) where
  first : (get_or y 0 0 ≡ get_or s (i + 0) 0) → get_or y 0 0 ≡ get_or s i 0
  first e = e ∙ ap (λ (n : ℕ). get_or s n 0) (let z : i + 0 ≡ i = omega arith in z)

  pub two_made : ((j : ℕ) → j < 2 → get_or y j 0 ≡ get_or s (i + j) 0) → x ≡ get_or y 0 0 * 256 + get_or y 1 0 → x ≡ two_at s i
  two_made f e = e ∙ ap₂ (λ (a b : ℕ). a * 256 + b) (first (f 0 (omega arith))) (f 1 (omega arith))

  pub four_made : ((j : ℕ) → j < 4 → get_or y j 0 ≡ get_or s (i + j) 0)
      → x ≡ get_or y 0 0 * 16777216 + get_or y 1 0 * 65536 + get_or y 2 0 * 256 + get_or y 3 0 → x ≡ four_at s i
  four_made f e =
      let d : get_or y 3 0 ≡ get_or s (i + 2 + 1) 0 = f 3 (omega arith) ∙ ap (λ (n : ℕ). get_or s n 0) (let z : i + 3 ≡ i + 2 + 1 = omega arith in z) in
      omega (arith, e, first (f 0 (omega arith)), f 1 (omega arith), f 2 (omega arith), d)

-- ---- written as the machine gives them

-- y in the place of k bytes
pub sets_placed : (old y z : List ℕ) (at k : ℕ) → at + k ≤ length old → length z ≡ k → y ≡ z → take at old ++ (y ++ drop k (drop at old)) ≡ sets old at z
sets_placed old y z at k h l e =
    ap (λ (t : List ℕ). take at old ++ (t ++ drop k (drop at old))) e ∙ sym (append_assoc (take at old) z (drop k (drop at old)))
    ∙ ap (λ (t : List ℕ). take at old ++ z ++ t) (drop-drop k at old ∙ ap (λ (n : ℕ). drop (at + n) old) (sym l))
    ∙ sym (sets-eq z old at (omega (arith, l)))

pub put_low : (n v : ℕ) → n ≤ 8 → (all d : List ℕ) → all ≡ bytes 8 v → d ≡ take (8 - (8 - n)) (drop (8 - n) all) → d ≡ bytes n v
put_low n v h all d e f =
    f ∙ ap (take (8 - (8 - n))) (ap (drop (8 - n)) e ∙ low_bytes (8 - n) n 8 v (omega arith))
    ∙ take_all (8 - (8 - n)) (bytes n v) (omega (arith, bytes_length n v))
