-- The bytes of a number and of a set: how many they are and which, written one after the other over lent space, and read back. Assumes nothing.
use mathlib.Core.Path.{◌≡◌, refl, sym, ap, ap₂, ◌∙◌}
use mathlib.Core.Bool.{Bool, true, false, cond}
use mathlib.Core.Logic.{◌⊎◌, inl, inr}
use mathlib.Core.List.{List, [], ◌∷◌, ◌++◌, append_assoc, foldl}
use Prim.Native.Nat.{ℕ, zero, suc, ◌+◌, ◌-◌, ◌*◌, ◌/◌, ◌%◌, ◌^◌, ◌≤◌, ◌<◌}
use native.Mathlib.Omega.{arith}
use native.Mathlib.Nat.{pow-succ', one-le-pow, div-one, mod-lt, mod-eq_of_lt}
use lib.Arith.{mod-mul}
use lib.Dec.{leb}
use lib.ListN.{length, get_or, take, drop, length-append, length-drop, get_or-eq_default}
use lib.Seq.{take_at, drop_at, drop-drop, get_or-take, get_or-drop, length-take-le}
use borrow.Author.Tests.{le-leb, leb-true}
use Rattle.std.proofs.Common.{length-take}
use Rattle.std.proofs.lemmas.Nat.{be_bytes_8}
use Rattle.std.specs.Int.{w64, bytes_high_first, from_be_bytes}
use Rattle.sets.specs.Value.{width, bytes, set_bytes, set_length, from_bytes, with_set, set_at}
use Rattle.sets.proofs.Tests.{lt_or_le, iff, cond_go, cond_stop}

pub bytes_length : (m n : ℕ) → length (bytes m n) ≡ m
unfolding bytes
bytes_length zero n = refl
bytes_length (suc m) n = ap suc (bytes_length m n)

-- each is a byte
pub bytes_small : (m n i : ℕ) → get_or (bytes m n) i 0 < 256
unfolding bytes
bytes_small zero n i = omega arith
bytes_small (suc m) n zero = mod-lt (n / 256 ^ m) (omega arith)
bytes_small (suc m) n (suc i) = bytes_small m n i

pub set_length_lem : (n : ℕ) → length (set_bytes n) ≡ set_length
unfolding set_bytes
set_length_lem n = bytes_length set_length n

pub one_byte : (x : ℕ) → bytes 1 x ≡ x % 256 ∷ []
unfolding bytes
one_byte x = ap (λ (n : ℕ). n % 256 ∷ []) (div-one x)

pub two_bytes : (x : ℕ) → bytes 2 x ≡ x / 256 % 256 ∷ x % 256 ∷ []
unfolding bytes
two_bytes x = ap (λ (n : ℕ). x / 256 % 256 ∷ n % 256 ∷ []) (div-one x)

pub four_bytes : (x : ℕ) → bytes 4 x ≡ x / 16777216 % 256 ∷ x / 65536 % 256 ∷ x / 256 % 256 ∷ x % 256 ∷ []
unfolding bytes
four_bytes x = ap (λ (n : ℕ). x / 16777216 % 256 ∷ x / 65536 % 256 ∷ x / 256 % 256 ∷ n % 256 ∷ []) (div-one x)

-- the byte at i, from the front
byte_at : (m n i : ℕ) → i < m → get_or (bytes m n) i 0 ≡ n / 256 ^ (m - 1 - i) % 256
unfolding bytes
byte_at zero n i h = absurd (omega arith)
byte_at (suc m) n zero h = ap (λ (k : ℕ). n / 256 ^ k % 256) (let e : m ≡ suc m - 1 - 0 = omega arith in e)
byte_at (suc m) n (suc i) h =
    byte_at m n i (omega arith) ∙ ap (λ (k : ℕ). n / 256 ^ k % 256) (let e : m - 1 - i ≡ suc m - 1 - suc i = omega arith in e)

-- what the machine's number gives, high byte first
pub high_first : (m n : ℕ) → bytes_high_first m n ≡ bytes m n
unfolding bytes
high_first zero n = refl
high_first (suc zero) n = ap (λ (x : ℕ). x % 256 ∷ []) (sym (div-one n))
high_first (suc (suc m)) n = ap (λ (l : List ℕ). n / 256 ^ suc m % 256 ∷ l) (high_first (suc m) n)

-- ---- written

-- they fit, and stand there: y in the place of k bytes
pub put_all : (d y : List ℕ) (at k n : ℕ) → leb (at + set_length) (length d) ≡ true → k ≡ set_length → y ≡ set_bytes n
    → take at d ++ (y ++ drop k (drop at d)) ≡ with_set d at n
unfolding with_set
put_all d y at k n t z e =
    sym (append_assoc (take at d) y (drop k (drop at d)))
    ∙ ap₂ (λ (u v : List ℕ). take at d ++ u ++ v) e (drop-drop k at d ∙ ap (λ (j : ℕ). drop (at + j) d) z)
    ∙ cond_go (leb (at + set_length) (length d)) (take at d ++ set_bytes n ++ drop (at + set_length) d) d t refl

-- where they do not fit nothing changes
pub put_none : (d : List ℕ) (at n : ℕ) → leb (at + set_length) (length d) ≡ false → d ≡ with_set d at n
unfolding with_set
put_none d at n f = cond_stop (leb (at + set_length) (length d)) (take at d ++ set_bytes n ++ drop (at + set_length) d) d f refl

-- `new` is `old` with the bytes of s at k
abbrev pub WritesSet : List ℕ → List ℕ → ℕ → ℕ → Type 0
WritesSet old new k s = (a x b : List ℕ) → old ≡ a ++ x ++ b → length a ≡ k → length x ≡ set_length → new ≡ a ++ set_bytes s ++ b

pub put_writes : (old new : List ℕ) (k s : ℕ) → new ≡ with_set old k s → WritesSet old new k s
unfolding with_set
put_writes old new k s w a x b e l m =
    let long : length (a ++ x) ≡ k + set_length = omega (arith, length-append a x) in
    let fits : k + set_length ≤ length old = omega (arith, ap length e, length-append (a ++ x) b) in
    w
    ∙ sym (cond_go (leb (k + set_length) (length old)) (take k old ++ set_bytes s ++ drop (k + set_length) old) old (le-leb (k + set_length) (length old) fits) refl)
    ∙ ap₂ (λ (u v : List ℕ). u ++ set_bytes s ++ v) (ap (take k) (e ∙ append_assoc a x b) ∙ take_at a (x ++ b) k l)
    (ap (drop (k + set_length)) e ∙ drop_at (a ++ x) b (k + set_length) long)

-- ---- read

-- the number so far, with one byte more
abbrev more : ℕ → ℕ → ℕ
more n b = n * 256 + b

-- the bytes of a set from `at` on
abbrev bytes_at : List ℕ → ℕ → List ℕ
bytes_at s at = take set_length (drop at s)

-- where there are too few it is the empty set
pub read_few : (s : List ℕ) (at n : ℕ) → leb (at + set_length) (length s) ≡ false → n ≡ 0 → n ≡ set_at s at
unfolding set_at
read_few s at n f e = cond_stop (leb (at + set_length) (length s)) (from_bytes (bytes_at s at)) 0 f e

-- the bytes of a number give it back
fold_bytes : (m n a : ℕ) → foldl more a (bytes m n) ≡ a * 256 ^ m + n % 256 ^ m
unfolding bytes
fold_bytes zero n a = omega arith
fold_bytes (suc m) n a =
    fold_bytes m n (more a (n / 256 ^ m % 256))
    ∙ apart a (256 ^ m) (n / 256 ^ m % 256) (n % 256 ^ m) (n % (256 * 256 ^ m))
    (mod-mul n {m = 256} {c = 256 ^ m} (omega arith) (one-le-pow m 256 (omega arith)))
    ∙ ap (λ (p : ℕ). a * p + n % p) (sym (pow-succ' 256 m))
  where
    apart : (x p d r q : ℕ) → q ≡ d * p + r → (x * 256 + d) * p + r ≡ x * (256 * p) + q
    apart x p d r q e = omega (arith, e)

pub from_bytes_lem : (m n : ℕ) → n < 256 ^ m → from_bytes (bytes m n) ≡ n
unfolding from_bytes
from_bytes_lem m n h = let e : 0 * 256 ^ m + n % 256 ^ m ≡ n % 256 ^ m = omega arith in fold_bytes m n 0 ∙ e ∙ mod-eq_of_lt h

-- a part of a list of bytes is one too
part_small : (s : List ℕ) (at i : ℕ) → ((j : ℕ) → get_or s j 0 < 256) → get_or (bytes_at s at) i 0 < 256
part_small s at i small = go (lt_or_le i set_length)
  where
    go : (i < set_length) ⊎ (set_length ≤ i) → get_or (bytes_at s at) i 0 < 256
    go (inl h) = rw (get_or-take set_length (drop at s) i 0 h ∙ get_or-drop at s i 0) (small (at + i))
    go (inr h) =
        let l : length (bytes_at s at) ≤ i = omega (arith, length-take set_length (drop at s)) in
        rw (get_or-eq_default (bytes_at s at) 0 l) (omega arith)

-- all of them are read, and the machine makes n of them
pub read_all : (s bs : List ℕ) (at k n : ℕ) → leb (at + set_length) (length s) ≡ true → ((i : ℕ) → get_or s i 0 < 256) → k ≡ set_length
    → bs ≡ take k (drop at s) → n < 2 ^ width → n ≡ from_be_bytes w64 bs → n ≡ set_at s at
unfolding set_at
read_all s bs at k n t small z e h m =
    let there : bs ≡ bytes_at s at = e ∙ ap (λ (j : ℕ). take j (drop at s)) z in
    let long : length bs ≡ 8 =
    ap length there ∙ length-take-le set_length (drop at s) (omega (arith, length-drop at s, leb-true (at + set_length) (length s) t)) in
    let back : bytes set_length n ≡ bs =
    sym (high_first set_length n) ∙ be_bytes_8 bs n long (λ i. rw there (part_small s at i small)) m in
    sym (from_bytes_lem set_length n h) ∙ ap from_bytes (back ∙ there)
    ∙ cond_go (leb (at + set_length) (length s)) (from_bytes (bytes_at s at)) 0 t refl

-- m is the number of the set whose bytes stand at k
abbrev pub ReadsSet : List ℕ → ℕ → ℕ → Type 0
ReadsSet src k m = (a b : List ℕ) (n : ℕ) → src ≡ a ++ set_bytes n ++ b → length a ≡ k → n < 2 ^ width → m ≡ n

pub at_reads : (src : List ℕ) (k m : ℕ) → m ≡ set_at src k → ReadsSet src k m
unfolding set_at set_bytes
at_reads src k m r a b n e l h =
    let long : k + set_length ≤ length src = omega (arith, ap length e, length-append (a ++ set_bytes n) b, length-append a (set_bytes n), set_length_lem n) in
    let there : bytes_at src k ≡ set_bytes n =
    ap (λ (s : List ℕ). take set_length (drop k s)) (e ∙ append_assoc a (set_bytes n) b)
    ∙ ap (take set_length) (drop_at a (set_bytes n ++ b) k l) ∙ take_at (set_bytes n) b set_length (set_length_lem n) in
    r ∙ sym (cond_go (leb (k + set_length) (length src)) (from_bytes (bytes_at src k)) 0 (le-leb (k + set_length) (length src) long) refl)
    ∙ ap from_bytes there ∙ from_bytes_lem set_length n h

-- the low ones of some bytes of a number
pub low_bytes : (k n m x : ℕ) → m ≡ k + n → drop k (bytes m x) ≡ bytes n x
unfolding bytes
low_bytes zero n m x e = ap (λ (j : ℕ). bytes j x) (let f : m ≡ n = omega arith in f)
low_bytes (suc k) n zero x e = absurd (omega arith)
low_bytes (suc k) n (suc m) x e = low_bytes k n m x (omega arith)

-- a set read behind the first n bytes
pub set_behind : (b : List ℕ) (n i : ℕ) → set_at (drop n b) i ≡ set_at b (n + i)
unfolding set_at
set_behind b n i =
    ap₂ (λ (t : Bool) (x : List ℕ). cond t (from_bytes (take set_length x)) 0)
    (iff (leb (i + set_length) (length (drop n b))) (leb (n + i + set_length) (length b))
    (λ t. le-leb (n + i + set_length) (length b) (omega (arith, length-drop n b, leb-true (i + set_length) (length (drop n b)) t)))
    (λ t. le-leb (i + set_length) (length (drop n b)) (omega (arith, length-drop n b, leb-true (n + i + set_length) (length b) t))))
    (drop-drop i n b)
