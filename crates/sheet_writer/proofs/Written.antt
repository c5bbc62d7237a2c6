-- The bytes of a link and of a head, and links written one after the other. Assumes nothing.
use mathlib.Core.Path.{◌≡◌, refl, sym, ap, ap₂, ◌∙◌}
use mathlib.Core.List.{[], List, ◌∷◌, ◌++◌}
use Prim.Native.Nat.{ℕ, suc, ◌+◌, ◌*◌, ◌/◌, ◌%◌, ◌≤◌}
use native.Mathlib.Omega.{arith}
use native.Mathlib.Numerals.{add-one}
use lib.ListN.{length, drop, set}
use lib.Seq.{sets}
use Rattle.sets.specs.Value.{bytes}
use Rattle.sets.proofs.SetBytes.{one_byte, two_bytes}
use Rattle.records.proofs.Numbers.{writes_sets}
use Rattle.records.proofs.InBytes.{record_bytes, records_none, records_more, records_length, records_stored}
use Rattle.percolation.specs.Links.{Link, link}
use Rattle.std.specs.Prelude.{Ok, Err}
use Rattle.answers.specs.declared.Refusal.{Refusal}
use Rattle.answers.specs.Answers.{Answer}
use Rattle.answers.specs.Faults.{number_of}
use Rattle.answers.specs.Verdict.{accepted, refused}
use Rattle.sheet.specs.Sheet.{list_of}
use Rattle.sheet.specs.Network.{Network}
use Rattle.sheet.proofs.Said.{refused_writes, accepted_writes}
use Rattle.sheet_writer.specs.Writing.{link_bytes, head_bytes, sheet_of, check_write, WriteMeets}
use Rattle.sheet.proofs.Lists.{list_of_none, list_of_more, list_of_length}

-- as they are written: single bytes, then a number of two
pub link_put : (low high weight : ℕ) → link_bytes (link low high weight) ≡ low % 256 ∷ high % 256 ∷ bytes 2 weight
unfolding link_bytes
link_put low high weight = ap₂ (λ (x y : List ℕ). x ++ y ++ bytes 2 weight) (one_byte low) (one_byte high)

-- single bytes one after the other, then more
pub ones_then : (out : List ℕ) (k low high : ℕ) (y : List ℕ)
    → sets (sets (sets out k (bytes 1 low)) (k + 1) (bytes 1 high)) (k + 2) y ≡ sets out k (low % 256 ∷ high % 256 ∷ y)
ones_then out k low high y =
    ap₂ (λ (a b : List ℕ). sets (sets (sets out k a) (k + 1) b) (k + 2) y) (one_byte low) (one_byte high)
    ∙ ap₂ (λ (i j : ℕ). sets (set (set out k (low % 256)) i (high % 256)) j y) (add-one k) (let e : k + 2 ≡ suc (suc k) = omega arith in e)

pub link_bytes_lem : (low high weight : ℕ) → link_bytes (link low high weight) ≡ low % 256 ∷ high % 256 ∷ weight / 256 % 256 ∷ weight % 256 ∷ []
link_bytes_lem low high weight = link_put low high weight ∙ ap (λ (z : List ℕ). low % 256 ∷ high % 256 ∷ z) (two_bytes weight)

pub head_put : (p m : ℕ) → head_bytes p m ≡ 80 ∷ 76 ∷ 83 ∷ 0 ∷ 1 ∷ p % 256 ∷ bytes 2 m
unfolding head_bytes
head_put p m = ap₂ (λ (x y : List ℕ). 80 ∷ 76 ∷ 83 ∷ x ++ y ++ bytes 2 m) (two_bytes 1) (one_byte p)

pub head_bytes_lem : (p m : ℕ) → head_bytes p m ≡ 80 ∷ 76 ∷ 83 ∷ 0 ∷ 1 ∷ p % 256 ∷ m / 256 % 256 ∷ m % 256 ∷ []
head_bytes_lem p m = head_put p m ∙ ap (λ (z : List ℕ). 80 ∷ 76 ∷ 83 ∷ 0 ∷ 1 ∷ p % 256 ∷ z) (two_bytes m)

pub link_length : (l : Link) → length (link_bytes l) ≡ 4
link_length l = ap length (link_bytes_lem l.low l.high l.weight)

-- the bytes of the first n links that f gives
abbrev pub links_bytes : (ℕ → Link) → ℕ → List ℕ
links_bytes f n = record_bytes link_bytes (list_of f n)

pub bytes_none : (f : ℕ → Link) → links_bytes f 0 ≡ []
bytes_none f = ap (record_bytes link_bytes) (list_of_none f) ∙ records_none link_bytes

pub bytes_more : (f : ℕ → Link) (n : ℕ) → links_bytes f (suc n) ≡ links_bytes f n ++ link_bytes (f n)
bytes_more f n = ap (record_bytes link_bytes) (list_of_more f n) ∙ records_more link_bytes (list_of f n) (f n)

pub links_length : (f : ℕ → Link) (n : ℕ) → length (links_bytes f n) ≡ 4 * n
links_length f n = omega (arith, records_length link_bytes 4 link_length (list_of f n), list_of_length f n)

-- ---- into lent space

pub stored_none : (f : ℕ → Link) (d : List ℕ) → d ≡ links_bytes f 0 ++ drop (4 * 0) d
stored_none f d = sym (ap (λ (l : List ℕ). l ++ d) (bytes_none f))

pub stored_more : (f : ℕ → Link) (j : ℕ) (d t u : List ℕ) → 4 * j + 4 ≤ length t → t ≡ links_bytes f j ++ drop (4 * j) d → u ≡ sets t (4 * j) (link_bytes (f j))
    → u ≡ links_bytes f (j + 1) ++ drop (4 * (j + 1)) d
stored_more f j d t u h e g =
    records_stored link_bytes 4 link_length (list_of f j) (f j) d t u (4 * j) (omega (arith, list_of_length f j)) h e
    (writes_sets t u (link_bytes (f j)) (4 * j) (4 * j) refl g)
    ∙ ap₂ (λ (l : List Link) (k : ℕ). record_bytes link_bytes l ++ drop k d) (sym (list_of_more f j) ∙ ap (list_of f) (sym (add-one j)))
    (let z : 4 * j + 4 ≡ 4 * (j + 1) = omega arith in z)

-- ---- what `write` answers and leaves

pub write_refused : (n : Network) (old : List ℕ) (r : Answer) (x : Refusal) → r ≡ Err x → check_write n (length old) ≡ refused (number_of x.fault) x.place
    → WriteMeets n old r old
write_refused n old r x e f =
    let t = refused_writes (check_write n (length old)) (length (sheet_of n)) (sheet_of n) old r x e f in
    record { answer = t.0; bytes = t.1 }

pub write_accepted : (n : Network) (old out : List ℕ) (m : ℕ) → check_write n (length old) ≡ accepted → m ≡ length (sheet_of n)
    → out ≡ sheet_of n ++ drop (length (sheet_of n)) old → WriteMeets n old (Ok m) out
write_accepted n old out m v e f =
    let t = accepted_writes (check_write n (length old)) (length (sheet_of n)) m (sheet_of n) old out v e f in
    record { answer = t.0; bytes = t.1 }
