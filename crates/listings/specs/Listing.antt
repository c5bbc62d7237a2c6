-- The room that an output needs, and what a call that writes one leaves. Assumes nothing.
use Rattle.std.specs.Prelude.{◌≡◌, List, ◌++◌, ℕ, leb, length, drop}
use Rattle.answers.specs.Verdict.{Verdict, unless, written}
use Rattle.answers.specs.Answers.{Answer, says, say_of}
use Rattle.percolation.specs.Percolate.{Community, listing_bytes}

-- 16: an output of n bytes is shorter than the bytes that are to be written
unfoldable pub check_out : List ℕ → ℕ → Verdict
unfolding unless
check_out bytes n = unless (leb (length bytes) n) 16 0

-- what a call must do whose verdict is v: r is its answer, n what that counts, B what it writes, `old` the output before it and `out` that after it
pub record Writes (v : Verdict) (n : ℕ) (B old : List ℕ) (r : Answer) (out : List ℕ) : Type 0 where
  pub answer : says r ≡ say_of v n
  pub bytes : out ≡ written v B old

-- the listing C, or 16
abbrev pub WritesListing : List Community → List ℕ → Answer → List ℕ → Type 0
WritesListing C old r out = Writes (check_out (listing_bytes C) (length old)) (length C) (listing_bytes C) old r out

-- a call that is not refused gives C: n is what it counts, `out` the output, which was `old` before it
pub record Gives (C : List Community) (old : List ℕ) (n : ℕ) (out : List ℕ) : Type 0 where
  pub count : n ≡ length C
  pub bytes : out ≡ listing_bytes C ++ drop (length (listing_bytes C)) old
