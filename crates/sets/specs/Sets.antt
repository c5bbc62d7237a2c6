-- Sets of parts as plain numbers: a set has the number that is the sum of 2 ^ q over its parts q. No width is named: a set is any number.
-- Callers go by the laws of proofs/ and unfold nothing. Assumes nothing.
use Rattle.std.specs.Prelude.{Bool, true, false, cond, ℕ, zero, suc, ◌+◌, ◌-◌, ◌*◌, ◌/◌, ◌%◌, ◌^◌, ltb, eqb}
use mathlib.Core.List.{List, foldr}
use Rattle.std.specs.Int.Bits.{bit_and, bit_or}
use Rattle.std.specs.Int.Count.{under}
use Rattle.sets.specs.Lists.{keep, below}

-- a binary digit as a test
abbrev pub bit : ℕ → Bool
bit zero = false
bit (suc d) = true

-- q is a part of s
unfoldable pub has : ℕ → ℕ → Bool
has q s = bit (s / 2 ^ q % 2)

-- the set of q alone
unfoldable pub one : ℕ → ℕ
one q = 2 ^ q

-- the set of all parts below p
unfoldable pub full : ℕ → ℕ
full p = 2 ^ p - 1

-- the common parts, and the parts of either
unfoldable pub meet : ℕ → ℕ → ℕ
meet s t = bit_and s t

unfoldable pub union : ℕ → ℕ → ℕ
union s t = bit_or s t

-- the parts of s that t lacks
unfoldable pub minus : ℕ → ℕ → ℕ
minus s t = s - bit_and s t

-- s with q, and s without q
unfoldable pub into : ℕ → ℕ → ℕ
unfolding union one
into q s = union s (one q)

unfoldable pub out : ℕ → ℕ → ℕ
unfolding minus one
out q s = minus s (one q)

-- How many parts s has: its binary digits are added up, lowest first, until none is left. s has no more than s digits.
abbrev pub size_in : ℕ → ℕ → ℕ
size_in zero s = zero
size_in (suc f) zero = zero
size_in (suc f) (suc s) = suc s % 2 + size_in f (suc s / 2)

unfoldable pub size : ℕ → ℕ
size s = size_in s s

-- each part of s is one of t
unfoldable pub sub : ℕ → ℕ → Bool
unfolding meet
sub s t = eqb (meet s t) s

-- the order of sets: by number
unfoldable pub before : ℕ → ℕ → Bool
before s t = ltb s t

-- the lesser of two sets
unfoldable pub lesser : ℕ → ℕ → ℕ
unfolding before
lesser s t = cond (before t s) t s

-- the least part of an s that has one; 0 of the empty set
abbrev pub lowest_in : ℕ → ℕ → ℕ
lowest_in zero s = zero
lowest_in (suc f) zero = zero
lowest_in (suc f) (suc s) = under (suc s % 2) (lowest_in f (suc s / 2))

unfoldable pub lowest : ℕ → ℕ
lowest s = lowest_in s s

-- the k lowest parts of s, or all of them where s has no more
abbrev pub lows_in : ℕ → ℕ → ℕ → ℕ
lows_in zero k s = zero
lows_in (suc f) zero s = zero
lows_in (suc f) (suc k) zero = zero
lows_in (suc f) (suc k) (suc s) = lows_in f (suc k - suc s % 2) (suc s / 2) * 2 + suc s % 2

unfoldable pub lows : ℕ → ℕ → ℕ
lows k s = lows_in s k s

-- the parts of s below p, rising
unfoldable pub members : ℕ → ℕ → List ℕ
unfolding keep below has
members p s = keep (λ q. has q s) (below p)

-- the union of a list of sets
unfoldable pub union_of : List ℕ → ℕ
unfolding union
union_of l = foldr union 0 l

-- the sets of parts below p
unfoldable pub sets_of : ℕ → List ℕ
unfolding below
sets_of p = below (2 ^ p)
