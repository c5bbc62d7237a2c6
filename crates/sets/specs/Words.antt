-- A number held in words of 64 binary digits, the highest first: the number of a list of words, the words of a number, and the words that stand in a list.
-- Any number of words. Assumes nothing.
use Rattle.std.specs.Prelude.{List, [], ◌∷◌, ℕ, zero, suc, ◌+◌, ◌*◌, ◌/◌, ◌%◌, ◌^◌, length, get_or}

-- the number of a list of words
unfoldable pub number : List ℕ → ℕ
number [] = 0
number (w ∷ ws) = w * 2 ^ (64 * length ws) + number ws

-- m words of n
unfoldable pub words : ℕ → ℕ → List ℕ
words zero n = []
words (suc m) n = n / 2 ^ (64 * m) % 2 ^ 64 ∷ words m n

-- the m words that stand from k on
unfoldable pub words_at : ℕ → List ℕ → ℕ → List ℕ
words_at zero xs k = []
words_at (suc m) xs k = get_or xs k 0 ∷ words_at m xs (k + 1)
