-- The lines of a text that are not read yet. Assumes nothing.
use mathlib.Core.Path.{◌≡◌, refl, ap}
use mathlib.Core.Logic.{◌⊎◌, inl, inr}
use mathlib.Core.List.{List, [], ◌∷◌}
use Prim.Native.Nat.{ℕ, ◌+◌, ◌-◌, ◌<◌, ◌≤◌}
use native.Mathlib.Omega.{arith}
use lib.Dec.{eqb, leb-zero}
use lib.ListN.{length, take, drop}
use borrow.Author.Tests.{le-leb, lt-leb}
use Rattle.sets.proofs.Tests.{lt_or_le}
use Rattle.words.specs.Lines.{Line, line, lines_of, leading}
use Rattle.words.proofs.Pieces.{line_end_fits, line_last, line_first}
use Rattle.text.specs.Walk.{rest_of}

pub rest_all : (text : List ℕ) → rest_of text 0 ≡ lines_of text
unfolding rest_of lines_of
rest_all text = rw (rest_of, leb-zero (length text)) refl

pub rest_end : (text : List ℕ) (at : ℕ) → length text < at → rest_of text at ≡ []
unfolding rest_of
rest_end text at h = rw (rest_of, lt-leb at (length text) h) refl

-- the next line, and those behind it
pub rest_next : (text : List ℕ) (at e : ℕ) → at ≤ length text → e ≡ at + leading (eqb 10) (drop at text)
    → rest_of text at ≡ line at (take (e - at) (drop at text)) ∷ rest_of text (e + 1)
unfolding rest_of
rest_next text at e h d = go (lt_or_le e (length text))
  where
    go : (e < length text) ⊎ (length text ≤ e) → rest_of text at ≡ line at (take (e - at) (drop at text)) ∷ rest_of text (e + 1)
    go (inl l) = rw (rest_of, le-leb at (length text) h, le-leb (e + 1) (length text) (omega arith)) (line_first text at e h d l)
    go (inr l) =
        let f : e ≤ length text = omega (arith, d, line_end_fits (eqb 10) text at h) in
        rw (rest_of, le-leb at (length text) h, lt-leb (e + 1) (length text) (omega arith)) (line_last text at e h d (omega arith))

-- a line more is a line to go
pub rest_less : (l m : List Line) (x : Line) → l ≡ x ∷ m → length m < length l
rest_less l m x e = omega (arith, ap length e)
