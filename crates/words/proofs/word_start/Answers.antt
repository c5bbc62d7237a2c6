use native.Mathlib.Omega.{arith}
use Rattle.words.proofs.WordLaws.{word_zero, word_beyond}
use Rattle.words.proofs.word_start.Goals as goal

pub loop-init : goal.loop-init
loop-init c = word_zero _ _ c.skip_blanks-at.ensures.0

pub returns-then-line-at : goal.returns-then-line-at
returns-then-line-at c = word_beyond _ _ _ c.loop.invariant _ (omega arith) (omega arith)
