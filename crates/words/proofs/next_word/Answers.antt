use native.Mathlib.Omega.{arith}
use Rattle.words.proofs.WordLaws.{word_next}
use Rattle.words.proofs.next_word.Goals as goal

-- src/lib.rt:93:1
pub returns : goal.returns
returns c = (omega arith, λ n w. word_next _ n _ w _ _ (omega arith) (omega arith) c.word_end-end.ensures.0 c.skip_blanks.ensures.0)
