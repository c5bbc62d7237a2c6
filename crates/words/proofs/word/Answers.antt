use mathlib.Core.Path.{refl}
use native.Mathlib.Omega.{arith}
use Rattle.words.proofs.WordLaws.{word_none, word_is}
use Rattle.words.proofs.word.Goals as goal

pub returns-then-line-start : goal.returns-then-line-start
returns-then-line-start c =
    let w = c.word_start-start in
    record { result_value = word_none _ _ _ w.ensures (omega arith); by_index = (w.result, w.ensures, refl) }

pub returns : goal.returns
returns c =
    let w = c.word_start-start in
    record { result_value = word_is _ _ _ w.ensures _ (omega arith) c.word_end-end.ensures.0; by_index = (w.result, w.ensures, refl) }
