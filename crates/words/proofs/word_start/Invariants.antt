use Rattle.words.specs.Lines.{WordAt}
use Rattle.words.proofs.word_start.Given as goal

-- The invariant: the word of the number that is reached starts at `at`. Assumes nothing.
abbrev pub invariant-loop : goal.invariant-loop
invariant-loop l = WordAt l.line l.counter l.at
