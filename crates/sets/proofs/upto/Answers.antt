use native.Mathlib.Omega.{arith}
use lib.Pow.{pow_pos}
use Rattle.sets.proofs.OneWord.{shift_one, shift_full, word_full}
use Rattle.sets.specs.Sets.{one}
use Rattle.sets.specs.Value.{num}
use Rattle.sets.proofs.upto.Goals as goal

pub overflow_sub-word : goal.overflow_sub-word
unfolding one
overflow_sub-word c = omega (arith, shift_one 64 _ c.if-p-lt64.true, pow_pos c.args.p)

pub returns-then-p-lt64 : goal.returns-then-p-lt64
unfolding num
returns-then-p-lt64 c = shift_full 64 _ c.if-p-lt64.true

pub returns-else-p-lt64 : goal.returns-else-p-lt64
unfolding num
returns-else-p-lt64 c = word_full 64 _ c.if-p-lt64.false
