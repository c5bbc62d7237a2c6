use Rattle.sets.proofs.OneWord.{shift_one}
use borrow.Author.Tests.{lt-ltb, le-ltb}
use Rattle.sets.specs.Sets.{one}
use Rattle.sets.specs.Value.{num}
use Rattle.sets.proofs.single.Goals as goal

pub returns-then-q-lt64 : goal.returns-then-q-lt64
unfolding num one
returns-then-q-lt64 c = simp (lt-ltb _ _ c.if-q-lt64.true) (shift_one 64 _ c.if-q-lt64.true)

pub returns-else-q-lt64 : goal.returns-else-q-lt64
unfolding num one
returns-else-q-lt64 c = simp (le-ltb _ _ c.if-q-lt64.false)
