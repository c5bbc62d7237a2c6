use Rattle.std.proofs.Common.{◌≡◌, length}
use Rattle.typed.proofs.input.Lines.pass_over.Given as goal

abbrev pub invariant-loop : goal.invariant-loop
invariant-loop g l = length l.self.buf.now ≡ length l.initial.self.buf.now
