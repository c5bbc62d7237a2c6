use Rattle.std.proofs.Common.{◌≡◌, length, ◌-◌}
use Rattle.typed.specs.Lines.{NoNewline}
use Rattle.typed.proofs.input.Lines.read_line.Given as goal

abbrev pub invariant-loop-self : goal.invariant-loop-self
invariant-loop-self g l = NoNewline l.self.buf.now l.self.from l.self.to × (length l.self.buf.now ≡ length l.initial.self.buf.now)

abbrev pub decreases-loop-self : goal.decreases-loop-self
decreases-loop-self g l = length l.self.buf.now - l.self.to
