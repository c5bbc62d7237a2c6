use Rattle.std.proofs.Common.{◌≡◌, ℕ, ◌≤◌, length, drop}
use Rattle.trial.proofs.script.LinesIterator.next.Given as goal

-- what is left is the end of what was left
abbrev pub invariant-loop-line : goal.invariant-loop-line
invariant-loop-line l = (length l.self.rest.now ≤ length l.initial.self.rest.now) × ((c : ℕ) × l.self.rest.now ≡ drop c l.initial.self.rest.now)

abbrev pub decreases-loop-line : goal.decreases-loop-line
decreases-loop-line l = length l.self.rest.now
