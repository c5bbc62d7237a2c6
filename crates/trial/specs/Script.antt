-- How the rows of a script follow each other. Assumes nothing.
use Rattle.std.specs.Prelude.{◌≡◌, ℕ, ◌+◌, ◌≤◌, min, length, take, drop, Option, IfSome}
use Rattle.trial.specs.declared.script.Row.{Row}
use Rattle.trial.specs.declared.script.Lines.{Lines}

-- a row's line stands in what was left of the script, from some byte a on, and the script goes on at some byte b behind a, or at its end
abbrev pub ReadsOn : Lines → Option Row → Lines → Type 0
ReadsOn s result t = IfSome result (λ row.
    (a : ℕ) × (row.line.now ≡ take (length row.line.now) (drop a s.rest.now))
    × ((b : ℕ) × (t.rest.now ≡ drop b s.rest.now) × (min (a + 1) (length s.rest.now) ≤ b)))
