-- What is read lies within the space that is lent for it. Assumes nothing.
use Rattle.std.specs.Prelude.{List, ◌≤◌, ℕ, ◌+◌, length, Result, IfOk}
use Rattle.console.specs.declared.say.Stopped.{Stopped}

-- behind the first n bytes as many as the space has, or fewer; a failure says nothing
abbrev pub Within : ℕ → Result ℕ Stopped → List ℕ → Type 0
Within n r space = IfOk r (λ m. n + m ≤ length space)
