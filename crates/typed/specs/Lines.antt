-- What a buffer of input keeps, and where lines stand in it. Assumes nothing.
use Rattle.std.specs.Prelude.{List, ◌≢◌, ◌<◌, ◌≤◌, ◌-◌, ℕ, slice_index, length, take, drop, Option, Result, IfSome, IfOk}
use Rattle.std.specs.declared.ops.Range.{Range}
use Rattle.typed.specs.declared.input.Lines.{Lines}
use Rattle.typed.specs.declared.input.TooLong.{TooLong}

-- the bytes that were read and not yet given
abbrev pub kept : Lines → List ℕ
kept l = take (l.to - l.from) (drop l.from l.buf.now)

-- no newline stands from place a to before place e
abbrev pub NoNewline : List ℕ → ℕ → ℕ → Type 0
NoNewline buffer a e = (k : ℕ) → a ≤ k → k < e → slice_index buffer k ≢ 10

-- the bytes of a line
abbrev pub line_at : Range ℕ → List ℕ → List ℕ
line_at r buffer = take (r.end - r.start) (drop r.start buffer)

-- a line lies within the buffer, and has no newline
abbrev pub LineIn : Range ℕ → List ℕ → Type 0
LineIn r buffer = (r.start ≤ r.end) × (r.end ≤ length buffer) × NoNewline buffer r.start r.end

-- and so does the next line, where there is one and it is not too long
abbrev pub NextIn : Option (Result (Range ℕ) TooLong) → List ℕ → Type 0
NextIn r buffer = IfSome r (λ next. IfOk next (λ line. LineIn line buffer))
