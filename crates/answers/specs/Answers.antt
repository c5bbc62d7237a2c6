-- What an answer says in document 01's numbers and values, and what is right to say. Assumes nothing.
use Rattle.std.specs.Prelude.{ℕ, Result, Ok, Err}
use Rattle.answers.specs.declared.Refusal.{Refusal}
use Rattle.answers.specs.Faults.{number_of}
use Rattle.answers.specs.Verdict.{Verdict, accepted, refused}

-- accepted with a count, or refused with a number and a place
pub data Said : Type 0 where
  counts : ℕ → Said
  refuses : ℕ → ℕ → Said

-- a count, or a refusal
abbrev pub Answer : Type 0
Answer = Result ℕ Refusal

abbrev pub says : Answer → Said
says (Ok n) = counts n
says (Err r) = refuses (number_of r.fault) r.place

-- what is right to say where the verdict is v and the count n
unfoldable pub say_of : Verdict → ℕ → Said
say_of accepted n = counts n
say_of (refused k a) n = refuses k a
