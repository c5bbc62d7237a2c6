-- Model of the code: what the answers of inner functions say. Assumes nothing.
use Rattle.std.specs.Prelude.{ℕ, Result, Ok, Err}
use Rattle.answers.specs.declared.fault.Fault.{Fault}
use Rattle.answers.specs.declared.Refusal.{Refusal}
use Rattle.answers.specs.Faults.{number_of}
use Rattle.answers.specs.Verdict.{Verdict, accepted, refused}

-- one check on the way
abbrev pub verdict : Result Unit Refusal → Verdict
verdict (Ok u) = accepted
verdict (Err r) = refused (number_of r.fault) r.place

-- the number of the fault that a test found; 0 where it found none
abbrev pub fault_number : Result Unit Fault → ℕ
fault_number (Ok u) = 0
fault_number (Err f) = number_of f
