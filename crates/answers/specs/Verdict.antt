-- Checks and their order: a verdict is "accepted", or a refusal with document 01's number and place. Assumes nothing.
use Rattle.std.specs.Prelude.{Bool, true, false, List, ◌++◌, length, drop, ℕ, zero, suc}

pub data Verdict : Type 0 where
  accepted : Verdict
  refused : ℕ → ℕ → Verdict

infixr 20 ◌then◌
-- one check and then another: the first refusal stands
unfoldable pub ◌then◌ : Verdict → Verdict → Verdict
accepted then w = w
refused n a then w = refused n a

-- refused with the number n at the place a, unless the test passes
unfoldable pub unless : Bool → ℕ → ℕ → Verdict
unless true n a = accepted
unless false n a = refused n a

-- the checks 0, 1, .. n - 1, in order
unfoldable pub in_order : (ℕ → Verdict) → ℕ → Verdict
unfolding ◌then◌
in_order check zero = accepted
in_order check (suc n) = in_order check n then check n

unfoldable pub passes : Verdict → Bool
passes accepted = true
passes (refused n a) = false

-- lent space after a call: an answer stands at its start and the rest stays; a refusal writes nothing
unfoldable pub written : Verdict → List ℕ → List ℕ → List ℕ
written accepted answer old = answer ++ drop (length answer) old
written (refused n a) answer old = old
