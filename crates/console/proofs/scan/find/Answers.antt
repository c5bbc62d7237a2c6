use Rattle.std.proofs.Common.{◌≡◌, ◌<◌, ◌≤◌, ℕ, ◌-◌, List, length, slice_index, take, drop, arith, ◌∙◌, eq-eqb}
use Rattle.std.proofs.lemmas.Grind.{common_steps}
use Rattle.console.proofs.scan.find.Goals as goal

part_length : (s : List ℕ) (from to : ℕ) → from ≤ to → to ≤ length s → length (take (to - from) (drop from s)) ≡ to - from
part_length s from to h in_s = grind (arith, common_steps)

-- a byte of the part that is searched is the text's byte at that place
in_part : (s : List ℕ) (from to k : ℕ) → from ≤ k → k < to → to ≤ length s → slice_index (take (to - from) (drop from s)) (k - from) ≡ slice_index s k
in_part s from to k low high in_s = grind (arith, common_steps)

pub returns-in-Some-clause-before : goal.returns-in-Some-clause-before
returns-in-Some-clause-before c = λ k low high e.
    let a = c.args in
    let within : c.in-Some.n < length (take (a.to - a.from) (drop a.from a.s.now)) = c.in-Some.ensures.0.high in
    let all : length (take (a.to - a.from) (drop a.from a.s.now)) ≡ a.to - a.from = part_length a.s.now a.from a.to (omega arith) (omega arith) in
    c.in-Some.ensures.0.before (k - a.from) (omega arith) (omega arith)
    (eq-eqb _ _ (in_part a.s.now a.from a.to k low (omega arith) (omega arith) ∙ e))

pub returns-in-None-clause-before : goal.returns-in-None-clause-before
returns-in-None-clause-before c = λ k low high e.
    let a = c.args in
    let all : length (take (a.to - a.from) (drop a.from a.s.now)) ≡ a.to - a.from = part_length a.s.now a.from a.to (omega arith) (omega arith) in
    c.in-None.ensures (k - a.from) (omega arith) (omega arith) (eq-eqb _ _ (in_part a.s.now a.from a.to k low high (omega arith) ∙ e))
