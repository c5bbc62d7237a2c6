use mathlib.Core.Bool.{Bool, true, false}
use mathlib.Core.Path.{◌≡◌}
use Prim.Native.Nat.{ℕ}
use Rattle.std.proofs.Common.{rules, tests}
use Rattle.std.proofs.lemmas.Iterator.{first_from_Range}
use Rattle.sets.specs.Sets.{sub}
use Rattle.sets.specs.Value.{num, row}
use Rattle.meeting_maximal.proofs.Joined.{first_found}
use Rattle.meeting_maximal.proofs.holder.Goals as goal

pub returns : goal.returns
returns c =
    let a = c.args in
    let holds = λ (t : Bool) (i : ℕ). sub (num a.s) (row a.table.now i) ≡ t in
    first_found a.table.now a.n (num a.s) _
    (first_from_Range _ _ _ _ (holds true) (holds false) c.find.ensures.ran (λ x q k. search (rules, tests)) (λ x q k. search (rules, tests)))
