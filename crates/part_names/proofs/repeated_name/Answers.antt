use Rattle.std.proofs.Common.{◌≡◌, ◌*◌, rules, true, false, not}
use Rattle.std.proofs.lemmas.Iterator.{first_from_Range}
use borrow.Author.Tests.{tests}
use Rattle.part_names.specs.Names.{eight_at, repeated}
use Rattle.part_names.proofs.Form.{fault_found}
use Rattle.part_names.proofs.repeated_name.Goals as goal

pub returns : goal.returns
returns c =
    fault_found (λ q. not (repeated (λ i. eight_at c.args.names.bytes.now (8 * i)) q)) _ _
    (first_from_Range _ _ _ _ (λ q. not (repeated (λ i. eight_at c.args.names.bytes.now (8 * i)) q) ≡ false)
    (λ q. not (repeated (λ i. eight_at c.args.names.bytes.now (8 * i)) q) ≡ true) c.find.ensures.ran
    (λ x q k. search (rules, tests)) (λ x q k. search (rules, tests)))
