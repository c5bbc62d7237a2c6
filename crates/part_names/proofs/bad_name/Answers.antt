use Rattle.std.proofs.Common.{◌≡◌, ◌*◌, rules, true, false}
use Rattle.std.proofs.lemmas.Iterator.{first_from_Range}
use borrow.Author.Tests.{tests}
use Rattle.part_names.specs.Names.{is_name, eight_at}
use Rattle.part_names.proofs.Form.{fault_found}
use Rattle.part_names.proofs.bad_name.Goals as goal

pub returns : goal.returns
returns c =
    fault_found (λ q. is_name (eight_at c.args.names.bytes.now (8 * q))) _ _
    (first_from_Range _ _ _ _ (λ q. is_name (eight_at c.args.names.bytes.now (8 * q)) ≡ false)
    (λ q. is_name (eight_at c.args.names.bytes.now (8 * q)) ≡ true) c.find.ensures.ran
    (λ x q k. search (rules, tests)) (λ x q k. search (rules, tests)))
