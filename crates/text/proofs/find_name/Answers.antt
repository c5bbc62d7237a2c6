use Rattle.std.proofs.Common.{rules, tests}
use Rattle.std.proofs.lemmas.Iterator.{first_from_Range}
use Rattle.text.proofs.Names.{holds, looked_below, looked_first}
use mathlib.Core.Bool.{true, false}
use mathlib.Core.Path.{◌≡◌}
use Rattle.text.proofs.find_name.Goals as goal

pub returns : goal.returns
returns c =
    let a = c.args in
    let looked =
    first_from_Range _ _ _ c.find.result (λ q. holds a.names.bytes.now a.name.now q ≡ true) (λ q. holds a.names.bytes.now a.name.now q ≡ false) c.find.ensures.ran
    (λ q f k. search (rules, tests)) (λ q f k. search (rules, tests)) in
    record {
      below = looked_below a.names.bytes.now a.name.now a.names.count _ looked;
      first = looked_first a.names.bytes.now a.name.now a.names.count _ looked;
    }
