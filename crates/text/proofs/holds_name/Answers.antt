use Rattle.text.proofs.Names.{slot_then, slot_else}
use Rattle.std.specs.Prelude.{◌==◌}
use Rattle.std.specs.List.{list_all}
use Rattle.std.proofs.lemmas.Grind.{common_steps}
use lib.ListN.{length, drop}
use native.Mathlib.Omega.{arith}
use mathlib.Core.Path.{◌≡◌}
use Rattle.text.proofs.holds_name.Goals as goal

pub returns-then-starts_with : goal.returns-then-starts_with
returns-then-starts_with c =
    let spaces : c.only_spaces.result ≡ list_all (λ b. b == 32) (drop (length c.args.name.now) c.args.slot.now) = grind (arith, common_steps) in
    slot_then _ _ _ _ c.starts_with.ensures.value c.if-starts_with.true spaces

pub returns-else-starts_with : goal.returns-else-starts_with
returns-else-starts_with c = slot_else _ _ _ c.starts_with.ensures.value c.if-starts_with.false
