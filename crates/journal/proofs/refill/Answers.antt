use Rattle.std.proofs.Common.{rules}
use mathlib.Core.Path.{sym, ◌∙◌}
use Rattle.journal.proofs.Refilled.{code_kept, code_made}
use Rattle.journal.proofs.refill.Goals as goal

pub returns-then-makes_none-clause-tables_after : goal.returns-then-makes_none-clause-tables_after
returns-then-makes_none-clause-tables_after c = code_kept _ _ _ c.args.tables.now _ _ _ _ c.at-e.ensures (sym c.if-makes_none.true ∙ c.makes_none.ensures)

pub returns-clause-tables_after : goal.returns-clause-tables_after
returns-clause-tables_after c =
    code_made _ _ _ c.args.tables.now _ _ _ _ c.at-e.ensures (sym c.if-makes_none.false ∙ c.makes_none.ensures) _ _ _ c.clear.ensures.tables_after
    c.no_rows-seen.ensures ((search rules) ∙ c.replay.ensures.slots_after)
