use mathlib.Core.Path.{sym, ◌∙◌}
use Rattle.sets.proofs.Tests.{and_stop, and_go}
use Rattle.meeting.proofs.Pairs.{sheet_clique}
use Rattle.meeting.proofs.are_cliques.Goals as goal

pub returns-then-is_clique : goal.returns-then-is_clique
returns-then-is_clique c =
    let q = c.args.sheet in
    let s = c.args.sheet.bytes.now in
    let R = c.rows_of-rows in
    and_go _ _ (sym (sheet_clique s q.passed _ q.counted.1 R.result R.ensures _ _ _ _ q.counted.0 c.is_clique.ensures) ∙ c.if-is_clique.true)
    (sheet_clique s q.passed _ q.counted.1 R.result R.ensures _ _ _ _ q.counted.0 c.is_clique-then-is_clique.ensures)

pub returns-else-is_clique : goal.returns-else-is_clique
returns-else-is_clique c =
    let q = c.args.sheet in
    let R = c.rows_of-rows in
    c.if-is_clique.false
    ∙ and_stop _ _ (sym (sheet_clique c.args.sheet.bytes.now q.passed _ q.counted.1 R.result R.ensures _ _ _ _ q.counted.0 c.is_clique.ensures) ∙ c.if-is_clique.false)
