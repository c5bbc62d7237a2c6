use Rattle.mean.proofs.Calls.{clique_told}
use Rattle.mean.proofs.is_clique_at.Goals as goal

pub returns : goal.returns
returns c =
    clique_told c.args.sheet.bytes.now c.args.sheet.passed c.heavy-first.result c.args.t c.heavy-first.ensures.0 _ c.rows_of-rows.ensures _ _ _ _ c.args.sheet.counted.0
    c.is_clique.ensures
