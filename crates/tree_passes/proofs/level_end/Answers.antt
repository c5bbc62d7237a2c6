use Rattle.tree_passes.proofs.SheetPasses.{level_on}
use Rattle.percolation.specs.Links.{Link}
use mathlib.Core.Path.{ap}
use Rattle.tree_passes.proofs.level_end.Goals as goal

pub returns : goal.returns
returns c =
    let w = ap (λ (l : Link). l.weight) c.link-l.ensures.0 in
    let r = level_on c.args.sheet.bytes.now c.args.sheet.passed c.args.j c.heavy.result _ c.requires w c.heavy.ensures.0 in
    (r.0, c.heavy.ensures.1, r.1)
