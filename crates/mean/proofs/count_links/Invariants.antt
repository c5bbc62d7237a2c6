use Rattle.mean.specs.Model.{counts}
use Rattle.mean.proofs.Adding.{Adding}
use Rattle.mean.proofs.count_links.Given as goal

-- What the counted links so far add up to. Assumes nothing.
abbrev pub invariant-loop-j : goal.invariant-loop-j
invariant-loop-j l = Adding (counts l.k l.covered) l.sheet.bytes.now l.j l.all.sum l.all.links
