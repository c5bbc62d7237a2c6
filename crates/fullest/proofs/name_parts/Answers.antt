use native.Mathlib.Omega.{arith}
use borrow.Author.Rules.{rules}
use Rattle.fullest.proofs.PartNames.{named_more}
use Rattle.fullest.proofs.name_parts.Goals as goal

pub loop-i-preserved : goal.loop-i-preserved
loop-i-preserved c =
    let l = c.loop-i in
    (named_more c.args.p l.names l.i _ (omega arith) (omega arith) l.invariant.0 c.name_byte.ensures, search rules)
