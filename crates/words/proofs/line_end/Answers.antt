use native.Mathlib.Omega.{arith}
use lib.Dec.{eqb}
use Rattle.std.proofs.lemmas.List.{at_drop_all}
use Rattle.words.specs.Lines.{leading}
use Rattle.words.proofs.WordLaws.{scan_line}
use Rattle.words.proofs.line_end.Goals as goal

pub returns-then-text-at : goal.returns-then-text-at
unfolding leading
returns-then-text-at c = omega (arith, at_drop_all (leading (eqb 10)) c.args.text.now c.args.at (omega arith))

pub returns : goal.returns
returns c = scan_line _ _ _ c.before_line_end.ensures.0
