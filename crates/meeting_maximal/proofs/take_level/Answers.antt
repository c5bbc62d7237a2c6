use native.Mathlib.Omega.{arith}
use Rattle.runs.proofs.InSheet.{parts_width}
use Rattle.meeting_maximal.proofs.Taken.{level_taken}
use Rattle.meeting_maximal.proofs.take_level.Goals as goal

pub take_maximal-requires : goal.take_maximal-requires
take_maximal-requires c = (c.requires.1, omega (arith, c.args.sheet.counted.0, parts_width _ c.args.sheet.passed))

pub returns-clause-filled : goal.returns-clause-filled
returns-clause-filled c = level_taken _ c.args.sheet.passed c.args.n _ _ c.args.sheet.counted.0 _ c.rows_of-rows.ensures _ _ c.requires.2 _ _ c.take_maximal.ensures.found_after
