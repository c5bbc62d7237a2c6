use Rattle.words.proofs.WordLaws.{scan_blanks}
use Rattle.words.proofs.skip_blanks.Goals as goal

pub returns : goal.returns
returns c = scan_blanks _ _ _ c.requires c.leading_blanks.ensures.0
