use Rattle.words.proofs.WordLaws.{scan_printed}
use Rattle.words.proofs.word_end.Goals as goal

pub returns : goal.returns
returns c = scan_printed _ _ _ c.requires c.leading_printed.ensures.0
