use Rattle.std.proofs.Common.{rules}
use Rattle.journal.specs.Journal.{journal_entry}
use Rattle.journal.proofs.entry.Goals as goal

pub returns : goal.returns
unfolding journal_entry
returns c = search rules
