-- An entry that is overwritten breaks agreement.
-- Assumes nothing.
use Rattle.protocol.proofs.OverwrittenEntry.{overwritten_entry_breaks}
use Rattle.protocol.proofs.TwoRows.{two_rows}
use Rattle.protocol.proofs.rules.entry_after.Goals as goal

pub returns-clause-needed : goal.returns-clause-needed
returns-clause-needed c = overwritten_entry_breaks _ _ two_rows
