-- Without any one of the guards some run breaks agreement.
-- Assumes nothing.
use Rattle.protocol.proofs.EachGuard.{each_guard_needed}
use Rattle.protocol.proofs.TwoRows.{two_rows}
use Rattle.protocol.proofs.rules.guards.Goals as goal

pub returns-clause-needed : goal.returns-clause-needed
returns-clause-needed c = each_guard_needed _ _ two_rows
