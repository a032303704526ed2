-- A GRANT that acts on a closed ask breaks agreement.
-- Assumes nothing.
use Rattle.protocol.proofs.LateGrant.{late_grant_breaks}
use Rattle.protocol.proofs.TwoRows.{two_rows}
use Rattle.protocol.proofs.rules.grant_acts.Goals as goal

pub returns-clause-needed : goal.returns-clause-needed
returns-clause-needed c = late_grant_breaks _ _ two_rows
