-- Every live copy agrees with the primary.
-- Assumes nothing.
use Rattle.protocol.proofs.Agreement.{agreement}
use Rattle.protocol.proofs.rules.margin.Goals as goal

pub returns-clause-agreement : goal.returns-clause-agreement
returns-clause-agreement c = agreement
