-- No version outgrows the numbers that were accepted.
-- Assumes nothing.
use Rattle.protocol.proofs.Versions.{versions_fit, versions_within}
use Rattle.protocol.proofs.promises.versions_fit.Goals as goal

pub returns : goal.returns
returns c = record { whole = versions_fit; within = versions_within _ c.requires }
