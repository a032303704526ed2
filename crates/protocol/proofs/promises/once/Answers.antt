-- Each write takes effect once, and every story is true.
-- Assumes nothing.
use Rattle.protocol.proofs.Once.{once, version_after}
use Rattle.protocol.proofs.promises.once.Goals as goal

pub returns : goal.returns
returns c = record { whole = once; after = version_after _ _ c.requires }
