-- A write is asked, accepted, takes effect and is reported done.
-- Assumes nothing.
use Rattle.protocol.proofs.LiveCopy.{served}
use Rattle.protocol.proofs.witnesses.served_write.Goals as goal

pub returns : goal.returns
returns c = rw c.requires (served _ _)
