-- A station asks, the primary grants, the station holds a live copy.
-- Assumes nothing.
use Rattle.std.proofs.Common.{[]}
use Rattle.protocol.proofs.LiveCopy.{alive}
use Rattle.protocol.proofs.witnesses.live_copy.Goals as goal

pub returns : goal.returns
returns c = rw c.requires (alive [] [])
