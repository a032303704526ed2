-- No write waits long, and some wait as long as that.
-- Assumes nothing.
use Rattle.std.proofs.Common.{[]}
use Rattle.protocol.proofs.BoundedWait.{bounded_wait, waits_below}
use Rattle.protocol.proofs.LongestWait.{waited}
use Rattle.protocol.proofs.promises.bounded_wait.Goals as goal

pub returns : goal.returns
returns c =
    record { whole = bounded_wait; below = waits_below _ _ _ c.requires; reached = λ some. waited [] [] _ _ some _ c.requires }
