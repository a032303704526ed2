use Rattle.std.proofs.Common.{ap, ◌∙◌}
use Rattle.channels.specs.Places.{stored}
use Rattle.channels.proofs.pool.PoolChannel.send.Goals as goal

pub returns : goal.returns
returns c = c.put.ensures ∙ ap (stored c.args.self.now.frames) c.encode.ensures.exact
