use Rattle.std.proofs.Common.{rules}
use Rattle.frames.proofs.RoundTrip.{read_framed}
use Rattle.frames.proofs.codec.encode.Goals as goal

pub returns-clause-back : goal.returns-clause-back
returns-clause-back c = search (rules, read_framed c.args.message)
