use Rattle.std.proofs.Common.{Ok, rules}
use Rattle.frames.specs.Frames.{FrameRead}
use Rattle.frames.proofs.Fitting.{decides}
use Rattle.frames.proofs.Held.{nodes_held, file_held, body_held, parts_held}
use Rattle.frames.proofs.RoundTrip.{framed_back, read_forth}
use Rattle.frames.proofs.codec.decode.Goals as goal

pub invariant_of-result : goal.invariant_of-result
invariant_of-result c =
    let bs = c.args.bytes.now in
    let p = c.in_ok-parts.parts in
    let read = c.in_ok-parts.ensures in
    record {
      nodes = nodes_held bs p read.0 read.1;
      files = file_held bs p read.0 read.1;
      lawful = body_held bs p read.0 read.1 c.from.result c.from.ensures;
    }

pub returns-in_err-parts-clause-forth : goal.returns-in_err-parts-clause-forth
returns-in_err-parts-clause-forth c = λ message e. read_forth c.args.bytes.now message c.from_residual.result e (search rules)

pub returns-in_err-parts-clause-lawful : goal.returns-in_err-parts-clause-lawful
returns-in_err-parts-clause-lawful c = decides c.args.bytes.now c.from_residual.result (search rules)

pub returns : goal.returns
returns c =
    let bs = c.args.bytes.now in
    let read = c.in_ok-parts.ensures in
    let r = Ok _ in
    let exact : FrameRead bs r = (read.0, parts_held bs c.in_ok-parts.parts read.0 read.1 c.from.result c.from.ensures) in
    record {
      exact = exact;
      back = framed_back bs (λ i. (c.type_inv.bytes i).fits) r exact;
      forth = λ message e. read_forth bs message r e exact;
      lawful = decides bs r exact;
    }
