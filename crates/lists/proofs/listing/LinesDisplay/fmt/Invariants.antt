use Rattle.lists.proofs.Told.{ToldSoFar}
use Rattle.lists.proofs.listing.LinesDisplay.fmt.Given as goal

abbrev pub invariant-loop-line : goal.invariant-loop-line
invariant-loop-line g l = ToldSoFar g.W.Write.write_str_gives g.R.Reader.noun g.R.Record.Display.output l.fn.f l.self.0.now l.line-index l.f
