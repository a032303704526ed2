use Rattle.std.proofs.Common.{◌≡◌, ◌+◌, [], ◌∷◌, drop, rules, arith}
use Rattle.std.proofs.lemmas.List.{drop_more, drop_all}
use Rattle.lists.proofs.Told.{told_one_more, all_told}
use Rattle.lists.proofs.listing.LinesDisplay.fmt.Goals as goal

pub loop-line-init : goal.loop-line-init
loop-line-init g c = λ all whole plain. ([], search rules, search (rules, whole))

pub loop-line-preserved : goal.loop-line-preserved
loop-line-preserved g c =
    let lines = c.args.self.now.0.now in
    let index = c.loop-line.line-index in
    let cut : drop index lines ≡ c.line-item.result ∷ drop (index + 1) lines = search (rules, drop_more, c.line-item.is) in
    told_one_more _ _ _ c.args.f.now c.loop-line.f c.writeln.new.self lines index c.line-item.result c.loop-line.invariant cut c.in_ok-writeln.ensures.writes

pub returns-clause-writes : goal.returns-clause-writes
returns-clause-writes g c =
    let lines = c.args.self.now.0.now in
    let index = c.loop-line.line-index in
    all_told _ _ _ c.args.f.now c.loop-line.f lines index c.loop-line.invariant (drop_all index lines (omega arith))
