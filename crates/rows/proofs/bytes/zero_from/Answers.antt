use Rattle.std.proofs.Common.{◌+◌, Some, None}
use Rattle.rows.proofs.Nonzero.{found}
use Rattle.rows.proofs.bytes.zero_from.Goals as goal

pub returns-in-None : goal.returns-in-None
returns-in-None c =
    (found c.args.from _ _ _ None c.split_at.ensures.back c.first_nonzero.ensures.first c.in-None.is, tt)

pub returns-in-Some : goal.returns-in-Some
returns-in-Some c =
    let place = c.in-Some.place in
    (c.args.from + place, found c.args.from _ _ _ (Some place) c.split_at.ensures.back c.first_nonzero.ensures.first c.in-Some.is, c.unlawful.ensures)
