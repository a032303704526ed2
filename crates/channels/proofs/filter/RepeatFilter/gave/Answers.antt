use Rattle.std.proofs.lemmas.List.Elements.{contains_decides}
use Rattle.messages.specs.Equality.{message_eq}
use Rattle.messages.specs.EqualityLaws.{message_eq_decides}
use Rattle.channels.proofs.filter.RepeatFilter.gave.Goals as goal

pub returns : goal.returns
returns g c =
    contains_decides message_eq message_eq_decides c.args.self.now.given.items c.args.message c.contains.result c.contains.ensures.cases
