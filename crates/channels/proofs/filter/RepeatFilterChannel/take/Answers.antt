use Rattle.std.proofs.Common.{List, Some, None, sym, subst, rules}
use Rattle.messages.specs.declared.message.Message.{Message}
use Rattle.channels.specs.Filter.{Filtered, nothing, again, fresh}
use Rattle.std.proofs.lemmas.Bool.Decides.{not_from_Decides}
use Rattle.channels.proofs.filter.RepeatFilterChannel.take.Goals as goal

pub returns-in_err-message : goal.returns-in_err-message
returns-in_err-message g c = (None, search rules, search (rules, nothing))

pub returns-then-gave : goal.returns-then-gave
returns-then-gave g c = (Some c.in_ok-message.message, c.in_ok-message.ensures, again c.in_ok-message.message (c.gave.ensures.0 c.if-gave.true))

pub returns : goal.returns
returns g c =
    let m = c.in_ok-message.message in
    let given = c.args.self.now.given.items in
    (Some m, subst (λ (below : g.row.C.Denot). g.C.Channel.takes c.args.self.now.below (Some m) below) (sym {A = g.row.C.Denot} c.remember.ensures.below) c.in_ok-message.ensures, subst (λ (after : List Message). Filtered given (Some m) (Some m) after) (sym {A = List Message} c.remember.ensures.given) (fresh m (not_from_Decides c.gave.result c.gave.ensures c.if-gave.false)))
