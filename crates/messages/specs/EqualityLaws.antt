-- `==` decides whether rows, bodies and messages are equal. Assumes nothing.
use Rattle.std.proofs.Common.{◌≡◌, rules}
use Rattle.std.specs.Bool.{Decides}
use Rattle.std.specs.Cmp.{unsigned_Decides}
use Rattle.std.proofs.lemmas.Bool.Decides.{Decides-and, Decides-like}
use Rattle.rows.specs.declared.pass.PassRow.{PassRow}
use Rattle.rows.specs.declared.tuning.TuningRow.{TuningRow}
use Rattle.rows.specs.declared.row.Row.{Row}
use Rattle.rows.proofs.Same.{same_pass, same_tuning}
use Rattle.messages.specs.declared.body.Body.{Body}
use Rattle.messages.specs.declared.body.Body.TheVariants.{Grant, Write}
use Rattle.messages.specs.declared.message.Message.{Message}
use Rattle.messages.specs.contracts.message.Message.{the_row}
use Rattle.messages.specs.Equality.{pass_eq, tuning_eq, row_eq, body_eq, message_eq}

pub pass_eq_decides : (p q : PassRow) → Decides (pass_eq p q) (p ≡ q)
pass_eq_decides p q = search (rules, same_pass)

pub tuning_eq_decides : (t u : TuningRow) → Decides (tuning_eq t u) (t ≡ u)
tuning_eq_decides t u = search (rules, same_tuning)

pub row_eq_decides : (a b : Row) → Decides (row_eq a b) (a ≡ b)
row_eq_decides a b = search (rules, pass_eq_decides, tuning_eq_decides)

pub body_eq_decides : (a b : Body) → Decides (body_eq a b) (a ≡ b)
body_eq_decides (Grant n v t p) (Grant m w u q) = search (rules, row_eq_decides)
body_eq_decides (Write n p) (Write m q) = search (rules, row_eq_decides)
body_eq_decides a b = search rules

-- a message is told by its fields, since a bound has one proof at most
pub same_message : (a b : Message) → a.from ≡ b.from → a.to ≡ b.to → a.file ≡ b.file → a.body ≡ b.body → a ≡ b
same_message a b from to file body = the_row.coded.inj a b (cc)

pub message_eq_decides : (a b : Message) → Decides (message_eq a b) (a ≡ b)
message_eq_decides a b =
    Decides-like (message_eq a b)
    (λ same. same_message a b same.0 same.1.0 same.1.1.0 same.1.1.1)
    (λ e. (cc, (cc, (cc, cc))))
    (Decides-and _ _ (unsigned_Decides a.from b.from)
    (Decides-and _ _ (unsigned_Decides a.to b.to)
    (Decides-and _ _ (unsigned_Decides a.file b.file) (body_eq_decides a.body b.body))))
