-- What `==` answers on rows, where it is derived, and on bodies and messages. Assumes nothing.
use Rattle.std.specs.Prelude.{Bool, false, ◌&&◌, ◌==◌}
use Rattle.rows.specs.declared.pass.PassRow.{PassRow}
use Rattle.rows.specs.declared.tuning.TuningRow.{TuningRow}
use Rattle.rows.specs.declared.row.Row.{Row}
use Rattle.rows.specs.contracts.pass.PassRowPartialEq.TheImpl as pass
use Rattle.rows.specs.contracts.tuning.TuningRowPartialEq.TheImpl as tuning
use Rattle.rows.specs.contracts.row.RowPartialEq.TheImpl as row
use Rattle.messages.specs.declared.body.Body.{Body}
use Rattle.messages.specs.declared.body.Body.TheVariants.{Ask, Grant, Recall, Approve, Write, Done}
use Rattle.messages.specs.declared.message.Message.{Message}

abbrev pub pass_eq : PassRow → PassRow → Bool
pass_eq = (pass.ghosts).eq

abbrev pub tuning_eq : TuningRow → TuningRow → Bool
tuning_eq = (tuning.ghosts).eq

abbrev pub row_eq : Row → Row → Bool
row_eq = (row.ghosts).eq

abbrev pub body_eq : Body → Body → Bool
body_eq (Ask n) (Ask m) = n == m
body_eq (Grant n v t p) (Grant m w u q) = (n == m) && ((v == w) && ((t == u) && row_eq p q))
body_eq (Recall v) (Recall w) = v == w
body_eq (Approve v) (Approve w) = v == w
body_eq (Write n p) (Write m q) = (n == m) && row_eq p q
body_eq (Done n) (Done m) = n == m
body_eq _ _ = false

abbrev pub message_eq : Message → Message → Bool
message_eq a b = (a.from == b.from) && ((a.to == b.to) && ((a.file == b.file) && body_eq a.body b.body))
