-- A row is told by its fields, since a limit has one proof at most. Assumes nothing.
use Rattle.std.proofs.Common.{◌≡◌}
use Rattle.rows.specs.declared.pass.PassRow.{PassRow}
use Rattle.rows.specs.declared.tuning.TuningRow.{TuningRow}
use Rattle.rows.specs.contracts.pass.PassRow as pass
use Rattle.rows.specs.contracts.tuning.TuningRow as tuning

pub same_pass : (p q : PassRow) → p.satellite ≡ q.satellite → p.antenna ≡ q.antenna → p.start ≡ q.start → p.seconds ≡ q.seconds → p ≡ q
same_pass p q satellite antenna start seconds = pass.the_row.coded.inj p q (cc)

pub same_tuning : (t u : TuningRow) → t.satellite ≡ u.satellite → t.downlink ≡ u.downlink → t.offset ≡ u.offset → t ≡ u
same_tuning t u satellite downlink offset = tuning.the_row.coded.inj t u (cc)
