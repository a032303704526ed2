-- Each guard is needed: without it some run breaks agreement.
-- Assumes nothing.
use Rattle.std.proofs.Common.{◌≡◌}
use Rattle.protocol.specs.Rules.{open_ask, own_number, no_write_waits, next_version, quiet_mark, children_done, entries_done}
use Rattle.protocol.specs.Witnesses.{EachGuardNeeded}
use Rattle.protocol.proofs.LateGrant.{late_grant_breaks}
use Rattle.protocol.proofs.OtherNumber.{other_number_breaks}
use Rattle.protocol.proofs.WaitingGrant.{waiting_grant_breaks}
use Rattle.protocol.proofs.OldApproval.{old_approval_breaks}
use Rattle.protocol.proofs.ForgottenChild.{forgotten_child_breaks}
use Rattle.protocol.proofs.LiveChild.{live_child_breaks}
use Rattle.protocol.proofs.LiveEntry.{live_entry_breaks}

pub each_guard_needed : {Row : Type 0} (empty other : Row) → (empty ≡ other → ⊥) → EachGuardNeeded Row empty
each_guard_needed empty other differ open_ask = late_grant_breaks empty other differ
each_guard_needed empty other differ own_number = other_number_breaks empty other differ
each_guard_needed empty other differ no_write_waits = waiting_grant_breaks empty other differ
each_guard_needed empty other differ next_version = old_approval_breaks empty other differ
each_guard_needed empty other differ quiet_mark = forgotten_child_breaks empty other differ
each_guard_needed empty other differ children_done = live_child_breaks empty other differ
each_guard_needed empty other differ entries_done = live_entry_breaks empty other differ
