-- That the promises are not empty, and that the protocol's rules are needed: runs that exist.
-- Assumes nothing.
use Rattle.std.specs.Prelude.{◌≡◌, ℕ, ◌+◌, ◌<◌, Some}
use Rattle.protocol.specs.Lookups.{In}
use Rattle.protocol.specs.Net.{Net}
use Rattle.protocol.specs.Rules.{Guard, Rules, with_margin, without}
use Rattle.protocol.specs.State.{lease, Waiting, State, Reads}
use Rattle.protocol.specs.Events.{History, effect, reported}
use Rattle.protocol.specs.Runs.{Run}
use Rattle.protocol.specs.Calls.{Calls}
use Rattle.protocol.specs.Promises.{Agrees}

-- In some run a station comes to hold a copy with this run-out, which is live whatever its clock gives.
pub record Alive (rules : Rules) (Row : Type 0) (empty : Row) (until : ℕ) : Type 0 where
  pub net : Net
  pub history : History Row
  pub state : State Row
  pub run : Run rules net empty history state
  pub station : ℕ
  pub file : ℕ
  pub version : ℕ
  pub copied : state.copy station file ≡ Some (lease empty version until)
  pub live : (reading : ℕ) → Reads net state station reading → reading < until

-- In some run a write of this row takes effect and is reported done, and its file then has this version.
pub record Served (rules : Rules) (Row : Type 0) (empty row : Row) (version : ℕ) : Type 0 where
  pub net : Net
  pub history : History Row
  pub state : State Row
  pub run : Run rules net empty history state
  pub station : ℕ
  pub file : ℕ
  pub number : ℕ
  pub taken : In (effect station file number row) history
  pub told : In (reported station number) history
  pub row_is : state.row file ≡ row
  pub version_is : state.version file ≡ version

-- In some run by calls, with this longest term and bound of the primary, a write has waited for so many true ticks and waits on.
pub record Waited (rules : Rules) (Row : Type 0) (empty : Row) (longest bound ticks : ℕ) : Type 0 where
  pub net : Net
  pub history : History Row
  pub state : State Row
  pub calls : Calls rules net empty history state
  pub longest_is : net.longest ≡ longest
  pub bound_is : net.bound 0 ≡ bound
  pub write : Waiting Row
  pub waits : In write state.waiting
  pub since : state.time ≡ write.since + ticks

-- In some run a state is reached without agreement.
pub record Broken (rules : Rules) (Row : Type 0) (empty : Row) : Type 0 where
  pub net : Net
  pub history : History Row
  pub state : State Row
  pub run : Run rules net empty history state
  pub disagrees : ¬ Agrees net state

-- For this pair of bounds no margin below the least is enough: with any smaller one agreement breaks.
abbrev pub LeastMargin : (Row : Type 0) → Row → (station parent least : ℕ) → Type 0
LeastMargin Row empty station parent least =
    (margin : ℕ → ℕ → ℕ) → margin station parent < least → Broken (with_margin margin) Row empty

-- Each guard is needed: without it, and with all others, agreement breaks.
abbrev pub EachGuardNeeded : (Row : Type 0) → Row → Type 0
EachGuardNeeded Row empty = (guard : Guard) → Broken (without guard) Row empty
