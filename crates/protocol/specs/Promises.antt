-- What the protocol promises of every run.
-- Assumes nothing.
use Rattle.std.specs.Prelude.{◌≡◌, ℕ, zero, suc, ◌+◌, ◌*◌, ◌<◌, ◌≤◌, length, Some}
use Rattle.protocol.specs.Lookups.{In}
use Rattle.protocol.specs.Net.{Net}
use Rattle.protocol.specs.Rules.{Rules}
use Rattle.protocol.specs.State.{lease, Waiting, State, Reads}
use Rattle.protocol.specs.Events.{History, accepted}
use Rattle.protocol.specs.Runs.{Run, Happened}
use Rattle.protocol.specs.Calls.{Calls, calls_run}
use Rattle.protocol.specs.Story.{effects_on, Faithful}

-- Row and version are the primary's.
pub record Current {Row : Type 0} (s : State Row) (file : ℕ) (row : Row) (version : ℕ) : Type 0 where
  pub row_is : row ≡ s.row file
  pub version_is : version ≡ s.version file

-- Every station's copy that is live by some reading its clock could give has the primary's row and version.
abbrev pub Agrees : {Row : Type 0} → Net → State Row → Type 0
Agrees {Row} n s =
    (station file : ℕ) (row : Row) (version until reading : ℕ) → 0 < station → s.copy station file ≡ Some (lease row version until) →
    Reads n s station reading → reading < until → Current s file row version

-- Agreement: so it is in every state of every run.
abbrev pub Agreement : Rules → Type 0 → Type 0
Agreement rules Row = (n : Net) (empty : Row) (h : History Row) (s : State Row) → Run rules n empty h s → Agrees n s

-- Once: each write takes effect at most once, and every run's story is true.
abbrev pub Once : Rules → Type 0 → Type 0
Once rules Row = (n : Net) (empty : Row) (h : History Row) (s : State Row) (run : Run rules n empty h s) → Faithful run

-- After so many effects on a file it has this version, in every run.
abbrev pub VersionAfter : Rules → Type 0 → (effects version : ℕ) → Type 0
VersionAfter rules Row effects version =
    (n : Net) (empty : Row) (h : History Row) (s : State Row) → Run rules n empty h s → (file : ℕ) → effects_on file h ≡ effects →
    s.version file ≡ version

-- A waiting write was accepted at a moment of the run, fewer true ticks ago than the longest term and twice the primary's bound.
pub record WaitsShort {Row : Type 0} {rules : Rules} {n : Net} {empty : Row} {h : History Row} {s : State Row}
    (calls : Calls rules n empty h s) (write : Waiting Row) : Type 0 where
  pub past : History Row
  pub then : State Row
  pub happened : Happened (calls_run calls) (accepted write.station write.file write.number write.row) past then
  pub since : write.since ≡ then.time
  pub short : s.time < then.time + n.longest + 2 * n.bound 0

-- Bounded wait: so it is with every waiting write after every call.
abbrev pub BoundedWait : Rules → Type 0 → Type 0
BoundedWait rules Row =
    (n : Net) (empty : Row) (h : History Row) (s : State Row) (calls : Calls rules n empty h s) (write : Waiting Row) →
    In write s.waiting → WaitsShort calls write

-- With this longest term and bound of the primary, every waiting write has waited fewer true ticks than these.
abbrev pub WaitsBelow : Rules → Type 0 → (longest bound ticks : ℕ) → Type 0
WaitsBelow rules Row longest bound ticks =
    (n : Net) (empty : Row) (h : History Row) (s : State Row) → Calls rules n empty h s → n.longest ≡ longest → n.bound 0 ≡ bound →
    (write : Waiting Row) → In write s.waiting → s.time < write.since + ticks

-- g 0 + .. + g (k - 1)
abbrev pub total : (ℕ → ℕ) → ℕ → ℕ
total g zero = 0
total g (suc k) = total g k + g k

-- A version, with the writes that wait, is bounded by the last numbers that were accepted, and those by the stations' counters.
pub record Counted {Row : Type 0} (n : Net) (s : State Row) : Type 0 where
  pub primary : s.last 0 ≡ 0
  pub last : (station : ℕ) → s.last station ≤ s.counter station
  pub version : (file : ℕ) → s.version file + length s.waiting ≤ 1 + total s.last n.size

-- Versions fit: so it is in every state of every run.
abbrev pub VersionsFit : Rules → Type 0 → Type 0
VersionsFit rules Row = (n : Net) (empty : Row) (h : History Row) (s : State Row) → Run rules n empty h s → Counted n s

-- With at most 16 nodes and numbers to 1,000,000 no version is above this.
abbrev pub VersionsWithin : Rules → Type 0 → (most : ℕ) → Type 0
VersionsWithin rules Row most =
    (n : Net) (empty : Row) (h : History Row) (s : State Row) → Run rules n empty h s → n.size ≤ 16 →
    ((station : ℕ) → s.counter station ≤ 1000000) → (file : ℕ) → s.version file ≤ most
