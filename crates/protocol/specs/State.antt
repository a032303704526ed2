-- A state of the protocol: what the nodes keep and what is in flight, by lookups.
-- Assumes nothing.
use Rattle.std.specs.Prelude.{◌≡◌, ℕ, ◌+◌, ◌≤◌, List, [], None, Option}
use Rattle.protocol.specs.Lookups.{In}
use Rattle.protocol.specs.Net.{Net}
use Rattle.protocol.specs.Messages.{Message}

-- What a copy holds; it is live at a reading below its run-out.
pub data Lease (Row : Type 0) : Type 0 where
  lease : (row : Row) (version run_out : ℕ) → Lease Row

-- What an open ask holds: its number and the reading when it was first sent.
pub data Request : Type 0 where
  request : (number reading : ℕ) → Request

-- What a station remembers of a write that it asked for and was not told done.
pub data Pending (Row : Type 0) : Type 0 where
  pending : (file number : ℕ) (row : Row) → Pending Row

-- A write that waits at the primary.
pub record Waiting (Row : Type 0) : Type 0 where
  pub station : ℕ
  pub file : ℕ
  pub number : ℕ
  pub row : Row
  -- the true time when it was accepted, which no node knows
  pub since : ℕ

-- All that is kept anywhere, and what is on its way.
pub record State (Row : Type 0) : Type 0 where
  -- true time, in ticks
  pub time : ℕ
  -- by file: the primary's row and version
  pub row : ℕ → Row
  pub version : ℕ → ℕ
  -- by station and file
  pub copy : ℕ → ℕ → Option (Lease Row)
  pub ask : ℕ → ℕ → Option Request
  -- by station: its write, and the last number that it gave to an ask or a write
  pub outstanding : ℕ → Option (Pending Row)
  pub counter : ℕ → ℕ
  -- by node: the reading before which a node that restarted gives nothing up
  pub quiet : ℕ → ℕ
  -- by file and child: the reading until which the child's parent holds the file for it, 0 for none
  pub entry : ℕ → ℕ → ℕ
  -- at the primary: the accepted writes in order of arrival, and each station's last accepted number
  pub waiting : List (Waiting Row)
  pub last : ℕ → ℕ
  -- the messages that may still arrive; to arrive takes none away, since a message may repeat
  pub flight : List (Message Row)

-- A reading that the clock of this node could give now.
pub record Reads {Row : Type 0} (n : Net) (s : State Row) (node reading : ℕ) : Type 0 where
  pub late : s.time ≤ reading + n.bound node
  pub early : reading ≤ s.time + n.bound node

-- A write waits on the file.
pub record Busy {Row : Type 0} (s : State Row) (file : ℕ) : Type 0 where
  pub write : Waiting Row
  pub waits : In write s.waiting
  pub on : write.file ≡ file

-- A new network, at whatever true time: each file has version 1 and the empty row, and nothing else is there.
pub record New {Row : Type 0} (empty : Row) (s : State Row) : Type 0 where
  pub row : (file : ℕ) → s.row file ≡ empty
  pub version : (file : ℕ) → s.version file ≡ 1
  pub copy : (station file : ℕ) → s.copy station file ≡ None
  pub ask : (station file : ℕ) → s.ask station file ≡ None
  pub outstanding : (station : ℕ) → s.outstanding station ≡ None
  pub counter : (station : ℕ) → s.counter station ≡ 0
  pub quiet : (node : ℕ) → s.quiet node ≡ 0
  pub entry : (file child : ℕ) → s.entry file child ≡ 0
  pub waiting : s.waiting ≡ []
  pub last : (station : ℕ) → s.last station ≡ 0
  pub flight : s.flight ≡ []
