-- What may happen at any moment: true time passes, a message is sent (again), a station restarts.
-- The data of an action are parameters of its record; its fields are first the guards, then what it may change, then what stays.
-- A place that an action may change is as before or has the new value, so that an action which changes less is allowed too.
-- Assumes nothing.
use Rattle.std.specs.Prelude.{◌≡◌, ℕ, ◌+◌, ◌<◌, ◌≤◌, ◌⊎◌, Some, None, ◌≢◌}
use Rattle.protocol.specs.Lookups.{In, Same}
use Rattle.protocol.specs.Net.{Net}
use Rattle.protocol.specs.Messages.{Message, ASK, RECALL, WRITE, DONE}
use Rattle.protocol.specs.State.{request, pending, Waiting, State, Reads, Busy}
use Rattle.protocol.specs.Unchanged.{Fewer, Sent, SameFiles, SameQueue, SameStations, SameLinks}

-- True time grows.
pub record Passes {Row : Type 0} (s s' : State Row) : Type 0 where
  pub time : s.time ≤ s'.time
  pub flight : Fewer s s'
  pub files : SameFiles s s'
  pub queue : SameQueue s s'
  pub stations : SameStations s s'
  pub links : SameLinks s s'

-- The messages that change nothing where they are sent, so that they may be sent as often as one likes.
pub data Postable {Row : Type 0} (n : Net) (s : State Row) : Message Row → Type 0 where
  -- an open ask
  ask : {station file number reading : ℕ} → s.ask station file ≡ Some (request number reading) → Postable n s (ASK station file number)
  -- a recall, to a child of the primary, for the next version of a file on which a write waits
  recall :
      {station file version : ℕ} → 0 < station → n.parent station ≡ 0 → version ≡ s.version file + 1 → Busy s file →
      Postable n s (RECALL station file version)
  -- an outstanding write
  write :
      {station file number : ℕ} {row : Row} → s.outstanding station ≡ Some (pending file number row) →
      Postable n s (WRITE station file number row)
  -- DONE again, to a WRITE of the station's last accepted number, if that write waits no more
  done :
      {station file number : ℕ} {row : Row} → In (WRITE station file number row) s.flight → s.last station ≡ number →
      ((w : Waiting Row) → In w s.waiting → w.station ≡ station → w.number ≢ number) → Postable n s (DONE station number)

-- A message is sent.
pub record Posts {Row : Type 0} (n : Net) (s s' : State Row) (sent : Message Row) : Type 0 where
  pub may : Postable n s sent
  pub flight : Sent sent s s'
  pub time : s'.time ≡ s.time
  pub files : SameFiles s s'
  pub queue : SameQueue s s'
  pub stations : SameStations s s'
  pub links : SameLinks s s'

-- A station restarts: copies, asks, its write and its children's entries are gone, and it stays quiet for the longest term,
-- since it no longer knows what it granted. The counter stays, so that no number is used twice.
pub record Restarts {Row : Type 0} (n : Net) (s s' : State Row) (station reading : ℕ) : Type 0 where
  pub known : 0 < station
  pub reads : Reads n s station reading
  pub mark : s'.quiet station ≡ reading + n.longest
  pub quiet : (node : ℕ) → (s'.quiet node ≡ s.quiet node) ⊎ (node ≡ station)
  pub copy : (c f : ℕ) → (s'.copy c f ≡ s.copy c f) ⊎ ((c ≡ station) × (s'.copy c f ≡ None))
  pub ask : (c f : ℕ) → (s'.ask c f ≡ s.ask c f) ⊎ ((c ≡ station) × (s'.ask c f ≡ None))
  pub outstanding : (c : ℕ) → (s'.outstanding c ≡ s.outstanding c) ⊎ ((c ≡ station) × (s'.outstanding c ≡ None))
  pub entry : (f child : ℕ) → (s'.entry f child ≡ s.entry f child) ⊎ ((n.parent child ≡ station) × (s'.entry f child ≡ 0))
  pub counter : Same s.counter s'.counter
  pub time : s'.time ≡ s.time
  pub flight : Fewer s s'
  pub files : SameFiles s s'
  pub queue : SameQueue s s'
