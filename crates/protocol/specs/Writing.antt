-- The life of a write: a station submits it, the primary accepts it, it takes effect, the station is told.
-- Assumes nothing.
use Rattle.std.specs.Prelude.{◌≡◌, ℕ, ◌+◌, ◌<◌, ◌≤◌, ◌⊎◌, List, [], ◌∷◌, ◌++◌, Some, None}
use Rattle.protocol.specs.Lookups.{In, Same, Same2}
use Rattle.protocol.specs.Net.{Net}
use Rattle.protocol.specs.Rules.{entries_done, Rules, Kept}
use Rattle.protocol.specs.Messages.{WRITE, DONE}
use Rattle.protocol.specs.State.{pending, Waiting, State, Reads}
use Rattle.protocol.specs.Unchanged.{Fewer, Sent, SameFiles, SameQueue, SameStations, SameLinks}

-- A station asks for a write, with its next number.
pub record Submits {Row : Type 0} (n : Net) (s s' : State Row) (station file : ℕ) (row : Row) : Type 0 where
  pub known : 0 < station
  pub member : station < n.size
  pub outstanding :
      (c : ℕ) → (s'.outstanding c ≡ s.outstanding c) ⊎
      ((c ≡ station) × (s'.outstanding c ≡ Some (pending file (s.counter station + 1) row)))
  pub drawn : s'.counter station ≡ s.counter station + 1
  pub counter : (c : ℕ) → (s'.counter c ≡ s.counter c) ⊎ (c ≡ station)
  pub flight : Sent (WRITE station file (s.counter station + 1) row) s s'
  pub copy : Same2 s.copy s'.copy
  pub ask : Same2 s.ask s'.ask
  pub time : s'.time ≡ s.time
  pub files : SameFiles s s'
  pub queue : SameQueue s s'
  pub links : SameLinks s s'

-- A write joins the queue, if its number is above the last that was accepted of its station: a WRITE that repeats does not.
pub record Accepts {Row : Type 0} (s s' : State Row) (write : Waiting Row) : Type 0 where
  pub came : In (WRITE write.station write.file write.number write.row) s.flight
  pub above : s.last write.station < write.number
  pub dated : write.since ≡ s.time
  pub waiting : s'.waiting ≡ s.waiting ++ (write ∷ [])
  pub last_now : s'.last write.station ≡ write.number
  pub last : (c : ℕ) → (s'.last c ≡ s.last c) ⊎ (c ≡ write.station)
  pub time : s'.time ≡ s.time
  pub flight : Fewer s s'
  pub files : SameFiles s s'
  pub stations : SameStations s s'
  pub links : SameLinks s s'

-- A waiting write takes effect at a reading of the primary that has reached its quiet mark and each child's entry on the file.
-- The row is replaced, the version grows by 1, the file's entries may go, the write leaves the queue and DONE goes out.
pub record Effects {Row : Type 0} (rules : Rules) (n : Net) (s s' : State Row) (write : Waiting Row) (reading : ℕ) (before after : List (Waiting Row)) : Type 0 where
  pub waited : s.waiting ≡ before ++ (write ∷ after)
  pub reads : Reads n s 0 reading
  pub still : s.quiet 0 ≤ reading
  pub ended : (child : ℕ) → 0 < child → n.parent child ≡ 0 → Kept (rules.keeps entries_done) (s.entry write.file child ≤ reading)
  pub waiting : s'.waiting ≡ before ++ after
  pub row_now : s'.row write.file ≡ write.row
  pub version_now : s'.version write.file ≡ s.version write.file + 1
  pub row : (f : ℕ) → (s'.row f ≡ s.row f) ⊎ (f ≡ write.file)
  pub version : (f : ℕ) → (s'.version f ≡ s.version f) ⊎ (f ≡ write.file)
  pub entry :
      (f child : ℕ) → (s'.entry f child ≡ s.entry f child) ⊎ ((f ≡ write.file) × (n.parent child ≡ 0) × (s'.entry f child ≡ 0))
  pub flight : Sent (DONE write.station write.number) s s'
  pub last : Same s.last s'.last
  pub quiet : Same s.quiet s'.quiet
  pub time : s'.time ≡ s.time
  pub stations : SameStations s s'

-- A station is told that its outstanding write is done: the write ends.
pub record Ends {Row : Type 0} (s s' : State Row) (station file number : ℕ) (row : Row) : Type 0 where
  pub came : In (DONE station number) s.flight
  pub was : s.outstanding station ≡ Some (pending file number row)
  pub outstanding : (c : ℕ) → (s'.outstanding c ≡ s.outstanding c) ⊎ ((c ≡ station) × (s'.outstanding c ≡ None))
  pub copy : Same2 s.copy s'.copy
  pub ask : Same2 s.ask s'.ask
  pub counter : Same s.counter s'.counter
  pub time : s'.time ≡ s.time
  pub flight : Fewer s s'
  pub files : SameFiles s s'
  pub queue : SameQueue s s'
  pub links : SameLinks s s'
