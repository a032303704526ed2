-- What an action leaves as it was, part by part.
-- Assumes nothing.
use Rattle.std.specs.Prelude.{◌≡◌, ◌⊎◌}
use Rattle.protocol.specs.Lookups.{In, Same, Same2}
use Rattle.protocol.specs.Messages.{Message}
use Rattle.protocol.specs.State.{State}

-- Every message in flight was in flight before: any may have vanished.
abbrev pub Fewer : {Row : Type 0} → State Row → State Row → Type 0
Fewer {Row} s s' = (m : Message Row) → In m s'.flight → In m s.flight

-- Every message in flight was in flight before or is the one sent, which may have vanished too.
abbrev pub Sent : {Row : Type 0} → Message Row → State Row → State Row → Type 0
Sent {Row} sent s s' = (m : Message Row) → In m s'.flight → In m s.flight ⊎ (m ≡ sent)

-- The primary's files.
pub record SameFiles {Row : Type 0} (s s' : State Row) : Type 0 where
  pub row : Same s.row s'.row
  pub version : Same s.version s'.version

-- The primary's queue.
pub record SameQueue {Row : Type 0} (s s' : State Row) : Type 0 where
  pub waiting : s'.waiting ≡ s.waiting
  pub last : Same s.last s'.last

-- What stations keep for themselves.
pub record SameStations {Row : Type 0} (s s' : State Row) : Type 0 where
  pub copy : Same2 s.copy s'.copy
  pub ask : Same2 s.ask s'.ask
  pub outstanding : Same s.outstanding s'.outstanding
  pub counter : Same s.counter s'.counter

-- What parents keep of their children.
pub record SameLinks {Row : Type 0} (s s' : State Row) : Type 0 where
  pub entry : Same2 s.entry s'.entry
  pub quiet : Same s.quiet s'.quiet
