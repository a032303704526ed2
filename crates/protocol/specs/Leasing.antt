-- How a station comes to hold a copy: it opens an ask, its parent grants it, it takes the GRANT.
-- Assumes nothing.
use Rattle.std.specs.Prelude.{◌≡◌, ℕ, ◌+◌, ◌<◌, ◌≤◌, cond, ◌⊎◌, Some, None}
use Rattle.protocol.specs.Lookups.{In, Same, Same2}
use Rattle.protocol.specs.Net.{Net}
use Rattle.protocol.specs.Rules.{open_ask, own_number, no_write_waits, Rules, Kept, run_out}
use Rattle.protocol.specs.Messages.{ASK, GRANT}
use Rattle.protocol.specs.State.{lease, request, State, Reads, Busy}
use Rattle.protocol.specs.Events.{History, opened}
use Rattle.protocol.specs.Unchanged.{Fewer, Sent, SameFiles, SameQueue, SameStations, SameLinks}

-- A station opens an ask with its next number; by Posts it then sends it.
-- The reading is taken before the ask goes out, so that the term can only have begun later.
pub record Opens {Row : Type 0} (n : Net) (s s' : State Row) (station file reading : ℕ) : Type 0 where
  pub reads : Reads n s station reading
  pub opened : s'.ask station file ≡ Some (request (s.counter station + 1) reading)
  pub ask : (c f : ℕ) → (s'.ask c f ≡ s.ask c f) ⊎ ((c ≡ station) × (f ≡ file))
  pub drawn : s'.counter station ≡ s.counter station + 1
  pub counter : (c : ℕ) → (s'.counter c ≡ s.counter c) ⊎ (c ≡ station)
  pub copy : Same2 s.copy s'.copy
  pub outstanding : Same s.outstanding s'.outstanding
  pub time : s'.time ≡ s.time
  pub flight : Fewer s s'
  pub files : SameFiles s s'
  pub queue : SameQueue s s'
  pub links : SameLinks s s'

-- The parent of a station answers its ASK at this reading, with any term up to the longest, and keeps an entry until the term's end.
-- A term of 0 needs no entry: the copy is dead when it arrives.
pub record Grants {Row : Type 0} (rules : Rules) (n : Net) (s s' : State Row) (station file number reading : ℕ) (row : Row) (version term : ℕ) :
    Type 0 where
  pub known : 0 < station
  pub came : In (ASK station file number) s.flight
  pub reads : Reads n s (n.parent station) reading
  pub short : term ≤ n.longest
  pub held : 0 < term → s'.entry file station ≡ rules.joined (s.entry file station) (reading + term)
  pub entry :
      (f child : ℕ) → (s'.entry f child ≡ s.entry f child) ⊎
      ((f ≡ file) × (child ≡ station) × (s'.entry f child ≡ rules.joined (s.entry f child) (reading + term)))
  pub flight : Sent (GRANT station file number row version term) s s'
  pub quiet : Same s.quiet s'.quiet
  pub time : s'.time ≡ s.time
  pub files : SameFiles s s'
  pub queue : SameQueue s s'
  pub stations : SameStations s s'

-- The primary grants what it has, but not while a write waits on the file: an approval for that write must stay true.
pub record PrimaryGrants {Row : Type 0} (rules : Rules) (n : Net) (s s' : State Row) (station file number reading : ℕ) (row : Row) (version term : ℕ) :
    Type 0 where
  pub grants : Grants rules n s s' station file number reading row version term
  pub primary : n.parent station ≡ 0
  pub free : Kept (rules.keeps no_write_waits) (¬ Busy s file)
  pub row_is : row ≡ s.row file
  pub version_is : version ≡ s.version file

-- A relay grants from a copy that is live at its reading, for a term that ends by the copy's run-out.
pub record RelayGrants {Row : Type 0} (rules : Rules) (n : Net) (s s' : State Row) (station file number reading : ℕ) (row : Row) (version term until : ℕ) :
    Type 0 where
  pub grants : Grants rules n s s' station file number reading row version term
  pub relay : 0 < n.parent station
  pub copied : s.copy (n.parent station) file ≡ Some (lease row version until)
  pub live : reading < until
  pub within : reading + term ≤ until

-- The ask that a GRANT answers: by the protocol it is open and has the GRANT's number. Without the one guard it is enough that it was opened
-- once, without the other that any ask is open.
abbrev pub Awaited : {Row : Type 0} → Rules → History Row → State Row → (station file number reading : ℕ) → Type 0
Awaited rules history s station file number reading =
    cond (rules.keeps open_ask)
    (cond (rules.keeps own_number)
    (s.ask station file ≡ Some (request number reading))
    ((other : ℕ) × (s.ask station file ≡ Some (request other reading))))
    (In (opened station file number reading) history)

-- A station takes a GRANT that has its ask's number, whose reading was the one given: the copy is replaced whole and the ask is closed.
pub record Takes {Row : Type 0} (rules : Rules) (n : Net) (history : History Row) (s s' : State Row)
    (station file number reading : ℕ) (row : Row) (version term : ℕ) : Type 0 where
  pub came : In (GRANT station file number row version term) s.flight
  pub awaited : Awaited rules history s station file number reading
  pub copy :
      (c f : ℕ) → (s'.copy c f ≡ s.copy c f) ⊎
      ((c ≡ station) × (f ≡ file) × (s'.copy c f ≡ Some (lease row version (run_out rules n station reading term))))
  pub closed : s'.ask station file ≡ None
  pub ask : (c f : ℕ) → (s'.ask c f ≡ s.ask c f) ⊎ ((c ≡ station) × (f ≡ file) × (s'.ask c f ≡ None))
  pub outstanding : Same s.outstanding s'.outstanding
  pub counter : Same s.counter s'.counter
  pub time : s'.time ≡ s.time
  pub flight : Fewer s s'
  pub files : SameFiles s s'
  pub queue : SameQueue s s'
  pub links : SameLinks s s'
