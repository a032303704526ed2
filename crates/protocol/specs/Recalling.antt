-- How a write that waits gets a file back before its leases run out: a station yields to a RECALL, the primary hears its APPROVE.
-- Assumes nothing.
use Rattle.std.specs.Prelude.{◌≡◌, ℕ, ◌+◌, ◌<◌, ◌≤◌, ◌⊎◌, None}
use Rattle.protocol.specs.Lookups.{In, Same}
use Rattle.protocol.specs.Net.{Net}
use Rattle.protocol.specs.Rules.{next_version, quiet_mark, children_done, Rules, Kept}
use Rattle.protocol.specs.Messages.{RECALL, APPROVE}
use Rattle.protocol.specs.State.{State, Reads, Busy}
use Rattle.protocol.specs.Unchanged.{Fewer, Sent, SameFiles, SameQueue, SameStations}

-- A station gives up a file. One with children does so only at a reading that has reached its quiet mark and each child's entry,
-- since only then is nothing live below it. The copy is dropped, and the ask closed, so that no GRANT on its way acts any more.
pub record Yields {Row : Type 0} (rules : Rules) (n : Net) (s s' : State Row) (station file version reading : ℕ) : Type 0 where
  pub came : In (RECALL station file version) s.flight
  pub reads : Reads n s station reading
  pub still : (child : ℕ) → 0 < child → n.parent child ≡ station → Kept (rules.keeps quiet_mark) (s.quiet station ≤ reading)
  pub ended : (child : ℕ) → 0 < child → n.parent child ≡ station → Kept (rules.keeps children_done) (s.entry file child ≤ reading)
  pub no_copy : s'.copy station file ≡ None
  pub no_ask : s'.ask station file ≡ None
  pub copy : (c f : ℕ) → (s'.copy c f ≡ s.copy c f) ⊎ ((c ≡ station) × (f ≡ file) × (s'.copy c f ≡ None))
  pub ask : (c f : ℕ) → (s'.ask c f ≡ s.ask c f) ⊎ ((c ≡ station) × (f ≡ file) × (s'.ask c f ≡ None))
  pub entry :
      (f child : ℕ) → (s'.entry f child ≡ s.entry f child) ⊎
      ((f ≡ file) × (0 < child) × (n.parent child ≡ station) × (s'.entry f child ≡ 0))
  pub flight : Sent (APPROVE station file version) s s'
  pub quiet : Same s.quiet s'.quiet
  pub outstanding : Same s.outstanding s'.outstanding
  pub counter : Same s.counter s'.counter
  pub time : s'.time ≡ s.time
  pub files : SameFiles s s'
  pub queue : SameQueue s s'

-- The primary hears that a child gave up the file for the write that waits: an approval of an earlier version doesn't count.
pub record Hears {Row : Type 0} (rules : Rules) (s s' : State Row) (station file version : ℕ) : Type 0 where
  pub busy : Busy s file
  pub came : In (APPROVE station file version) s.flight
  pub next : Kept (rules.keeps next_version) (version ≡ s.version file + 1)
  pub entry : (f child : ℕ) → (s'.entry f child ≡ s.entry f child) ⊎ ((f ≡ file) × (child ≡ station) × (s'.entry f child ≡ 0))
  pub quiet : Same s.quiet s'.quiet
  pub time : s'.time ≡ s.time
  pub flight : Fewer s s'
  pub files : SameFiles s s'
  pub queue : SameQueue s s'
  pub stations : SameStations s s'
