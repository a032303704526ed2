-- A step is one of the thirteen actions, and what it tells.
-- Assumes nothing.
use Rattle.std.specs.Prelude.{ℕ, ◌+◌, List, Some, None, Option}
use Rattle.protocol.specs.Net.{Net}
use Rattle.protocol.specs.Rules.{Rules}
use Rattle.protocol.specs.Messages.{Message}
use Rattle.protocol.specs.State.{Waiting, State}
use Rattle.protocol.specs.Events.{Event, History, opened, granted, fetched, asked, accepted, effect, reported, noted}
use Rattle.protocol.specs.Passing.{Passes, Posts, Restarts}
use Rattle.protocol.specs.Leasing.{Opens, PrimaryGrants, RelayGrants, Takes}
use Rattle.protocol.specs.Recalling.{Yields, Hears}
use Rattle.protocol.specs.Writing.{Submits, Accepts, Effects, Ends}

-- A step from the state s, with this history, to s'.
pub data Step {Row : Type 0} (rules : Rules) (n : Net) (history : History Row) (s s' : State Row) : Type 0 where
  passes : Passes s s' → Step rules n history s s'
  posts : {sent : Message Row} → Posts n s s' sent → Step rules n history s s'
  restarts : {station reading : ℕ} → Restarts n s s' station reading → Step rules n history s s'
  opens : {station file reading : ℕ} → Opens n s s' station file reading → Step rules n history s s'
  primary_grants :
      {station file number reading : ℕ} {row : Row} {version term : ℕ} →
      PrimaryGrants rules n s s' station file number reading row version term → Step rules n history s s'
  relay_grants :
      {station file number reading : ℕ} {row : Row} {version term until : ℕ} →
      RelayGrants rules n s s' station file number reading row version term until → Step rules n history s s'
  takes :
      {station file number reading : ℕ} {row : Row} {version term : ℕ} →
      Takes rules n history s s' station file number reading row version term → Step rules n history s s'
  yields : {station file version reading : ℕ} → Yields rules n s s' station file version reading → Step rules n history s s'
  hears : {station file version : ℕ} → Hears rules s s' station file version → Step rules n history s s'
  submits : {station file : ℕ} {row : Row} → Submits n s s' station file row → Step rules n history s s'
  accepts : {write : Waiting Row} → Accepts s s' write → Step rules n history s s'
  effects :
      {write : Waiting Row} {reading : ℕ} {before after : List (Waiting Row)} → Effects rules n s s' write reading before after →
      Step rules n history s s'
  ends : {station file number : ℕ} {row : Row} → Ends s s' station file number row → Step rules n history s s'

-- What a step tells.
abbrev pub told : {Row : Type 0} {rules : Rules} {n : Net} {history : History Row} {s s' : State Row} → Step rules n history s s' → Option (Event Row)
told (passes a) = None
told (posts a) = None
told (restarts a) = None
told {s = s} (opens {station = c} {file = f} {reading = r} a) = Some (opened c f (s.counter c + 1) r)
told (primary_grants {station = c} {file = f} {number = k} {row = x} {version = v} a) = Some (granted c f k x v)
told (relay_grants {station = c} {file = f} {number = k} {row = x} {version = v} a) = Some (granted c f k x v)
told (takes {station = c} {file = f} {number = k} {row = x} {version = v} a) = Some (fetched c f k x v)
told (yields a) = None
told (hears a) = None
told {s = s} (submits {station = c} {file = f} {row = x} a) = Some (asked c f (s.counter c + 1) x)
told (accepts {write = w} a) = Some (accepted w.station w.file w.number w.row)
told (effects {write = w} a) = Some (effect w.station w.file w.number w.row)
told (ends {station = c} {number = k} a) = Some (reported c k)

-- The history after a step.
abbrev pub note : {Row : Type 0} {rules : Rules} {n : Net} {history : History Row} {s s' : State Row} → Step rules n history s s' → History Row
note {history = h} a = noted (told a) h
