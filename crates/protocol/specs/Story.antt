-- What a history makes of the files, and when each of its events is lawful.
-- Assumes nothing.
use Rattle.std.specs.Prelude.{◌≡◌, ℕ, ◌+◌, [], ◌∷◌}
use Rattle.std.proofs.Math.Decide.{ℕ_discrete}
use Rattle.protocol.specs.Lookups.{In, choose}
use Rattle.protocol.specs.Net.{Net}
use Rattle.protocol.specs.Rules.{Rules}
use Rattle.protocol.specs.State.{State}
use Rattle.protocol.specs.Events.{Event, History, opened, granted, fetched, asked, accepted, effect, reported, At}
use Rattle.protocol.specs.Runs.{Run, Happened}

-- How many writes took effect on the file.
abbrev pub effects_on : {Row : Type 0} → ℕ → History Row → ℕ
effects_on file [] = 0
effects_on file (opened c f k r ∷ h) = effects_on file h
effects_on file (granted c f k x v ∷ h) = effects_on file h
effects_on file (fetched c f k x v ∷ h) = effects_on file h
effects_on file (asked c f k x ∷ h) = effects_on file h
effects_on file (accepted c f k x ∷ h) = effects_on file h
effects_on file (effect c f k x ∷ h) = choose (ℕ_discrete f file) (effects_on file h + 1) (effects_on file h)
effects_on file (reported c k ∷ h) = effects_on file h

-- The row of the last write that took effect on the file, or the empty row.
abbrev pub row_on : {Row : Type 0} → Row → ℕ → History Row → Row
row_on empty file [] = empty
row_on empty file (opened c f k r ∷ h) = row_on empty file h
row_on empty file (granted c f k x v ∷ h) = row_on empty file h
row_on empty file (fetched c f k x v ∷ h) = row_on empty file h
row_on empty file (asked c f k x ∷ h) = row_on empty file h
row_on empty file (accepted c f k x ∷ h) = row_on empty file h
row_on empty file (effect c f k x ∷ h) = choose (ℕ_discrete f file) x (row_on empty file h)
row_on empty file (reported c k ∷ h) = row_on empty file h

-- The files are what the history makes of them.
pub record Files {Row : Type 0} (empty : Row) (history : History Row) (s : State Row) : Type 0 where
  pub version : (file : ℕ) → s.version file ≡ 1 + effects_on file history
  pub row : (file : ℕ) → s.row file ≡ row_on empty file history

-- The station's write of this number took effect.
pub record Effected {Row : Type 0} (history : History Row) (station number : ℕ) : Type 0 where
  pub file : ℕ
  pub row : Row
  pub was : In (effect station file number row) history

-- When an event is lawful after the events of past.
abbrev pub Lawful : {Row : Type 0} → Row → Event Row → History Row → Type 0
-- its number is new
Lawful empty (opened c f k r) past = (g q : ℕ) → In (opened c g k q) past → ⊥
-- the ask was opened, and the row and version are the primary's
Lawful empty (granted c f k x v) past = ((r : ℕ) × In (opened c f k r) past) × (x ≡ row_on empty f past) × (v ≡ 1 + effects_on f past)
-- the ask was granted so, and fetched nothing yet
Lawful {Row} empty (fetched c f k x v) past =
    In (granted c f k x v) past × ((g : ℕ) (y : Row) (w : ℕ) → In (fetched c g k y w) past → ⊥)
-- its number is new
Lawful {Row} empty (asked c f k x) past = (g : ℕ) (y : Row) → In (asked c g k y) past → ⊥
-- the write was asked, and not accepted yet
Lawful {Row} empty (accepted c f k x) past = In (asked c f k x) past × ((g : ℕ) (y : Row) → In (accepted c g k y) past → ⊥)
-- the write was accepted, and took no effect yet
Lawful {Row} empty (effect c f k x) past = In (accepted c f k x) past × ((g : ℕ) (y : Row) → In (effect c g k y) past → ⊥)
-- the write took effect
Lawful empty (reported c k) past = Effected past c k

module _ {Row : Type 0} {rules : Rules} {n : Net} {empty : Row} {h : History Row} {s : State Row} (run : Run rules n empty h s) where
  -- A write that is reported after the events of past took effect in the run, after it was asked and accepted and before the report.
  pub record DoneBetween (station number : ℕ) (past : History Row) : Type 0 where
    pub file : ℕ
    pub row : Row
    -- the moment of the effect
    pub earlier : History Row
    pub then : State Row
    pub happened : Happened run (effect station file number row) earlier then
    pub asked : In (asked station file number row) earlier
    pub accepted : In (accepted station file number row) earlier
    pub before : At (effect station file number row) earlier past

  -- What is fetched after the events of past was the primary's row and version in a state of the run, after the ask was opened
  -- and before the GRANT arrived.
  pub record FetchedBetween (station file number : ℕ) (row : Row) (version : ℕ) (past : History Row) : Type 0 where
    -- the moment of the grant
    pub earlier : History Row
    pub then : State Row
    pub happened : Happened run (granted station file number row version) earlier then
    pub reading : ℕ
    pub opened : In (opened station file number reading) earlier
    pub before : At (granted station file number row version) earlier past
    pub row_is : row ≡ then.row file
    pub version_is : version ≡ then.version file

  -- The files are what the history makes of them, in the last state and at each moment, and each event is lawful after those before it.
  pub record Faithful : Type 0 where
    pub version : (file : ℕ) → s.version file ≡ 1 + effects_on file h
    pub row : (file : ℕ) → s.row file ≡ row_on empty file h
    pub lawful : (event : Event Row) (past : History Row) → At event past h → Lawful empty event past
    pub moments : (event : Event Row) (past : History Row) (then : State Row) → Happened run event past then → Files empty past then
    pub reports :
        (station number : ℕ) (past : History Row) (then : State Row) → Happened run (reported station number) past then →
        DoneBetween station number past
    pub fetches :
        (station file number : ℕ) (row : Row) (version : ℕ) (past : History Row) (then : State Row) →
        Happened run (fetched station file number row version) past then → FetchedBetween station file number row version past
