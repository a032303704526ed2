-- What a run tells of, and the order of what it told.
-- Assumes nothing.
use Rattle.std.specs.Prelude.{ℕ, List, ◌∷◌, Some, None, Option}

-- An event names the station, the file, and the number of the ask or write.
pub data Event (Row : Type 0) : Type 0 where
  -- a station opens an ask, at this reading
  opened : (station file number reading : ℕ) → Event Row
  -- its parent grants the ask
  granted : (station file number : ℕ) (row : Row) (version : ℕ) → Event Row
  -- the station takes the GRANT, which closes the ask
  fetched : (station file number : ℕ) (row : Row) (version : ℕ) → Event Row
  -- a station asks for a write
  asked : (station file number : ℕ) (row : Row) → Event Row
  -- the write joins the primary's queue
  accepted : (station file number : ℕ) (row : Row) → Event Row
  -- the write takes effect
  effect : (station file number : ℕ) (row : Row) → Event Row
  -- the station is told that its write is done
  reported : (station number : ℕ) → Event Row

-- A history is what was told so far, newest first.
abbrev pub History : Type 0 → Type 0
History Row = List (Event Row)

-- A history goes on with at most one event.
abbrev pub noted : {Row : Type 0} → Option (Event Row) → History Row → History Row
noted None history = history
noted (Some event) history = event ∷ history

-- The event stands in the history, and past is what went before it.
pub data At {Row : Type 0} (event : Event Row) (past : History Row) : History Row → Type 0 where
  now : At event past (event ∷ past)
  before : {newer : Event Row} {history : History Row} → At event past history → At event past (newer ∷ history)
