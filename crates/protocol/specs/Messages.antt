-- The six messages of the protocol.
-- Assumes nothing.
use Rattle.std.specs.Prelude.{ℕ}

-- A message names the station at its one end; at the other end is the station's parent (ASK, GRANT) or the primary.
pub data Message (Row : Type 0) : Type 0 where
  -- the station wants a lease on the file
  ASK : (station file number : ℕ) → Message Row
  -- the parent gives one, for the ask of that number
  GRANT : (station file number : ℕ) (row : Row) (version term : ℕ) → Message Row
  -- the primary wants the file back, so that the write of that version can take effect
  RECALL : (station file version : ℕ) → Message Row
  -- the station gave the file up for that version
  APPROVE : (station file version : ℕ) → Message Row
  -- the station asks for a write
  WRITE : (station file number : ℕ) (row : Row) → Message Row
  -- the write of that number took effect
  DONE : (station number : ℕ) → Message Row
