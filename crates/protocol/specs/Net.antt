-- The network that a run happens in: its tree, the drift bound of each clock and the longest term.
-- Assumes nothing.
use Rattle.std.specs.Prelude.{ℕ, ◌<◌}

-- Node 0 is the primary; every other node is a station below a parent of smaller number, to any depth.
pub record Net : Type 0 where
  -- the nodes are 0 to size - 1
  pub size : ℕ
  pub parent : ℕ → ℕ
  pub down : (station : ℕ) → 0 < station → parent station < station
  -- how far a node's reading may lie from true time, on either side
  pub bound : ℕ → ℕ
  -- no grant has a longer term
  pub longest : ℕ
