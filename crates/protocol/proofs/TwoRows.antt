-- Rows are lists of bytes, and not all the same.
-- Assumes nothing.
use Rattle.std.proofs.Common.{◌≡◌, ℕ, List, [], ◌∷◌}
use Rattle.protocol.proofs.Lookups.{clash}

pub two_rows : ◌≡◌ {A = List ℕ} [] (1 ∷ []) → ⊥
two_rows e = clash (cc)
