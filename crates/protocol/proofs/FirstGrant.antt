-- The beginning of a run: station 1, a child of the primary, asks, and the primary grants.
-- Assumes nothing.
use Rattle.std.proofs.Common.{◌≡◌, ℕ, ◌≤◌, cond, eqb, [], ◌∷◌, refl, arith}
use mathlib.Core.List.Memᴰ
use Rattle.protocol.specs.Net.{Net}
use Rattle.protocol.specs.State.{State, Reads, Busy}
use Rattle.protocol.specs.Events.{History}
use Rattle.protocol.specs.Runs.{Run, new, Steps, none, next, steps_run}
use Rattle.protocol.specs.Rules.{no_write_waits, Rules}
use Rattle.protocol.specs.Messages.{ASK}
use Rattle.protocol.specs.Events.{opened, granted}
use Rattle.protocol.specs.Passing.{ask}
use Rattle.protocol.specs.Steps.{posts, opens, primary_grants}
use Rattle.protocol.proofs.Lookups.{not_in}
use Rattle.protocol.proofs.Successors.{started, posting, opening, granting}
use Rattle.protocol.proofs.Enabled.{held_anyway, started_new, posts_enabled, opens_enabled, primary_grants_enabled}

-- the primary and one station, with their drift bounds and the longest term
abbrev pub pair : (station primary longest : ℕ) → Net
pair b p longest = record { size = 2; parent = λ c. 0; down = λ c h. h; bound = λ c. cond (eqb c 0) p b; longest = longest }

-- with exact clocks and terms to 100 ticks
abbrev pub exact : Net
exact = pair 0 0 100

-- the station asks for file 0 at its reading, at this true time
abbrev pub asking : {Row : Type 0} → Row → (time reading : ℕ) → State Row
asking empty time r = posting (opening (started empty time) 1 0 r) (ASK 1 0 1)

-- the primary grants it at its own, for the term
abbrev pub first_granted : {Row : Type 0} → Rules → Row → (time reading grant_reading term : ℕ) → State Row
first_granted rules empty time r g t = granting rules (asking empty time r) 1 0 1 g empty 1 t

abbrev pub first_told : {Row : Type 0} → Row → (reading : ℕ) → History Row
first_told empty r = granted 1 0 1 empty 1 ∷ (opened 1 0 1 r ∷ [])

module _ {Row : Type 0} (rules : Rules) (n : Net) (empty : Row) (time r g t : ℕ) where
  pub first_steps :
      n.parent 1 ≡ 0 → Reads n (started empty time) 1 r → Reads n (asking empty time r) (n.parent 1) g → t ≤ n.longest →
      Steps rules n [] (started empty time) (first_told empty r) (first_granted rules empty time r g t)
  first_steps top station primary short =
      next (next (next none
      (opens (opens_enabled n (started empty time) 1 0 r station)))
      (posts (posts_enabled n (opening (started empty time) 1 0 r) (ASK 1 0 1) (ask refl))))
      (primary_grants (primary_grants_enabled n (asking empty time r) rules 1 0 1 g t (omega arith) top (Memᴰ.head refl) primary short
      (held_anyway (rules.keeps no_write_waits) (λ (w : Busy (asking empty time r) 0). not_in refl w.waits))))

  pub first_grant :
      n.parent 1 ≡ 0 → Reads n (started empty time) 1 r → Reads n (asking empty time r) (n.parent 1) g → t ≤ n.longest →
      Run rules n empty (first_told empty r) (first_granted rules empty time r g t)
  first_grant top station primary short = steps_run (new (started_new empty time)) (first_steps top station primary short)
