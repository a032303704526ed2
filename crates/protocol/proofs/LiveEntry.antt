-- If a write takes effect while an entry on its file is live, some run breaks agreement: at once.
-- Assumes nothing.
use Rattle.std.proofs.Common.{◌≡◌, ◌∷◌, refl, arith}
use mathlib.Core.List.Memᴰ
use Rattle.protocol.specs.Rules.{entries_done, Rules, without}
use Rattle.protocol.specs.State.{State}
use Rattle.protocol.specs.Events.{fetched}
use Rattle.protocol.specs.Steps.{takes}
use Rattle.protocol.specs.Runs.{Run, more}
use Rattle.protocol.specs.Witnesses.{Broken}
use Rattle.protocol.proofs.Successors.{taking}
use Rattle.protocol.proofs.Enabled.{takes_enabled}
use Rattle.protocol.proofs.FirstGrant.{exact, first_granted, first_told, first_grant}
use Rattle.protocol.proofs.Rewriting.{broken_by_write}

abbrev rules : Rules
rules = without entries_done

-- two rows that differ
module _ {Row : Type 0} (empty other : Row) (differ : empty ≡ other → ⊥) where
  abbrev s0 : State Row
  s0 = first_granted rules empty 1000 1000 1000 100

  abbrev s1 : State Row
  s1 = taking rules exact s0 1 0 1000 empty 1 100

  run : Run rules exact empty (fetched 1 0 1 empty 1 ∷ first_told empty 1000) s1
  run =
      more (first_grant rules exact empty 1000 1000 1000 100 refl (record { late = omega arith; early = omega arith })
      (record { late = omega arith; early = omega arith }) (omega arith))
      (takes (takes_enabled exact s0 rules (first_told empty 1000) 1 0 1 1000 empty 1 100 (Memᴰ.head refl) refl))

  pub live_entry_breaks : Broken (without entries_done) Row empty
  live_entry_breaks =
      broken_by_write s1 run other differ (omega arith) (omega arith) refl 1000 1000 (omega arith)
      (record { late = omega arith; early = omega arith })
      (omega arith) (λ c st top. tt) 1 1 1100 1000 (omega arith) refl (record { late = omega arith; early = omega arith }) (omega arith)
