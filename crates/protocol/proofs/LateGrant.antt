-- If a GRANT acts after its ask was closed, some run breaks agreement: it arrives after the station gave the file up.
-- Assumes nothing.
use Rattle.std.proofs.Common.{◌≡◌, ℕ, ◌≤◌, Bool, true, false, cond, eqb, ◌∷◌, refl, arith}
use mathlib.Core.List.Memᴰ
use Rattle.protocol.specs.Rules.{open_ask, Rules, without}
use Rattle.protocol.specs.State.{State}
use Rattle.protocol.specs.Events.{asked, accepted, effect}
use Rattle.protocol.specs.Steps.{takes}
use Rattle.protocol.specs.Runs.{Run, more}
use Rattle.protocol.specs.Promises.{Agrees}
use Rattle.protocol.specs.Witnesses.{Broken}
use Rattle.protocol.proofs.Successors.{taking}
use Rattle.protocol.proofs.Enabled.{takes_enabled}
use Rattle.protocol.proofs.FirstGrant.{exact, first_granted, first_told, first_grant}
use Rattle.protocol.proofs.Approval.{approval, heard, replaced, replacement}

abbrev rules : Rules
rules = without open_ask

-- two rows that differ
module _ {Row : Type 0} (empty other : Row) (differ : empty ≡ other → ⊥) where
  -- the station asked, and the primary granted for 100 ticks; a write waits, the file is recalled, given up and approved, and the write takes effect

  abbrev s0 : State Row
  s0 = first_granted rules empty 1000 1000 1000 100

  over : (c : ℕ) → (heard s0 other).entry 0 c ≤ 1000
  over c = go (eqb c 1)
    where
      go : (b : Bool) → cond b 0 (cond b 1100 0) ≤ 1000
      go true = omega arith
      go false = omega arith

  run :
      Run rules exact empty (effect 1 0 2 other ∷ (accepted 1 0 2 other ∷ (asked 1 0 2 other ∷ first_told empty 1000))) (replaced s0 other)
  run =
      replacement s0 other
      (approval s0 (first_grant rules exact empty 1000 1000 1000 100 refl (record { late = omega arith; early = omega arith })
      (record { late = omega arith; early = omega arith }) (omega arith)) other
      (omega arith) refl (omega arith) 1000 (record { late = omega arith; early = omega arith }) (λ e st p. absurd (omega (arith, p)))
      (λ e st p. absurd (omega (arith, p))))
      refl 1000 (record { late = omega arith; early = omega arith }) (omega arith) (λ c st top. over c)

  -- now the GRANT arrives

  abbrev s1 : State Row
  s1 = taking rules exact (replaced s0 other) 1 0 1000 empty 1 100

  disagrees : ¬ Agrees exact s1
  disagrees agrees =
      differ (agrees 1 0 empty 1 1100 1000 (omega arith) refl (record { late = omega arith; early = omega arith }) (omega arith)).row_is

  pub late_grant_breaks : Broken (without open_ask) Row empty
  late_grant_breaks =
      record {
        net = exact;
        history = _;
        state = s1;
        run =
            more run
            (takes (takes_enabled exact (replaced s0 other) rules _ 1 0 1 1000 empty 1 100
            (Memᴰ.tail (Memᴰ.tail (Memᴰ.tail (Memᴰ.tail (Memᴰ.head refl)))))
            (Memᴰ.tail (Memᴰ.tail (Memᴰ.tail (Memᴰ.tail (Memᴰ.head refl)))))));
        disagrees = disagrees;
      }
