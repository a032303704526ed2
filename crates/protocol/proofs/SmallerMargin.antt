-- With a margin below twice both bounds some run breaks agreement: the station's clock is as early as can be when it asks and as late
-- as can be when it reads, the primary's the other way round.
-- Assumes nothing.
use Rattle.std.proofs.Common.{◌≡◌, ℕ, ◌+◌, ◌*◌, ◌<◌, ◌≤◌, max, ◌∷◌, refl, inl, inr, arith}
use mathlib.Core.List.Memᴰ
use Rattle.protocol.specs.Net.{Net}
use Rattle.protocol.specs.Rules.{Rules, with_margin, narrow_margin, run_out}
use Rattle.protocol.specs.State.{State}
use Rattle.protocol.specs.Events.{fetched}
use Rattle.protocol.specs.Steps.{takes}
use Rattle.protocol.specs.Runs.{Run, more}
use Rattle.protocol.specs.Witnesses.{Broken, LeastMargin}
use Rattle.protocol.proofs.Put.{put2_cases}
use Rattle.protocol.proofs.Successors.{taking}
use Rattle.protocol.proofs.Enabled.{takes_enabled}
use Rattle.protocol.proofs.FirstGrant.{pair, first_granted, first_told, first_grant}
use Rattle.protocol.proofs.Rewriting.{broken_by_write}

-- two rows that differ
module _ {Row : Type 0} (empty other : Row) (differ : empty ≡ other → ⊥) where
  -- the station's bound is b and the primary's p
  module _ (margin : ℕ → ℕ → ℕ) (b p : ℕ) where
    abbrev rules : Rules
    rules = with_margin margin

    abbrev net : Net
    net = pair b p (2 * p + 1)

    -- the station asks when it reads b ahead, the primary grants when it reads p behind, so that its entry ends early
    abbrev granted_state : State Row
    granted_state = first_granted rules empty (b + p) (b + p + b) b (2 * p + 1)

    abbrev held_state : State Row
    held_state = taking rules net granted_state 1 0 (b + p + b) empty 1 (2 * p + 1)

    held_run : Run rules net empty (fetched 1 0 1 empty 1 ∷ first_told empty (b + p + b)) held_state
    held_run =
        more
        (first_grant rules net empty (b + p) (b + p + b) b (2 * p + 1) refl (record { late = omega arith; early = omega arith })
        (record { late = omega arith; early = omega arith }) (omega arith))
        (takes (takes_enabled net granted_state rules (first_told empty (b + p + b)) 1 0 1 (b + p + b) empty 1 (2 * p + 1)
        (Memᴰ.head refl) refl))

    over : (c : ℕ) → held_state.entry 0 c ≤ b + 2 * p + 1
    over c =
        elim (put2_cases (λ (f c : ℕ). 0) 0 1 (max 0 (b + (2 * p + 1))) 0 c) [
          | inl e ↦ omega arith
          | inr e ↦ omega (arith, e.2)
        ]

    -- a tick later the primary reads p ahead, and its entry is over; the station reads b behind, and its copy is live
    broken : margin b p < 2 * b + 2 * p → Broken (with_margin margin) Row empty
    broken small =
        broken_by_write held_state held_run other differ (omega arith) (omega arith) refl (b + p + 1) (b + 2 * p + 1) (omega arith)
        (record { late = omega arith; early = omega arith }) (omega arith) (λ c st top. over c) 1 1 (run_out rules net 1 (b + p + b) (2 * p + 1))
        (p + 1) (omega arith) refl
        (record { late = omega arith; early = omega arith }) (omega arith)

  pub least_margin : (station parent least : ℕ) → least ≡ 2 * station + 2 * parent → LeastMargin Row empty station parent least
  least_margin station parent least e margin small = broken margin station parent (omega arith)

  -- with bounds of 1
  pub narrow_margin_breaks : Broken narrow_margin Row empty
  narrow_margin_breaks = broken (λ station parent. 2 * station + parent) 1 1 (omega arith)
