-- If the primary grants while a write waits, some run breaks agreement: the station approved, asks again, and its approval repeats.
-- Assumes nothing.
use Rattle.std.proofs.Common.{◌≡◌, ℕ, ◌≤◌, Bool, true, false, cond, eqb, [], refl, arith}
use mathlib.Core.List.Memᴰ
use Rattle.protocol.specs.Rules.{no_write_waits, Rules, without}
use Rattle.protocol.specs.Messages.{ASK}
use Rattle.protocol.specs.State.{State}
use Rattle.protocol.specs.Passing.{ask}
use Rattle.protocol.specs.Steps.{posts, opens, primary_grants, takes, hears, effects}
use Rattle.protocol.specs.Runs.{more}
use Rattle.protocol.specs.Promises.{Agrees}
use Rattle.protocol.specs.Witnesses.{Broken}
use Rattle.protocol.proofs.Successors.{posting, opening, granting, taking, hearing, effecting}
use Rattle.protocol.proofs.Enabled.{posts_enabled, opens_enabled, primary_grants_enabled, takes_enabled}
use Rattle.protocol.proofs.EnabledWrites.{hears_enabled, effects_enabled}
use Rattle.protocol.proofs.FirstGrant.{exact, first_granted, first_grant}
use Rattle.protocol.proofs.Rewriting.{written}
use Rattle.protocol.proofs.Approval.{approved, busy, approval}

abbrev rules : Rules
rules = without no_write_waits

-- two rows that differ
module _ {Row : Type 0} (empty other : Row) (differ : empty ≡ other → ⊥) where
  -- the station was granted the file until 1100; a write waits, the file is recalled, and the station approves

  abbrev s0 : State Row
  s0 = first_granted rules empty 1000 1000 1000 100

  abbrev s1 : State Row
  s1 = approved s0 other

  -- the station asks again, and is granted until 1100 although the write waits

  abbrev s2 : State Row
  s2 = opening s1 1 0 1000

  abbrev s3 : State Row
  s3 = posting s2 (ASK 1 0 3)

  abbrev s4 : State Row
  s4 = granting rules s3 1 0 3 1000 empty 1 100

  abbrev s5 : State Row
  s5 = taking rules exact s4 1 0 1000 empty 1 100

  -- the approval arrives and clears the entry, and the write takes effect

  abbrev s6 : State Row
  s6 = hearing s5 1 0

  abbrev s7 : State Row
  s7 = effecting s6 (written s0 other) []

  over : (c : ℕ) → s6.entry 0 c ≤ 1000
  over c = go (eqb c 1)
    where
      go : (b : Bool) → cond b 0 (cond b 1100 (cond b 1100 0)) ≤ 1000
      go true = omega arith
      go false = omega arith

  disagrees : ¬ Agrees exact s7
  disagrees agrees =
      differ (agrees 1 0 empty 1 1100 1000 (omega arith) refl (record { late = omega arith; early = omega arith }) (omega arith)).row_is

  pub waiting_grant_breaks : Broken (without no_write_waits) Row empty
  waiting_grant_breaks =
      record {
        net = exact;
        history = _;
        state = s7;
        run =
            more (more (more (more (more (more
            (approval s0
            (first_grant rules exact empty 1000 1000 1000 100 refl (record { late = omega arith; early = omega arith })
            (record { late = omega arith; early = omega arith }) (omega arith))
            other (omega arith) refl (omega arith) 1000 (record { late = omega arith; early = omega arith })
            (λ e st p. absurd (omega (arith, p))) (λ e st p. absurd (omega (arith, p))))
            (opens (opens_enabled exact s1 1 0 1000 (record { late = omega arith; early = omega arith }))))
            (posts (posts_enabled exact s2 (ASK 1 0 3) (ask refl))))
            (primary_grants (primary_grants_enabled exact s3 rules 1 0 3 1000 100 (omega arith) refl (Memᴰ.head refl)
            (record { late = omega arith; early = omega arith }) (omega arith) tt)))
            (takes (takes_enabled exact s4 rules _ 1 0 3 1000 empty 1 100 (Memᴰ.head refl) refl)))
            (hears (hears_enabled exact s5 rules 1 0 2 (busy s0 other s5 refl) (Memᴰ.tail (Memᴰ.tail (Memᴰ.head refl))) refl)))
            (effects (effects_enabled exact s6 rules (written s0 other) 1000 [] [] refl (record { late = omega arith; early = omega arith }) (omega arith)
            (λ c st top. over c)));
        disagrees = disagrees;
      }
