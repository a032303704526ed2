-- If an approval counts for any version, some run breaks agreement: one of an earlier write clears an entry that was made since.
-- Assumes nothing.
use Rattle.std.proofs.Common.{◌≡◌, ℕ, ◌≤◌, Bool, true, false, cond, eqb, [], ◌∷◌, sym, refl, arith}
use mathlib.Core.List.Memᴰ
use Rattle.protocol.specs.Rules.{next_version, Rules, without}
use Rattle.protocol.specs.Messages.{ASK}
use Rattle.protocol.specs.State.{State}
use Rattle.protocol.specs.Events.{opened, granted, fetched, asked, accepted, effect}
use Rattle.protocol.specs.Passing.{ask}
use Rattle.protocol.specs.Steps.{posts, opens, primary_grants, takes, hears, effects}
use Rattle.protocol.specs.Runs.{Run, more}
use Rattle.protocol.specs.Promises.{Agrees}
use Rattle.protocol.specs.Witnesses.{Broken}
use Rattle.protocol.proofs.Lookups.{not_in}
use Rattle.protocol.proofs.Successors.{posting, opening, granting, taking, hearing, effecting}
use Rattle.protocol.proofs.Enabled.{posts_enabled, opens_enabled, primary_grants_enabled, takes_enabled}
use Rattle.protocol.proofs.EnabledWrites.{hears_enabled, effects_enabled}
use Rattle.protocol.proofs.FirstGrant.{exact, first_granted, first_told, first_grant}
use Rattle.protocol.proofs.Rewriting.{written, waiting, write_waits}
use Rattle.protocol.proofs.Approval.{busy, approval, heard, replaced, replacement}

abbrev rules : Rules
rules = without next_version

-- two rows that differ
module _ {Row : Type 0} (empty other : Row) (differ : empty ≡ other → ⊥) where
  -- the station was granted the file until 1100; a write waits, the file is recalled, the station approves, and the write takes effect

  abbrev s0 : State Row
  s0 = first_granted rules empty 1000 1000 1000 100

  first_over : (c : ℕ) → (heard s0 other).entry 0 c ≤ 1000
  first_over c = go (eqb c 1)
    where
      go : (b : Bool) → cond b 0 (cond b 1100 0) ≤ 1000
      go true = omega arith
      go false = omega arith

  abbrev s1 : State Row
  s1 = replaced s0 other

  -- the station asks again, and holds version 2 until 1100

  abbrev s2 : State Row
  s2 = opening s1 1 0 1000

  abbrev s3 : State Row
  s3 = posting s2 (ASK 1 0 3)

  abbrev s4 : State Row
  s4 = granting rules s3 1 0 3 1000 other 2 100

  abbrev s5 : State Row
  s5 = taking rules exact s4 1 0 1000 other 2 100

  held_run :
      Run rules exact empty
      (fetched 1 0 3 other 2 ∷ (granted 1 0 3 other 2 ∷ (opened 1 0 3 1000 ∷
      (effect 1 0 2 other ∷ (accepted 1 0 2 other ∷ (asked 1 0 2 other ∷ first_told empty 1000)))))) s5
  held_run =
      more (more (more (more
      (replacement s0 other
      (approval s0
      (first_grant rules exact empty 1000 1000 1000 100 refl (record { late = omega arith; early = omega arith })
      (record { late = omega arith; early = omega arith }) (omega arith))
      other (omega arith) refl (omega arith) 1000 (record { late = omega arith; early = omega arith })
      (λ e st p. absurd (omega (arith, p))) (λ e st p. absurd (omega (arith, p))))
      refl 1000 (record { late = omega arith; early = omega arith }) (omega arith) (λ c st top. first_over c))
      (opens (opens_enabled exact s1 1 0 1000 (record { late = omega arith; early = omega arith }))))
      (posts (posts_enabled exact s2 (ASK 1 0 3) (ask refl))))
      (primary_grants (primary_grants_enabled exact s3 rules 1 0 3 1000 100 (omega arith) refl (Memᴰ.head refl)
      (record { late = omega arith; early = omega arith }) (omega arith) (λ w. not_in refl w.waits))))
      (takes (takes_enabled exact s4 rules _ 1 0 3 1000 other 2 100 (Memᴰ.head refl) refl))

  -- a second write waits, and the first approval arrives once more

  abbrev s6 : State Row
  s6 = waiting s5 empty

  abbrev s7 : State Row
  s7 = hearing s6 1 0

  abbrev s8 : State Row
  s8 = effecting s7 (written s5 empty) []

  over : (c : ℕ) → s7.entry 0 c ≤ 1000
  over c = go (eqb c 1)
    where
      go : (b : Bool) → cond b 0 (cond b 1100 (cond b 0 (cond b 1100 0))) ≤ 1000
      go true = omega arith
      go false = omega arith

  disagrees : ¬ Agrees exact s8
  disagrees agrees =
      differ (sym (agrees 1 0 other 2 1100 1000 (omega arith) refl (record { late = omega arith; early = omega arith }) (omega arith)).row_is)

  pub old_approval_breaks : Broken (without next_version) Row empty
  old_approval_breaks =
      record {
        net = exact;
        history = _;
        state = s8;
        run =
            more (more (write_waits s5 held_run empty (omega arith) (omega arith))
            (hears (hears_enabled exact s6 rules 1 0 2 (busy s5 empty s6 refl)
            (Memᴰ.tail (Memᴰ.tail (Memᴰ.tail (Memᴰ.tail (Memᴰ.head refl))))) tt)))
            (effects (effects_enabled exact s7 rules (written s5 empty) 1000 [] [] refl (record { late = omega arith; early = omega arith }) (omega arith)
            (λ c st top. over c)));
        disagrees = disagrees;
      }
