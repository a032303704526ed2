-- The end of a run: station 1 writes another row to file 0, and the write takes effect while some station's copy is live.
-- Assumes nothing.
use Rattle.std.proofs.Common.{◌≡◌, ℕ, ◌+◌, ◌<◌, ◌≤◌, List, [], ◌∷◌, ◌++◌, Some, refl, ap, arith}
use mathlib.Core.List.Memᴰ
use Rattle.protocol.specs.Net.{Net}
use Rattle.protocol.specs.Rules.{entries_done, Rules, Kept}
use Rattle.protocol.specs.State.{lease, Waiting, State, Reads}
use Rattle.protocol.specs.Events.{History, asked, accepted}
use Rattle.protocol.specs.Steps.{passes, submits, accepts, effects}
use Rattle.protocol.specs.Runs.{Run, more}
use Rattle.protocol.specs.Witnesses.{Broken}
use Rattle.protocol.proofs.Successors.{passing, submitting, accepting, effecting}
use Rattle.protocol.proofs.Enabled.{passes_enabled}
use Rattle.protocol.proofs.EnabledWrites.{submits_enabled, accepts_enabled, effects_enabled}

-- what is written, and the state after it took effect at a later time
module _ {Row : Type 0} (s : State Row) (other : Row) where
  abbrev pub written : Waiting Row
  written = record { station = 1; file = 0; number = s.counter 1 + 1; row = other; since = s.time }

  abbrev pub submitted : State Row
  submitted = submitting s 1 0 other

  abbrev pub waiting : State Row
  waiting = accepting submitted written

  abbrev pub rewritten : ℕ → State Row
  rewritten later = effecting (passing waiting later) written []

module _ {Row : Type 0} {rules : Rules} {n : Net} {empty : Row} {h : History Row} (s : State Row) (run : Run rules n empty h s) (other : Row) where
  -- the write waits
  pub write_waits :
      1 < n.size → s.last 1 ≤ s.counter 1 →
      Run rules n empty (accepted 1 0 (s.counter 1 + 1) other ∷ (asked 1 0 (s.counter 1 + 1) other ∷ h)) (waiting s other)
  write_waits member low =
      more (more run
      (submits (submits_enabled n s 1 0 other (omega arith) member)))
      (accepts (accepts_enabled n (submitted s other) (written s other) (Memᴰ.head refl) (omega arith) refl))

  -- if the primary may read that no entry holds the write back when a station may read that its copy of the old row is live, agreement breaks
  pub broken_by_write :
      (empty ≡ other → ⊥) → 1 < n.size → s.last 1 ≤ s.counter 1 → s.waiting ≡ [] → (later r : ℕ) → s.time ≤ later →
      Reads n (passing s later) 0 r → s.quiet 0 ≤ r → ((c : ℕ) → 0 < c → n.parent c ≡ 0 → Kept (rules.keeps entries_done) (s.entry 0 c ≤ r)) →
      (c v until reading : ℕ) → 0 < c → s.copy c 0 ≡ Some (lease empty v until) → Reads n (passing s later) c reading → reading < until →
      Broken rules Row empty
  broken_by_write differ member low idle later r passed reads still ended c v until reading known copied near live =
      record {
        net = n;
        history = _;
        state = rewritten s other later;
        run =
            more (more (write_waits member low)
            (passes (passes_enabled n (waiting s other) later passed)))
            (effects (effects_enabled n (passing (waiting s other) later) rules (written s other) r [] []
            (ap (λ (l : List (Waiting Row)). l ++ (written s other ∷ [])) idle)
            (record { late = reads.late; early = reads.early }) still ended));
        disagrees = λ agrees.
            differ (agrees c 0 empty v until reading known copied (record { late = near.late; early = near.early }) live).row_is;
      }
