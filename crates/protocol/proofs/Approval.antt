-- A part of a run: station 1 writes another row to file 0, the file is recalled from the station, and it approves.
-- Assumes nothing.
use Rattle.std.proofs.Common.{◌≡◌, ℕ, ◌+◌, ◌<◌, ◌≤◌, List, [], ◌∷◌, ◌++◌, refl, ap, arith}
use mathlib.Core.List.Memᴰ
use Rattle.protocol.specs.Net.{Net}
use Rattle.protocol.specs.Rules.{next_version, quiet_mark, children_done, entries_done, Rules, Kept}
use Rattle.protocol.specs.Messages.{RECALL}
use Rattle.protocol.specs.State.{Waiting, State, Reads, Busy}
use Rattle.protocol.specs.Events.{History, asked, accepted, effect}
use Rattle.protocol.specs.Passing.{recall}
use Rattle.protocol.specs.Steps.{posts, yields, hears, effects}
use Rattle.protocol.specs.Runs.{Run, more}
use Rattle.protocol.proofs.Successors.{posting, yielding, hearing, effecting}
use Rattle.protocol.proofs.Enabled.{held_anyway, posts_enabled}
use Rattle.protocol.proofs.EnabledWrites.{yields_enabled, hears_enabled, effects_enabled}
use Rattle.protocol.proofs.Rewriting.{written, waiting, write_waits}

module _ {Row : Type 0} (s : State Row) (other : Row) where
  abbrev pub recalled : State Row
  recalled = posting (waiting s other) (RECALL 1 0 (s.version 0 + 1))

  abbrev pub approved : State Row
  approved = yielding recalled 1 0 (s.version 0 + 1)

  -- the write waits on the file
  pub busy : (t : State Row) → t.waiting ≡ s.waiting ++ (written s other ∷ []) → Busy t 0
  busy t e = record { write = written s other; waits = rw e (Memᴰ.append_right s.waiting (Memᴰ.head refl)); on = refl }

pub approval :
    {Row : Type 0} {rules : Rules} {n : Net} {empty : Row} {h : History Row} (s : State Row) → Run rules n empty h s → (other : Row) →
    1 < n.size → n.parent 1 ≡ 0 → s.last 1 ≤ s.counter 1 → (r : ℕ) → Reads n s 1 r →
    ((e : ℕ) → 0 < e → n.parent e ≡ 1 → Kept (rules.keeps quiet_mark) (s.quiet 1 ≤ r)) →
    ((e : ℕ) → 0 < e → n.parent e ≡ 1 → Kept (rules.keeps children_done) (s.entry 0 e ≤ r)) →
    Run rules n empty (accepted 1 0 (s.counter 1 + 1) other ∷ (asked 1 0 (s.counter 1 + 1) other ∷ h)) (approved s other)
approval {rules = rules} {n = n} s run other member top low r reads still ended =
    more (more (write_waits s run other member low)
    (posts (posts_enabled n (waiting s other) (RECALL 1 0 (s.version 0 + 1)) (recall (omega arith) top refl (busy s other (waiting s other) refl)))))
    (yields (yields_enabled n (recalled s other) rules 1 0 (s.version 0 + 1) r (Memᴰ.head refl)
    (record { late = reads.late; early = reads.early }) still ended))

-- the primary hears of it, and the write takes effect
module _ {Row : Type 0} (s : State Row) (other : Row) where
  abbrev pub heard : State Row
  heard = hearing (approved s other) 1 0

  abbrev pub replaced : State Row
  replaced = effecting heard (written s other) []

pub replacement :
    {Row : Type 0} {rules : Rules} {n : Net} {empty : Row} {h : History Row} (s : State Row) (other : Row) → Run rules n empty h (approved s other) →
    s.waiting ≡ [] → (r : ℕ) → Reads n s 0 r → s.quiet 0 ≤ r →
    ((c : ℕ) → 0 < c → n.parent c ≡ 0 → Kept (rules.keeps entries_done) ((heard s other).entry 0 c ≤ r)) →
    Run rules n empty (effect 1 0 (s.counter 1 + 1) other ∷ h) (replaced s other)
replacement {rules = rules} {n = n} s other run idle r reads still ended =
    more (more run
    (hears (hears_enabled n (approved s other) rules 1 0 (s.version 0 + 1) (busy s other (approved s other) refl) (Memᴰ.head refl)
    (held_anyway (rules.keeps next_version) refl))))
    (effects (effects_enabled n (heard s other) rules (written s other) r [] [] (ap (λ (l : List (Waiting _)). l ++ (written s other ∷ [])) idle)
    (record { late = reads.late; early = reads.early }) still ended))
