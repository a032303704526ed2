-- A write can wait for all but one of the ticks that none reaches: the primary reads ahead when it grants, and behind when it looks.
-- Assumes nothing.
use Rattle.std.proofs.Common.{◌≡◌, ℕ, ◌+◌, ◌-◌, ◌*◌, ◌<◌, max, ◌∷◌, refl, arith}
use mathlib.Core.List.Memᴰ
use Rattle.protocol.specs.Lookups.{In}
use Rattle.protocol.specs.Net.{Net}
use Rattle.protocol.specs.Rules.{sound}
use Rattle.protocol.specs.State.{Waiting, State}
use Rattle.protocol.specs.Events.{asked, accepted}
use Rattle.protocol.specs.Steps.{submits, accepts}
use Rattle.protocol.specs.Runs.{none, next}
use Rattle.protocol.specs.Calls.{Held, Calls, new, still, turn, over, waits}
use Rattle.protocol.specs.Witnesses.{Waited}
use Rattle.protocol.proofs.Successors.{passing, submitting, accepting}
use Rattle.protocol.proofs.Enabled.{started_new, passes_enabled}
use Rattle.protocol.proofs.EnabledWrites.{submits_enabled, accepts_enabled}
use Rattle.protocol.proofs.FirstGrant.{pair, first_granted, first_told, first_steps}
use Rattle.protocol.proofs.Turns.{pass_call}

module _ {Row : Type 0} (empty row : Row) (longest b : ℕ) (some : 0 < longest) where
  abbrev net : Net
  net = pair 0 b longest

  -- at true time b the primary reads 2 b, and grants for the longest term
  abbrev s0 : State Row
  s0 = first_granted sound empty b b (2 * b) longest

  abbrev written : Waiting Row
  written = record { station = 1; file = 0; number = 2; row = row; since = b }

  abbrev s1 : State Row
  s1 = submitting s0 1 0 row

  abbrev s2 : State Row
  s2 = accepting s1 written

  -- it reads b behind, one tick before the entry ends
  abbrev s3 : State Row
  s3 = passing s2 (b + (longest + 2 * b - 1))

  -- the entry is live at a reading before its end
  held : (s : State Row) (reading : ℕ) → s.entry 0 1 ≡ max 0 (2 * b + longest) → reading < 2 * b + longest → Held net s 0 reading
  held s reading e l = record { child = 1; known = omega arith; below = refl; live = omega arith }

  all_held : (w : Waiting Row) → In w s2.waiting → Held net s2 w.file (2 * b)
  all_held w m = rw (Memᴰ.eq_of_singleton m) (held s2 (2 * b) refl (omega arith))

  granted_calls : Calls sound net empty (first_told empty b) s0
  granted_calls =
      still (new (started_new empty b))
      (first_steps sound net empty b b (2 * b) longest refl (record { late = omega arith; early = omega arith })
      (record { late = omega arith; early = omega arith }) (omega arith))
      refl (λ w m. m)

  submitted_calls : Calls sound net empty (asked 1 0 2 row ∷ first_told empty b) s1
  submitted_calls = still granted_calls (next none (submits (submits_enabled net s0 1 0 row (omega arith) (omega arith)))) refl (λ w m. m)

  accepted_calls : Calls sound net empty (accepted 1 0 2 row ∷ (asked 1 0 2 row ∷ first_told empty b)) s2
  accepted_calls =
      turn submitted_calls (next none (accepts (accepts_enabled net s1 written (Memᴰ.head refl) (omega arith) refl)))
      (record { reading = 2 * b; reads = record { late = omega arith; early = omega arith }; held = all_held })

  pub waited : (ticks : ℕ) → ticks ≡ longest + 2 * b → Waited sound Row empty longest b (ticks - 1)
  waited ticks e =
      record {
        net = net;
        history = _;
        state = s3;
        calls =
            pass_call accepted_calls (passes_enabled net s2 (b + (longest + 2 * b - 1)) (omega arith))
            (record { late = omega arith; early = omega arith }) (waits (held s3 (longest + 2 * b - 1) refl (omega arith)) over);
        longest_is = refl;
        bound_is = refl;
        write = written;
        waits = Memᴰ.head refl;
        since = omega arith;
      }
