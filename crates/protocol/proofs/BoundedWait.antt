-- Every waiting write was accepted at a moment of the run, and after every call not long ago.
-- Assumes nothing.
use Rattle.std.proofs.Common.{◌≡◌, ℕ, ◌+◌, ◌*◌, ◌<◌, ◌⊎◌, Some, Option, sym, refl, ap, ◌∙◌, subst, inl, inr, arith}
use mathlib.Core.List.Memᴰ
use Rattle.protocol.specs.Lookups.{In}
use Rattle.protocol.specs.Net.{Net}
use Rattle.protocol.specs.Rules.{sound}
use Rattle.protocol.specs.State.{Waiting, State}
use Rattle.protocol.specs.Events.{Event, History, accepted}
use Rattle.protocol.specs.Steps.{told}
use Rattle.protocol.specs.Steps.{Step, passes, posts, restarts, opens, primary_grants, relay_grants, takes, yields, hears, submits, accepts, effects, ends}
use Rattle.protocol.specs.Runs.{Run, more, Happened, Steps, none, next}
use Rattle.protocol.specs.Calls.{Held, Calls, new, still, turn, calls_run}
use Rattle.protocol.specs.Promises as Promises
use Rattle.protocol.proofs.Lookups.{not_in}
use Rattle.protocol.proofs.Entries.{Entries, new_entries, step_entries, effects_left}

-- a write that waits after a step waited before it, or is the one that the step accepted
module _ {Row : Type 0} (n : Net) (h : History Row) (s s' : State Row) (w : Waiting Row) (m : In w s'.waiting) where
  abbrev From : Option (Event Row) → Type 0
  From told = In w s.waiting ⊎ ((told ≡ Some (accepted w.station w.file w.number w.row)) × (w.since ≡ s.time))

  same_from : {o : Option (Event Row)} → s'.waiting ≡ s.waiting → From o
  same_from e = inl (subst (λ l. In w l) e m)

  waiting_from : (a : Step sound n h s s') → From (told a)
  waiting_from (passes a) = same_from a.queue.waiting
  waiting_from (posts a) = same_from a.queue.waiting
  waiting_from (restarts a) = same_from a.queue.waiting
  waiting_from (opens a) = same_from a.queue.waiting
  waiting_from (primary_grants a) = same_from a.grants.queue.waiting
  waiting_from (relay_grants a) = same_from a.grants.queue.waiting
  waiting_from (takes a) = same_from a.queue.waiting
  waiting_from (yields a) = same_from a.queue.waiting
  waiting_from (hears a) = same_from a.queue.waiting
  waiting_from (submits a) = same_from a.queue.waiting
  waiting_from (accepts {write = w₀} a) =
      elim (Memᴰ.append_cases s.waiting (subst (λ l. In w l) a.waiting m)) [
        | inl b ↦ inl b
        | inr b ↦
            let e : w ≡ w₀ = Memᴰ.eq_of_singleton b in
            inr (
              ap (λ (v : Waiting Row). Some (accepted v.station v.file v.number v.row)) (sym e),
              ap
                  (λ (v : Waiting Row). v.since) e ∙ a.dated,
            )
      ]
  waiting_from (effects a) = inl (effects_left n s s' a w m)
  waiting_from (ends a) = same_from a.queue.waiting

-- the moment at which a waiting write was accepted
pub record AcceptedAt {Row : Type 0} {n : Net} {empty : Row} {h : History Row} {s : State Row} (run : Run sound n empty h s) (w : Waiting Row) : Type 0 where
  pub past : History Row
  pub then : State Row
  pub happened : Happened run (accepted w.station w.file w.number w.row) past then
  pub since : w.since ≡ then.time

pub accepted_at :
    {Row : Type 0} {n : Net} {empty : Row} {h : History Row} {s : State Row} (run : Run sound n empty h s) (w : Waiting Row) →
    In w s.waiting → AcceptedAt run w
accepted_at (Run.new i) w m = absurd (not_in i.waiting m)
accepted_at {n = n} (more {h = h} {s = s} {s' = s'} run a) w m =
    elim (waiting_from n h s s' w m a) [
      | inl b ↦
          let i = accepted_at run w b in
          record { past = i.past; then = i.then; happened = inr i.happened; since = i.since }
      | inr b ↦ record { past = h; then = s; happened = inl (b.0, refl, refl); since = b.1 }
    ]

steps_entries :
    {Row : Type 0} {n : Net} {h : History Row} {s : State Row} {h' : History Row} {s' : State Row} → Steps sound n h s h' s' → Entries n s →
    Entries n s'
steps_entries none i = i
steps_entries {n = n} (next {t = t} {t' = t'} r a) i = step_entries n t t' a (steps_entries r i)

calls_entries : {Row : Type 0} {n : Net} {empty : Row} {h : History Row} {s : State Row} → Calls sound n empty h s → Entries n s
calls_entries {n = n} {empty = e} {s = s} (new h) = new_entries n e s h
calls_entries (still r a t w) = steps_entries a (calls_entries r)
calls_entries (turn r a t) = steps_entries a (calls_entries r)

-- after a turn each waiting write has a live entry, and that ends soon after its acceptance
pub waits_short :
    {Row : Type 0} (n : Net) (empty : Row) (h : History Row) (s : State Row) → Calls sound n empty h s → (w : Waiting Row) →
    In w s.waiting → s.time < w.since + n.longest + 2 * n.bound 0
waits_short n empty h s (new i) w m = absurd (not_in i.waiting m)
waits_short n empty h s (still {h = g} {s = u} r a t ws) w m =
    let b : u.time < w.since + n.longest + 2 * n.bound 0 = waits_short n empty g u r w (ws w m) in
    omega arith
waits_short n empty h s (turn {h = g} {s = u} r a t) w m =
    let k : Held n s w.file t.reading = t.held w m in
    let i : Entries n s = steps_entries a (calls_entries r) in
    omega (arith, k.live, i.held w m k.child k.known k.below, t.reads.late)

pub bounded_wait : {Row : Type 0} → Promises.BoundedWait sound Row
bounded_wait n empty h s calls w m =
    let i = accepted_at (calls_run calls) w m in
    record {
      past = i.past;
      then = i.then;
      happened = i.happened;
      since = i.since;
      short = omega (arith, waits_short n empty h s calls w m, i.since);
    }

pub waits_below : {Row : Type 0} (longest bound ticks : ℕ) → ticks ≡ longest + 2 * bound → Promises.WaitsBelow sound Row longest bound ticks
waits_below longest bound ticks e n empty h s calls el eb w m = omega (arith, waits_short n empty h s calls w m)
