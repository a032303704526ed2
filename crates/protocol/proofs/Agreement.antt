-- The safety invariant holds in every state of a run; so a live copy agrees with the primary.
-- Assumes nothing.
use Rattle.std.proofs.Common.{ℕ, ◌⊎◌, inl, inr, arith}
use Rattle.protocol.specs.Net.{Net}
use Rattle.protocol.specs.Rules.{sound}
use Rattle.protocol.specs.State.{State, New}
use Rattle.protocol.specs.Events.{History}
use Rattle.protocol.specs.Steps.{Step, passes, posts, restarts, opens, primary_grants, relay_grants, takes, yields, hears, submits, accepts, effects, ends}
use Rattle.protocol.specs.Runs.{Run, new, more}
use Rattle.protocol.specs.Promises.{Current, Agrees}
use Rattle.protocol.specs.Promises as Promises
use Rattle.protocol.proofs.Lookups.{not_some, not_in}
use Rattle.protocol.proofs.Invariant.{Dead, Offer, held, coming, Covered, Safe}
use Rattle.protocol.proofs.CalmSafe.{passes_safe, posts_safe, submits_safe, accepts_safe, ends_safe}
use Rattle.protocol.proofs.LeasingSafe.{opens_safe, takes_safe}
use Rattle.protocol.proofs.GrantsSafe.{primary_grants_safe, relay_grants_safe}
use Rattle.protocol.proofs.RecallsSafe.{yields_safe, hears_safe}
use Rattle.protocol.proofs.EffectsSafe.{effects_safe}
use Rattle.protocol.proofs.RestartsSafe.{restarts_safe}

pub new_safe : {Row : Type 0} (n : Net) (empty : Row) (s : State Row) → New empty s → Safe n s
new_safe {Row} n empty s h =
    record {
      cover = λ c f x v y st o. absurd (no_offer c f x v y o);
      asks = record {
        opened = λ c f k a e. absurd (not_some (h.ask c f) e);
        asked = λ c f k m. absurd (not_in h.flight m);
        granted = λ c f k x v t m. absurd (not_in h.flight m);
      };
      recalls = record {
        recalled = λ c f w m. absurd (not_in h.flight m);
        approved = λ c f w m. absurd (not_in h.flight m);
      };
      approvals = λ c f w m. absurd (not_in h.flight m);
    }
  where
    no_offer : (c f : ℕ) (x : Row) (v y : ℕ) → Offer n s c f x v y → ⊥
    no_offer c f x v y (held e) = not_some (h.copy c f) e
    no_offer c f x v y (coming k t a m e u) = not_in h.flight m

pub step_safe : {Row : Type 0} (n : Net) (history : History Row) (s s' : State Row) → Step sound n history s s' → Safe n s → Safe n s'
step_safe n history s s' (passes a) i = passes_safe n s s' a i
step_safe n history s s' (posts a) i = posts_safe n s s' a i
step_safe n history s s' (restarts a) i = restarts_safe n s s' a i
step_safe n history s s' (opens a) i = opens_safe n s s' a i
step_safe n history s s' (primary_grants a) i = primary_grants_safe n s s' a i
step_safe n history s s' (relay_grants a) i = relay_grants_safe n s s' a i
step_safe n history s s' (takes a) i = takes_safe n history s s' a i
step_safe n history s s' (yields a) i = yields_safe n s s' a i
step_safe n history s s' (hears a) i = hears_safe n s s' a i
step_safe n history s s' (submits a) i = submits_safe n s s' a i
step_safe n history s s' (accepts a) i = accepts_safe n s s' a i
step_safe n history s s' (effects a) i = effects_safe n s s' a i
step_safe n history s s' (ends a) i = ends_safe n s s' a i

pub run_safe : {Row : Type 0} {n : Net} {empty : Row} {h : History Row} {s : State Row} → Run sound n empty h s → Safe n s
run_safe {n = n} {empty = e} {s = s} (new h) = new_safe n e s h
run_safe {n = n} (more {h = h} {s = s} {s' = s'} r a) = step_safe n h s s' a (run_safe r)

-- an offer that is live by some reading is covered
safe_agrees : {Row : Type 0} {n : Net} {s : State Row} → Safe n s → Agrees n s
safe_agrees {Row} {n} {s} i c f x v y r st e reads live = go (i.cover c f x v y st (held e))
  where
    go : Dead n s c y ⊎ Covered n s c f x v y → Current s f x v
    go (inl d) = absurd (omega (arith, reads.late))
    go (inr h) = record { row_is = h.row; version_is = h.version }

pub agreement : {Row : Type 0} → Promises.Agreement sound Row
agreement n empty h s run = safe_agrees (run_safe run)
