-- How long the entries of the primary's children can hold a write back: while it waits, no longer than when it was accepted.
-- Assumes nothing.
use Rattle.std.proofs.Common.{◌≡◌, ℕ, ◌+◌, ◌<◌, ◌≤◌, max, ◌⊎◌, List, [], ◌∷◌, sym, refl, ap, ◌∙◌, subst, inl, inr, arith}
use mathlib.Core.List.Memᴰ
use Rattle.protocol.specs.Lookups.{In, Same2}
use Rattle.protocol.specs.Net.{Net}
use Rattle.protocol.specs.Rules.{sound}
use Rattle.protocol.specs.State.{Waiting, State, Busy, New}
use Rattle.protocol.specs.Events.{History}
use Rattle.protocol.specs.Leasing.{Grants}
use Rattle.protocol.specs.Writing.{Accepts, Effects}
use Rattle.protocol.specs.Steps.{Step, passes, posts, restarts, opens, primary_grants, relay_grants, takes, yields, hears, submits, accepts, effects, ends}
use Rattle.protocol.proofs.Lookups.{then_one, then_two, then_three, not_in, was_with}

-- an entry ends by the longest term and the primary's bound from now, and one that holds a write back by as much from its acceptance
pub record Entries {Row : Type 0} (n : Net) (s : State Row) : Type 0 where
  pub soon : (f c : ℕ) → 0 < c → n.parent c ≡ 0 → s.entry f c ≤ s.time + n.bound 0 + n.longest
  pub held :
      (w : Waiting Row) → In w s.waiting → (c : ℕ) → 0 < c → n.parent c ≡ 0 → s.entry w.file c ≤ w.since + n.bound 0 + n.longest

pub new_entries : {Row : Type 0} (n : Net) (empty : Row) (s : State Row) → New empty s → Entries n s
new_entries n empty s h =
    record {
      soon = λ f c st p. omega (arith, h.entry f c);
      held = λ w m c st p. absurd (not_in h.waiting m);
    }

module _ {Row : Type 0} (n : Net) (s s' : State Row) where
  -- an entry of a child of the primary does not grow, or grows within the bound while no write waits on the file
  abbrev Within : Type 0
  Within =
      (f c : ℕ) → 0 < c → n.parent c ≡ 0 →
      (s'.entry f c ≤ s.entry f c) ⊎ ((Busy s f → ⊥) × (s'.entry f c ≤ max (s.entry f c) (s'.time + n.bound 0 + n.longest)))

  entries_kept : s.time ≤ s'.time → Within → ((w : Waiting Row) → In w s'.waiting → In w s.waiting) → Entries n s → Entries n s'
  entries_kept t wi ws i =
      record {
        soon = λ f c st p. elim (wi f c st p) [ inl l ↦ omega (arith, i.soon f c st p) | inr l ↦ omega (arith, i.soon f c st p, l.1) ];
        held = λ w m c st p.
            elim (wi w.file c st p) [
              | inl l ↦ omega (arith, i.held w (ws w m) c st p)
              | inr l ↦ absurd (l.0 (record { write = w; waits = ws w m; on = refl }))
            ];
      }

  same_within : Same2 s.entry s'.entry → Within
  same_within e f c st p = inl (omega (arith, e f c))

  -- entries that stay or go to 0
  fall_within : ((f c : ℕ) → (s'.entry f c ≡ s.entry f c) ⊎ (s'.entry f c ≡ 0)) → Within
  fall_within e f c st p = elim (e f c) [ inl h ↦ inl (omega arith) | inr h ↦ inl (omega arith) ]

  same_waiting : s'.waiting ≡ s.waiting → (w : Waiting Row) → In w s'.waiting → In w s.waiting
  same_waiting e w m = subst (λ l. In w l) e m

  module _ {c₀ f₀ k₀ g₀ : ℕ} {x₀ : Row} {v₀ t₀ : ℕ} (a : Grants sound n s s' c₀ f₀ k₀ g₀ x₀ v₀ t₀) where
    primary_within : n.parent c₀ ≡ 0 → (Busy s f₀ → ⊥) → Within
    primary_within pc free f c st p =
        let eb : n.bound (n.parent c₀) ≡ n.bound 0 = ap n.bound pc in
        elim (a.entry f c) [
          | inl e ↦ inl (omega arith)
          | inr e ↦ inr (λ b. free (subst (λ g. Busy s g) e.0 b), omega (arith, e.2, a.reads.early, a.short, a.time))
        ]

    -- a relay's entries are of no child of the primary
    relay_within : 0 < n.parent c₀ → Within
    relay_within pc f c st p =
        elim (a.entry f c) [
          | inl e ↦ inl (omega arith)
          | inr e ↦ let z : n.parent c₀ ≡ 0 = ap n.parent (sym e.1) ∙ p in absurd (omega arith)
        ]

  -- the entries of the moment when a write is accepted end soon
  accepts_entries : {w₀ : Waiting Row} → Accepts s s' w₀ → Entries n s → Entries n s'
  accepts_entries {w₀} a i =
      record {
        soon = λ f c st p. omega (arith, i.soon f c st p, a.links.entry f c, a.time);
        held = λ w m c st p. go w c st p (Memᴰ.append_cases s.waiting (subst (λ l. In w l) a.waiting m));
      }
    where
      go :
          (w : Waiting Row) (c : ℕ) → 0 < c → n.parent c ≡ 0 → In w s.waiting ⊎ In w (w₀ ∷ []) →
          s'.entry w.file c ≤ w.since + n.bound 0 + n.longest
      go w c st p (inl m) = omega (arith, i.held w m c st p, a.links.entry w.file c)
      go w c st p (inr m) =
          let e : w.since ≡ s.time = ap (λ (u : Waiting Row). u.since) (Memᴰ.eq_of_singleton m) ∙ a.dated in
          omega (arith, i.soon w.file c st p, a.links.entry w.file c)

  -- what waits after an effect waited before
  pub effects_left :
      {w₀ : Waiting Row} {r₀ : ℕ} {b₀ a₀ : List (Waiting Row)} → Effects sound n s s' w₀ r₀ b₀ a₀ → (w : Waiting Row) → In w s'.waiting →
      In w s.waiting
  effects_left {w₀} {r₀} {b₀} {a₀} a w m =
      subst (λ l. In w l) (sym a.waited) (was_with b₀ a₀ w₀ w (subst (λ l. In w l) a.waiting m))

  pub step_entries : {h : History Row} → Step sound n h s s' → Entries n s → Entries n s'
  step_entries (passes a) i = entries_kept a.time (same_within a.links.entry) (same_waiting a.queue.waiting) i
  step_entries (posts a) i = entries_kept (omega (arith, a.time)) (same_within a.links.entry) (same_waiting a.queue.waiting) i
  step_entries (restarts a) i =
      entries_kept (omega (arith, a.time)) (fall_within (λ f c. then_one (a.entry f c))) (same_waiting a.queue.waiting) i
  step_entries (opens a) i = entries_kept (omega (arith, a.time)) (same_within a.links.entry) (same_waiting a.queue.waiting) i
  step_entries (primary_grants a) i =
      entries_kept (omega (arith, a.grants.time)) (primary_within a.grants a.primary a.free) (same_waiting a.grants.queue.waiting) i
  step_entries (relay_grants a) i =
      entries_kept (omega (arith, a.grants.time)) (relay_within a.grants a.relay) (same_waiting a.grants.queue.waiting) i
  step_entries (takes a) i = entries_kept (omega (arith, a.time)) (same_within a.links.entry) (same_waiting a.queue.waiting) i
  step_entries (yields a) i =
      entries_kept (omega (arith, a.time)) (fall_within (λ f c. then_three (a.entry f c))) (same_waiting a.queue.waiting) i
  step_entries (hears a) i =
      entries_kept (omega (arith, a.time)) (fall_within (λ f c. then_two (a.entry f c))) (same_waiting a.queue.waiting) i
  step_entries (submits a) i = entries_kept (omega (arith, a.time)) (same_within a.links.entry) (same_waiting a.queue.waiting) i
  step_entries (accepts a) i = accepts_entries a i
  step_entries (effects a) i =
      entries_kept (omega (arith, a.time)) (fall_within (λ f c. then_two (a.entry f c))) (effects_left a) i
  step_entries (ends a) i = entries_kept (omega (arith, a.time)) (same_within a.links.entry) (same_waiting a.queue.waiting) i
