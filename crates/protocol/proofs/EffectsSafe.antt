-- A write that takes effect keeps the safety invariant: every offer on its file is dead.
-- Assumes nothing.
use Rattle.std.proofs.Common.{◌≡◌, ℕ, ◌+◌, ◌<◌, ◌≤◌, ◌⊎◌, List, ◌++◌, sym, ap, ◌∙◌, subst, inl, inr, arith}
use Rattle.protocol.specs.Lookups.{In}
use Rattle.protocol.specs.Net.{Net}
use Rattle.protocol.specs.Rules.{sound}
use Rattle.protocol.specs.State.{Waiting, State, Busy}
use Rattle.protocol.specs.Writing.{Effects}
use Rattle.protocol.proofs.Lookups.{left_without, same_shrinks}
use Rattle.protocol.proofs.Tree.{top_link, ChildAbove}
use Rattle.protocol.proofs.Invariant.{Dead, reach, Link, Covered, Safe}
use Rattle.protocol.proofs.Carries.{Carries, done_carries}
use Rattle.protocol.proofs.Frames.{unmoved, KeepsLive, covered_kept, Onward, kept_safe}
use Rattle.protocol.proofs.RecallsSafe.{over_is_dead}

module _ {Row : Type 0} (n : Net) (s s' : State Row) {w₀ : Waiting Row} {r₀ : ℕ} {b₀ a₀ : List (Waiting Row)} (a : Effects sound n s s' w₀ r₀ b₀ a₀) (i : Safe n s) where
  t : s.time ≤ s'.time
  t = omega (arith, a.time)

  carried : Carries s s'
  carried = done_carries s s' a.flight

  -- every offer on the file has a link to the primary, which is over
  file_dead : (c : ℕ) (x : Row) (v y : ℕ) → 0 < c → Covered n s c w₀.file x v y → Dead n s c y
  file_dead c x v y st h =
      let top : ChildAbove n 0 c = top_link n c st in
      let eb : n.bound (n.parent top.child) ≡ n.bound 0 = ap n.bound top.below in
      let eq : s.quiet (n.parent top.child) ≡ s.quiet 0 = ap s.quiet top.below in
      over_is_dead r₀ (h.links top.child top.path) (omega (arith, a.reads.early)) (a.ended top.child top.known top.below)
      (omega (arith, a.still))

  onward : Onward n s s'
  onward f = go (a.version f)
    where
      go :
          (s'.version f ≡ s.version f) ⊎ (f ≡ w₀.file) →
          ((s'.version f ≡ s.version f) × (Busy s f → Busy s' f)) ⊎ (s.version f < s'.version f)
      go (inr e) = inr (rw e (omega (arith, a.version_now)))
      go (inl e) = inl (e, λ b. busy b (left_without b₀ a₀ w₀ b.write (subst (λ l. In b.write l) a.waited b.waits)))
        where
          busy : (b : Busy s f) → In b.write (b₀ ++ a₀) ⊎ (b.write ≡ w₀) → Busy s' f
          busy b (inl m) = record { write = b.write; waits = subst (λ l. In b.write l) (sym a.waiting) m; on = b.on }
          busy b (inr k) =
              let ef : w₀.file ≡ f = ap (λ (w : Waiting Row). w.file) (sym k) ∙ b.on in
              let now : s'.version f ≡ s.version f + 1 = rw ef at a.version_now in
              absurd (omega arith)

  effects_live : KeepsLive n s s'
  effects_live c f x v y st o live h =
      covered_kept n s s' t c f x v y
      (elim (a.row f) [ inl e ↦ e | inr e ↦ absurd (other e) ])
      (elim (a.version f) [ inl e ↦ e | inr e ↦ absurd (other e) ])
      h (λ q p l. far q l (a.entry f q))
    where
      other : f ≡ w₀.file → ⊥
      other e = let d : Dead n s c y = file_dead c x v y st (rw e at h) in omega arith

      far :
          (q : ℕ) → Link n s c f y q → (s'.entry f q ≡ s.entry f q) ⊎ ((f ≡ w₀.file) × (n.parent q ≡ 0) × (s'.entry f q ≡ 0)) →
          y + n.bound c + n.bound (n.parent q) ≤ reach n s' f q
      far q l (inl e) = omega (arith, a.quiet (n.parent q))
      far q l (inr e) = absurd (other e.0)

  pub effects_safe : Safe n s'
  effects_safe =
      kept_safe n s s' i t (unmoved n s s' a.stations carried.grant) effects_live onward carried
      (λ c. omega (arith, a.stations.counter c)) (same_shrinks a.stations.ask)
