-- To open an ask and to take a GRANT keep the safety invariant: neither makes an offer.
-- Assumes nothing.
use Rattle.std.proofs.Common.{◌≡◌, ℕ, ◌+◌, ◌≤◌, ◌⊎◌, Some, Option, sym, ap, ◌∙◌, inl, inr, arith}
use Rattle.protocol.specs.Lookups.{In}
use Rattle.protocol.specs.Net.{Net}
use Rattle.protocol.specs.Rules.{sound, run_out}
use Rattle.protocol.specs.Messages.{ASK, GRANT, APPROVE}
use Rattle.protocol.specs.State.{Lease, lease, request, State}
use Rattle.protocol.specs.Events.{History}
use Rattle.protocol.specs.Leasing.{Opens, Takes}
use Rattle.protocol.proofs.Lookups.{then_two, was}
use Rattle.protocol.proofs.Invariant.{Offer, held, coming, Asks, Safe}
use Rattle.protocol.proofs.Carries.{fewer_carries}
use Rattle.protocol.proofs.Frames.{Back, cover_back, calm_live, approvals_kept, asks_kept, same_onward, fewer_recalls, calm_safe}
use Rattle.protocol.proofs.CalmSafe.{drawn_grows}

module _ {Row : Type 0} (n : Net) (s s' : State Row) {c₀ f₀ r₀ : ℕ} (a : Opens n s s' c₀ f₀ r₀) where
  -- at the place of the ask that was opened stands its number and its reading
  pub opened_is : (c f k r : ℕ) → s'.ask c f ≡ Some (request k r) → (c ≡ c₀) × (f ≡ f₀) → (k ≡ s.counter c₀ + 1) × (r ≡ r₀)
  opened_is c f k r e h =
      let o : s'.ask c₀ f₀ ≡ Some (request (s.counter c₀ + 1) r₀) = a.opened in
      let ec : c ≡ c₀ = h.0 in
      let ef : f ≡ f₀ = h.1 in
      (cc, cc)

  -- the number is new, so no GRANT in flight has it
  opens_back : Asks n s → Back n s s'
  opens_back old c f x v y st (held e) = held (sym (a.copy c f) ∙ e)
  opens_back old c f x v y st (coming k t l m e u) = go (a.ask c f)
    where
      g : In (GRANT c f k x v t) s.flight
      g = a.flight (GRANT c f k x v t) m

      go : (s'.ask c f ≡ s.ask c f) ⊎ ((c ≡ c₀) × (f ≡ f₀)) → Offer n s c f x v y
      go (inl h) = coming k t l g (sym h ∙ e) u
      go (inr h) =
          let ek : k ≡ s.counter c₀ + 1 = (opened_is c f k l e h).0 in
          let en : s.counter c ≡ s.counter c₀ = ap s.counter h.0 in
          absurd (omega (arith, old.granted c f k x v t g))

  pub opens_safe : Safe n s → Safe n s'
  opens_safe i =
      record {
        cover = cover_back n s s' i.cover t (opens_back i.asks) (calm_live n s s' t a.files a.links);
        asks = asks_kept n s s' i.asks t (drawn_grows a.drawn a.counter) (λ c f k l e. opened c f k l e (a.ask c f))
            (λ c f k m. inl (a.flight (ASK c f k) m)) (λ c f k x v t m. inl (a.flight (GRANT c f k x v t) m));
        recalls = fewer_recalls n s s' i.recalls (same_onward n s s' a.files a.queue) (fewer_carries a.flight);
        approvals = approvals_kept n s s' i.approvals t (opens_back i.asks) (λ c f w m. a.flight (APPROVE c f w) m);
      }
    where
      t : s.time ≤ s'.time
      t = omega (arith, a.time)

      opened :
          (c f k l : ℕ) → s'.ask c f ≡ Some (request k l) → (s'.ask c f ≡ s.ask c f) ⊎ ((c ≡ c₀) × (f ≡ f₀)) →
          (s.ask c f ≡ Some (request k l)) ⊎ ((l ≤ s'.time + n.bound c) × (k ≤ s'.counter c))
      opened c f k l e (inl h) = inl (sym h ∙ e)
      opened c f k l e (inr h) =
          let o = opened_is c f k l e h in
          let eb : n.bound c ≡ n.bound c₀ = ap n.bound h.0 in
          let en : s'.counter c ≡ s'.counter c₀ = ap s'.counter h.0 in
          inr (omega (arith, o.1, a.reads.early, a.time), omega (arith, o.0, a.drawn))

module _ {Row : Type 0} (n : Net) (history : History Row) (s s' : State Row) {c₀ f₀ k₀ r₀ : ℕ} {x₀ : Row} {v₀ t₀ : ℕ}
    (a : Takes sound n history s s' c₀ f₀ k₀ r₀ x₀ v₀ t₀) where
  -- what was coming is held
  takes_back : Back n s s'
  takes_back c f x v y st (coming k t l m e u) = coming k t l (a.flight (GRANT c f k x v t) m) (was (then_two (a.ask c f)) e) u
  takes_back c f x v y st (held e) = go (a.copy c f)
    where
      go :
          (s'.copy c f ≡ s.copy c f) ⊎ ((c ≡ c₀) × (f ≡ f₀) × (s'.copy c f ≡ Some (lease x₀ v₀ (run_out sound n c₀ r₀ t₀)))) →
          Offer n s c f x v y
      go (inl h) = held (sym h ∙ e)
      go (inr h) =
          let p : ◌≡◌ {A = Option (Lease Row)} (Some (lease x v y)) (Some (lease x₀ v₀ (run_out sound n c₀ r₀ t₀))) = sym e ∙ h.2 in
          let ex : x ≡ x₀ = cc in
          let ev : v ≡ v₀ = cc in
          let ey : y ≡ run_out sound n c₀ r₀ t₀ = cc in
          rw (h.0, h.1, ex, ev) (coming k₀ t₀ r₀ a.came a.awaited ey)

  pub takes_safe : Safe n s → Safe n s'
  takes_safe i =
      calm_safe n s s' i (omega (arith, a.time)) takes_back (same_onward n s s' a.files a.queue) (fewer_carries a.flight)
      a.files a.links (λ c. omega (arith, a.counter c)) (λ c f. then_two (a.ask c f))
