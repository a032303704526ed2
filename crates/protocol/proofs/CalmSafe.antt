-- The actions that make no offer and cut no link keep the safety invariant: time passes, a message is sent, a write is submitted,
-- accepted or ended.
-- Assumes nothing.
use Rattle.std.proofs.Common.{◌≡◌, ℕ, ◌+◌, ◌≤◌, ◌⊎◌, [], ◌∷◌, Some, sym, ◌∙◌, subst, inl, inr, arith}
use Rattle.protocol.specs.Lookups.{In}
use Rattle.protocol.specs.Net.{Net}
use mathlib.Core.List.Memᴰ
use Rattle.protocol.specs.Messages.{Message, ASK, GRANT, RECALL, APPROVE}
use Rattle.protocol.specs.State.{request, Waiting, State}
use Rattle.protocol.specs.Passing.{Passes, Postable, ask, recall, write, done, Posts}
use Rattle.protocol.specs.Writing.{Submits, Accepts, Ends}
use Rattle.protocol.proofs.Lookups.{clash, same_shrinks}
use Rattle.protocol.proofs.Invariant.{Timely, Safe}
use Rattle.protocol.proofs.Carries.{CarriesGrants, CarriesApproves, Carries, fewer_carries, sent_other, write_carries}
use Rattle.protocol.proofs.Frames.{Back, lost, unmoved, cover_back, calm_live, approvals_kept, asks_kept, Onward, same_onward, recalls_kept, calm_safe}

-- a counter that drew a number, or stayed
pub drawn_grows :
    {old new : ℕ → ℕ} {c₀ : ℕ} → new c₀ ≡ old c₀ + 1 → ((c : ℕ) → (new c ≡ old c) ⊎ (c ≡ c₀)) → (c : ℕ) → old c ≤ new c
drawn_grows drawn others c = elim (others c) [ inl e ↦ omega arith | inr e ↦ rw e (omega arith) ]

module _ {Row : Type 0} (n : Net) (s s' : State Row) where
  pub passes_safe : Passes s s' → Safe n s → Safe n s'
  passes_safe a i =
      calm_safe n s s' i a.time (unmoved n s s' a.stations fl.grant) (same_onward n s s' a.files a.queue) fl a.files a.links
      (λ c. omega (arith, a.stations.counter c)) (same_shrinks a.stations.ask)
    where
      fl : Carries s s'
      fl = fewer_carries a.flight

  pub submits_safe : {c₀ f₀ : ℕ} {x₀ : Row} → Submits n s s' c₀ f₀ x₀ → Safe n s → Safe n s'
  submits_safe a i =
      calm_safe n s s' i (omega (arith, a.time)) (lost n s s' (same_shrinks a.copy) (same_shrinks a.ask) fl.grant)
      (same_onward n s s' a.files a.queue) fl a.files a.links (drawn_grows a.drawn a.counter) (same_shrinks a.ask)
    where
      fl : Carries s s'
      fl = write_carries s s' a.flight

  pub ends_safe : {c₀ f₀ k₀ : ℕ} {x₀ : Row} → Ends s s' c₀ f₀ k₀ x₀ → Safe n s → Safe n s'
  ends_safe a i =
      calm_safe n s s' i (omega (arith, a.time)) (lost n s s' (same_shrinks a.copy) (same_shrinks a.ask) fl.grant)
      (same_onward n s s' a.files a.queue) fl a.files a.links (λ c. omega (arith, a.counter c)) (same_shrinks a.ask)
    where
      fl : Carries s s'
      fl = fewer_carries a.flight

  pub accepts_safe : {w : Waiting Row} → Accepts s s' w → Safe n s → Safe n s'
  accepts_safe {w} a i =
      calm_safe n s s' i (omega (arith, a.time)) (unmoved n s s' a.stations fl.grant) on fl a.files a.links
      (λ c. omega (arith, a.stations.counter c)) (same_shrinks a.stations.ask)
    where
      fl : Carries s s'
      fl = fewer_carries a.flight

      on : Onward n s s'
      on f =
          inl (
            a.files.version f,
            λ b. record {
              write = b.write;
              waits = subst (λ l. In b.write l) (sym a.waiting) (Memᴰ.append_left (w ∷ []) b.waits);
              on = b.on;
            },
          )

  -- what is posted is no GRANT and no APPROVE; an ASK is of an open ask, and a RECALL is timely

  pub no_grant : {c f k : ℕ} {x : Row} {v t : ℕ} {m : Message Row} → Postable n s m → GRANT c f k x v t ≡ m → ⊥
  no_grant (ask h) e = clash (cc)
  no_grant (recall a b c d) e = clash (cc)
  no_grant (write o) e = clash (cc)
  no_grant (done a b c) e = clash (cc)

  no_approve : {c f w : ℕ} {m : Message Row} → Postable n s m → APPROVE c f w ≡ m → ⊥
  no_approve (ask h) e = clash (cc)
  no_approve (recall a b c d) e = clash (cc)
  no_approve (write o) e = clash (cc)
  no_approve (done a b c) e = clash (cc)

  -- the ask that an ASK is posted for
  pub record AskOpen (c f k : ℕ) : Type 0 where
    pub reading : ℕ
    pub is : s.ask c f ≡ Some (request k reading)

  pub posted_ask : {c f k : ℕ} {m : Message Row} → Postable n s m → ASK c f k ≡ m → AskOpen c f k
  posted_ask {c} {f} {k} (ask {station = d} {file = g} {number = l} {reading = a} h) e =
      let ec : c ≡ d = cc in
      let ef : f ≡ g = cc in
      let ek : k ≡ l = cc in
      record { reading = a; is = rw (ec, ef, ek) h }
  posted_ask (recall a b c d) e = clash (cc)
  posted_ask (write o) e = clash (cc)
  posted_ask (done a b c) e = clash (cc)

  posted_recall : {c f w : ℕ} {m : Message Row} → Postable n s m → RECALL c f w ≡ m → Timely n s c f w
  posted_recall (ask h) e = clash (cc)
  posted_recall {c} {f} {w} (recall {station = d} {file = g} {version = u} st p l b) e =
      let ec : c ≡ d = cc in
      let ef : f ≡ g = cc in
      let ew : w ≡ u = cc in
      let k : Timely n s d g u = record { known = st; below = p; next = inr (l, b) } in
      rw (ec, ef, ew) k
  posted_recall (write o) e = clash (cc)
  posted_recall (done a b c) e = clash (cc)

  pub posts_safe : {m₀ : Message Row} → Posts n s s' m₀ → Safe n s → Safe n s'
  posts_safe {m₀} a i =
      record {
        cover = cover_back n s s' i.cover t back (calm_live n s s' t a.files a.links);
        asks = asks_kept n s s' i.asks t (λ c. omega (arith, a.stations.counter c)) (λ c f k l e. inl (sym (a.stations.ask c f) ∙ e))
            (λ c f k m. asked c f k (a.flight (ASK c f k) m)) (λ c f k x v t m. inl (grant c f k x v t m));
        recalls = recalls_kept n s s' i.recalls (same_onward n s s' a.files a.queue)
            (λ c f w m. elim (a.flight (RECALL c f w) m) [ inl b ↦ inl b | inr e ↦ inr (posted_recall a.may e) ])
            (λ c f w m. inl (approve c f w m));
        approvals = approvals_kept n s s' i.approvals t back approve;
      }
    where
      t : s.time ≤ s'.time
      t = omega (arith, a.time)

      grant : CarriesGrants s s'
      grant c f k x v t = sent_other a.flight (no_grant a.may)

      approve : CarriesApproves s s'
      approve c f w = sent_other a.flight (no_approve a.may)

      asked : (c f k : ℕ) → In (ASK c f k) s.flight ⊎ (ASK c f k ≡ m₀) → In (ASK c f k) s.flight ⊎ (k ≤ s.counter c)
      asked c f k (inl m) = inl m
      asked c f k (inr e) = let o = posted_ask a.may e in inr (i.asks.opened c f k o.reading o.is).1

      back : Back n s s'
      back = unmoved n s s' a.stations grant
