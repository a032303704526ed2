-- How each part of the safety invariant is kept by an action that touches it little: one lemma a part.
-- Assumes nothing.
use Rattle.std.proofs.Common.{◌≡◌, ℕ, ◌+◌, ◌-◌, ◌<◌, ◌≤◌, ◌⊎◌, Some, sym, ◌∙◌, subst, inl, inr, arith}
use native.Mathlib.Decide.{dec_le}
use Rattle.protocol.specs.Lookups.{In}
use Rattle.protocol.specs.Net.{Net}
use Rattle.protocol.specs.Messages.{ASK, GRANT, RECALL, APPROVE}
use Rattle.protocol.specs.State.{request, State, Busy}
use Rattle.protocol.specs.Unchanged.{SameFiles, SameQueue, SameStations, SameLinks}
use Rattle.protocol.proofs.Lookups.{was, Shrinks, same_shrinks}
use Rattle.protocol.proofs.Tree.{Path}
use Rattle.protocol.proofs.Invariant.{Dead, Offer, held, coming, reach, Link, Covered, Cover, Asks, Timely, Recalls, Approvals, Safe}
use Rattle.protocol.proofs.Carries.{CarriesGrants, CarriesApproves, Carries}

-- the state before and after an action
module _ {Row : Type 0} (n : Net) (s s' : State Row) where
  -- the action makes no offer
  abbrev pub Back : Type 0
  Back = (c f : ℕ) (x : Row) (v y : ℕ) → 0 < c → Offer n s' c f x v y → Offer n s c f x v y

  -- an action by which stations lose copies and asks, and no GRANT is sent, makes no offer
  pub lost : Shrinks s.copy s'.copy → Shrinks s.ask s'.ask → CarriesGrants s s' → Back
  lost copies asks grants c f x v y st (held h) = held (was (copies c f) h)
  lost copies asks grants c f x v y st (coming k t a m h e) = coming k t a (grants c f k x v t m) (was (asks c f) h) e

  -- nor does one that leaves the stations as they are
  pub unmoved : SameStations s s' → CarriesGrants s s' → Back
  unmoved st = lost (same_shrinks st.copy) (same_shrinks st.ask)

  -- the action keeps the cover of each offer that is live
  abbrev pub KeepsLive : Type 0
  KeepsLive =
      (c f : ℕ) (x : Row) (v y : ℕ) → 0 < c → Offer n s c f x v y → s.time - n.bound c < y → Covered n s c f x v y → Covered n s' c f x v y

  -- the cover, by an action that makes none but covered offers and keeps the cover of those that are live
  pub cover_kept :
      Cover n s → s.time ≤ s'.time →
      ((c f : ℕ) (x : Row) (v y : ℕ) → 0 < c → Offer n s' c f x v y →
      Offer n s c f x v y ⊎ (Dead n s' c y ⊎ Covered n s' c f x v y)) →
      KeepsLive → Cover n s'
  cover_kept cover t offers kept c f x v y st o = go (offers c f x v y st o)
    where
      live : Offer n s c f x v y → Covered n s c f x v y → Dec (y ≤ s.time - n.bound c) → Dead n s' c y ⊎ Covered n s' c f x v y
      live b h (yes d) = inl (omega arith)
      live b h (no d) = inr (kept c f x v y st b (omega arith) h)

      old : Offer n s c f x v y → Dead n s c y ⊎ Covered n s c f x v y → Dead n s' c y ⊎ Covered n s' c f x v y
      old b (inl d) = inl (omega arith)
      old b (inr h) = live b h (dec_le y (s.time - n.bound c))

      go : Offer n s c f x v y ⊎ (Dead n s' c y ⊎ Covered n s' c f x v y) → Dead n s' c y ⊎ Covered n s' c f x v y
      go (inl b) = old b (cover c f x v y st b)
      go (inr h) = h

  -- the same, where the action makes no offer
  pub cover_back : Cover n s → s.time ≤ s'.time → Back → KeepsLive → Cover n s'
  cover_back cover t back kept = cover_kept cover t (λ c f x v y st o. inl (back c f x v y st o)) kept

  -- the cover of an offer on a file that stays as it is, whose links reach no less far
  pub covered_kept :
      s.time ≤ s'.time → (c f : ℕ) (x : Row) (v y : ℕ) → s'.row f ≡ s.row f → s'.version f ≡ s.version f →
      Covered n s c f x v y →
      ((q : ℕ) → Path n q c → Link n s c f y q → y + n.bound c + n.bound (n.parent q) ≤ reach n s' f q) →
      Covered n s' c f x v y
  covered_kept t c f x v y er ev h far =
      record {
        row = h.row ∙ sym er;
        version = h.version ∙ sym ev;
        links = λ q p.
            let l : Link n s c f y q = h.links q p in
            record { kept = far q p l; short = omega arith };
      }

  -- where no file changes and no link is cut, what is live stays covered
  pub calm_live : s.time ≤ s'.time → SameFiles s s' → SameLinks s s' → KeepsLive
  calm_live t fl ln c f x v y st o live h =
      covered_kept t c f x v y (fl.row f) (fl.version f) h (λ q p l. omega (arith, ln.entry f q, ln.quiet (n.parent q)))

  -- the approvals, where no offer is made and no approval is sent
  pub approvals_kept : Approvals n s → s.time ≤ s'.time → Back → CarriesApproves s s' → Approvals n s'
  approvals_kept old t back sent c f w m d x v y st p o =
      elim (old c f w (sent c f w m) d x v y st p (back d f x v y st o)) [ inl k ↦ inl (omega arith) | inr k ↦ inr k ]

  -- counters only grow
  abbrev pub CountersGrow : Type 0
  CountersGrow = (c : ℕ) → s.counter c ≤ s'.counter c

  pub asks_kept :
      Asks n s → s.time ≤ s'.time → CountersGrow →
      ((c f k a : ℕ) → s'.ask c f ≡ Some (request k a) → (s.ask c f ≡ Some (request k a)) ⊎ ((a ≤ s'.time + n.bound c) × (k ≤ s'.counter c))) →
      ((c f k : ℕ) → In (ASK c f k) s'.flight → In (ASK c f k) s.flight ⊎ (k ≤ s.counter c)) →
      ((c f k : ℕ) (x : Row) (v t : ℕ) → In (GRANT c f k x v t) s'.flight → In (GRANT c f k x v t) s.flight ⊎ (k ≤ s.counter c)) →
      Asks n s'
  asks_kept old t cs opened asked granted =
      record {
        opened = λ c f k a h.
            elim (opened c f k a h) [ inl e ↦ omega (arith, old.opened c f k a e, cs c) | inr e ↦ e ];
        asked = λ c f k m.
            elim (asked c f k m) [ inl b ↦ omega (arith, old.asked c f k b, cs c) | inr b ↦ omega (arith, cs c) ];
        granted = λ c f k x v t m.
            elim (granted c f k x v t m) [ inl b ↦ omega (arith, old.granted c f k x v t b, cs c) | inr b ↦ omega (arith, cs c) ];
      }

  -- the asks, where none is opened and neither ASK nor GRANT is sent
  pub fewer_asks : Asks n s → s.time ≤ s'.time → CountersGrow → Shrinks s.ask s'.ask → Carries s s' → Asks n s'
  fewer_asks old t cs al fl =
      asks_kept old t cs (λ c f k a e. inl (was (al c f) e))
      (λ c f k m. inl (fl.ask c f k m)) (λ c f k x v t m. inl (fl.grant c f k x v t m))

  -- of each file: its version stays and what waits on it still does, or its version grows
  abbrev pub Onward : Type 0
  Onward = (f : ℕ) → ((s'.version f ≡ s.version f) × (Busy s f → Busy s' f)) ⊎ (s.version f < s'.version f)

  pub same_onward : SameFiles s s' → SameQueue s s' → Onward
  same_onward fl qu f =
      inl (fl.version f, λ b. record { write = b.write; waits = subst (λ l. In b.write l) (sym qu.waiting) b.waits; on = b.on })

  timely_kept : Onward → (c f w : ℕ) → Timely n s c f w → Timely n s' c f w
  timely_kept on c f w h = record { known = h.known; below = h.below; next = go (on f) h.next }
    where
      go :
          ((s'.version f ≡ s.version f) × (Busy s f → Busy s' f)) ⊎ (s.version f < s'.version f) →
          (w ≤ s.version f) ⊎ ((w ≡ s.version f + 1) × Busy s f) →
          (w ≤ s'.version f) ⊎ ((w ≡ s'.version f + 1) × Busy s' f)
      go (inl e) (inl l) = inl (omega (arith, e.0))
      go (inl e) (inr b) = inr (omega (arith, e.0, b.0), e.1 b.1)
      go (inr e) (inl l) = inl (omega arith)
      go (inr e) (inr b) = inl (omega (arith, b.0))

  pub recalls_kept :
      Recalls n s → Onward →
      ((c f w : ℕ) → In (RECALL c f w) s'.flight → In (RECALL c f w) s.flight ⊎ Timely n s c f w) →
      ((c f w : ℕ) → In (APPROVE c f w) s'.flight → In (APPROVE c f w) s.flight ⊎ Timely n s c f w) →
      Recalls n s'
  recalls_kept old on recalled approved =
      record {
        recalled = λ c f w m. timely_kept on c f w (elim (recalled c f w m) [ inl b ↦ old.recalled c f w b | inr b ↦ b ]);
        approved = λ c f w m. timely_kept on c f w (elim (approved c f w m) [ inl b ↦ old.approved c f w b | inr b ↦ b ]);
      }

  -- the recalls, where neither RECALL nor APPROVE is sent
  pub fewer_recalls : Recalls n s → Onward → Carries s s' → Recalls n s'
  fewer_recalls old on fl =
      recalls_kept old on (λ c f w m. inl (fl.recall c f w m)) (λ c f w m. inl (fl.approve c f w m))

  -- the invariant, where no offer is made, the cover of what is live is kept and none but messages about writes is sent
  pub kept_safe : Safe n s → s.time ≤ s'.time → Back → KeepsLive → Onward → Carries s s' → CountersGrow → Shrinks s.ask s'.ask → Safe n s'
  kept_safe i t back kept on fl cs al =
      record {
        cover = cover_back i.cover t back kept;
        asks = fewer_asks i.asks t cs al fl;
        recalls = fewer_recalls i.recalls on fl;
        approvals = approvals_kept i.approvals t back fl.approve;
      }

  -- and so where moreover no file changes and no link is cut
  pub calm_safe :
      Safe n s → s.time ≤ s'.time → Back → Onward → Carries s s' → SameFiles s s' → SameLinks s s' → CountersGrow →
      Shrinks s.ask s'.ask → Safe n s'
  calm_safe i t back on fl fs ls cs al = kept_safe i t back (calm_live t fs ls) on fl cs al
