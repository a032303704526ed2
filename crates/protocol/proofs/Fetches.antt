-- Every GRANT was granted after its ask was opened, and no ask fetches twice.
-- Assumes nothing.
use Rattle.std.proofs.Common.{◌≡◌, ℕ, ◌+◌, ◌≤◌, ◌⊎◌, [], ◌∷◌, Some, None, sym, refl, ap, ◌∙◌, inl, inr, arith}
use mathlib.Core.List.Memᴰ
use Rattle.protocol.specs.Lookups.{In}
use Rattle.protocol.specs.Net.{Net}
use Rattle.protocol.specs.Rules.{sound}
use Rattle.protocol.specs.Messages.{ASK, GRANT}
use Rattle.protocol.specs.State.{request, State, New}
use Rattle.protocol.specs.Events.{Event, History, opened, granted, fetched}
use Rattle.protocol.specs.Leasing.{Opens, Grants, Takes}
use Rattle.protocol.specs.Steps.{Step, note}
use Rattle.protocol.proofs.Lookups.{clash, was, not_some, not_in, in_rest, then_two}
use Rattle.protocol.proofs.Carries.{sent_other}
use Rattle.protocol.proofs.CalmSafe.{drawn_grows}
use Rattle.protocol.proofs.LeasingSafe.{opened_is}
use Rattle.protocol.proofs.AskSteps.{NoAsk, by_ask}

-- the ask of this number was opened, at some reading
abbrev pub Opened : {Row : Type 0} → History Row → ℕ → ℕ → ℕ → Type 0
Opened h c f k = (r : ℕ) × In (opened c f k r) h

pub record Fetches {Row : Type 0} (h : History Row) (s : State Row) : Type 0 where
  -- an ask that is open or sent was opened, and a number names one ask
  pub open_by : (c f k r : ℕ) → s.ask c f ≡ Some (request k r) → In (opened c f k r) h
  pub sent : (c f k : ℕ) → In (ASK c f k) s.flight → Opened h c f k
  pub counted : (c f k r : ℕ) → In (opened c f k r) h → k ≤ s.counter c
  pub single : (c f g k r q : ℕ) → In (opened c f k r) h → In (opened c g k q) h → f ≡ g
  -- a GRANT in flight was granted
  pub coming : (c f k : ℕ) (x : Row) (v t : ℕ) → In (GRANT c f k x v t) s.flight → In (granted c f k x v) h
  -- what fetched was opened, and is not open any more
  pub told : (c f k : ℕ) (x : Row) (v : ℕ) → In (fetched c f k x v) h → Opened h c f k
  pub fresh : (c f k r : ℕ) → s.ask c f ≡ Some (request k r) → (g : ℕ) (y : Row) (w : ℕ) → In (fetched c g k y w) h → ⊥

pub new_fetches : {Row : Type 0} (empty : Row) (s : State Row) → New empty s → Fetches [] s
new_fetches empty s i =
    record {
      open_by = λ c f k r e. absurd (not_some (i.ask c f) e);
      sent = λ c f k m. absurd (not_in i.flight m);
      counted = λ c f k r m. absurd (not_in refl m);
      single = λ c f g k r q m. absurd (not_in refl m);
      coming = λ c f k x v t m. absurd (not_in i.flight m);
      told = λ c f k x v m. absurd (not_in refl m);
      fresh = λ c f k r e g y w m. not_in refl m;
    }

opened_later : {Row : Type 0} {h h' : History Row} {c f k : ℕ} → ((e : Event Row) → In e h → In e h') → Opened h c f k → Opened h' c f k
opened_later {c = c} {f = f} {k = k} kept o = (o.0, kept (opened c f k o.0) o.1)

module _ {Row : Type 0} (n : Net) (h : History Row) (s s' : State Row) where
  other_fetches : (h' : History Row) → Fetches h s → NoAsk n h h' s s' → Fetches h' s'
  other_fetches h' i a =
      record {
        open_by = λ c f k r e. kept (opened c f k r) (i.open_by c f k r (was (a.asks c f) e));
        sent = λ c f k m.
            opened_later kept
            (elim (a.ask c f k m) [ inl b ↦ i.sent c f k b | inr o ↦ (o.reading, i.open_by c f k o.reading o.is) ]);
        counted = λ c f k r m. omega (arith, i.counted c f k r (a.history.opened c f k r m), a.counter c);
        single = λ c f g k r q m l. i.single c f g k r q (a.history.opened c f k r m) (a.history.opened c g k q l);
        coming = λ c f k x v t m. kept (granted c f k x v) (i.coming c f k x v t (a.grant c f k x v t m));
        told = λ c f k x v m. opened_later kept (i.told c f k x v (a.history.fetched c f k x v m));
        fresh = λ c f k r e g y w m. i.fresh c f k r (was (a.asks c f) e) g y w (a.history.fetched c g k y w m);
      }
    where
      kept : (e : Event Row) → In e h → In e h'
      kept = a.history.kept

  module _ {c₀ f₀ r₀ : ℕ} (a : Opens n s s' c₀ f₀ r₀) (i : Fetches h s) where
    -- the number is new
    pub opens_lawful : (g q : ℕ) → In (opened c₀ g (s.counter c₀ + 1) q) h → ⊥
    opens_lawful g q m = omega (arith, i.counted c₀ g (s.counter c₀ + 1) q m)

    opens_fetches : Fetches (opened c₀ f₀ (s.counter c₀ + 1) r₀ ∷ h) s'
    opens_fetches =
        record {
          open_by = λ c f k r e. open_by c f k r e (a.ask c f);
          sent = λ c f k m. opened_later (λ e m. Memᴰ.tail m) (i.sent c f k (a.flight (ASK c f k) m));
          counted = λ c f k r m. counted c f k r (Memᴰ.cases_cons m);
          single = λ c f g k r q m l. single c f g k r q (Memᴰ.cases_cons m) (Memᴰ.cases_cons l);
          coming = λ c f k x v t m. Memᴰ.tail (i.coming c f k x v t (a.flight (GRANT c f k x v t) m));
          told = λ c f k x v m. opened_later (λ e m. Memᴰ.tail m) (i.told c f k x v (in_rest (λ e. clash (cc)) m));
          fresh = λ c f k r e g y w m. fresh c f k r e g y w (in_rest (λ e. clash (cc)) m) (a.ask c f);
        }
      where
        open_by :
            (c f k r : ℕ) → s'.ask c f ≡ Some (request k r) → (s'.ask c f ≡ s.ask c f) ⊎ ((c ≡ c₀) × (f ≡ f₀)) →
            In (opened c f k r) (opened c₀ f₀ (s.counter c₀ + 1) r₀ ∷ h)
        open_by c f k r e (inl b) = Memᴰ.tail (i.open_by c f k r (sym b ∙ e))
        open_by c f k r e (inr b) =
            let o = opened_is n s s' a c f k r e b in
            let ek : k ≡ s.counter c₀ + 1 = o.0 in
            let er : r ≡ r₀ = o.1 in
            let ec : c ≡ c₀ = b.0 in
            let ef : f ≡ f₀ = b.1 in
            Memᴰ.head (cc)

        counted :
            (c f k r : ℕ) → (◌≡◌ {A = Event Row} (opened c f k r) (opened c₀ f₀ (s.counter c₀ + 1) r₀)) ⊎ In (opened c f k r) h → k ≤ s'.counter c
        counted c f k r (inr m) = omega (arith, i.counted c f k r m, drawn_grows a.drawn a.counter c)
        counted c f k r (inl e) =
            let ec : c ≡ c₀ = cc in
            let ek : k ≡ s.counter c₀ + 1 = cc in
            rw ec (omega (arith, a.drawn))

        later : (c g k q : ℕ) → c ≡ c₀ → k ≡ s.counter c₀ + 1 → In (opened c g k q) h → ⊥
        later c g k q ec ek m = let en : s.counter c ≡ s.counter c₀ = ap s.counter ec in omega (arith, i.counted c g k q m)

        single :
            (c f g k r q : ℕ) → (◌≡◌ {A = Event Row} (opened c f k r) (opened c₀ f₀ (s.counter c₀ + 1) r₀)) ⊎ In (opened c f k r) h →
            (◌≡◌ {A = Event Row} (opened c g k q) (opened c₀ f₀ (s.counter c₀ + 1) r₀)) ⊎ In (opened c g k q) h → f ≡ g
        single c f g k r q (inl m) (inl l) = cc
        single c f g k r q (inl m) (inr l) = absurd (later c g k q (cc) (cc) l)
        single c f g k r q (inr m) (inl l) = absurd (later c f k r (cc) (cc) m)
        single c f g k r q (inr m) (inr l) = i.single c f g k r q m l

        fresh :
            (c f k r : ℕ) → s'.ask c f ≡ Some (request k r) → (g : ℕ) (y : Row) (w : ℕ) → In (fetched c g k y w) h →
            (s'.ask c f ≡ s.ask c f) ⊎ ((c ≡ c₀) × (f ≡ f₀)) → ⊥
        fresh c f k r e g y w m (inl o) = i.fresh c f k r (sym o ∙ e) g y w m
        fresh c f k r e g y w m (inr o) =
            let d = i.told c g k y w m in
            later c g k d.0 o.0 (opened_is n s s' a c f k r e o).0 d.1

  grants_fetches :
      {c₀ f₀ k₀ g₀ : ℕ} {x₀ : Row} {v₀ t₀ : ℕ} → Grants sound n s s' c₀ f₀ k₀ g₀ x₀ v₀ t₀ → Fetches h s → Fetches (granted c₀ f₀ k₀ x₀ v₀ ∷ h) s'
  grants_fetches {c₀} {f₀} {k₀} {g₀} {x₀} {v₀} {t₀} a i =
      record {
        open_by = λ c f k r e. Memᴰ.tail (i.open_by c f k r (sym (a.stations.ask c f) ∙ e));
        sent = λ c f k m. opened_later (λ e m. Memᴰ.tail m) (i.sent c f k (sent_other a.flight (λ e. clash (cc)) m));
        counted = λ c f k r m. omega (arith, i.counted c f k r (in_rest (λ e. clash (cc)) m), a.stations.counter c);
        single = λ c f g k r q m l. i.single c f g k r q (in_rest (λ e. clash (cc)) m) (in_rest (λ e. clash (cc)) l);
        coming = λ c f k x v t m. coming c f k x v t (a.flight (GRANT c f k x v t) m);
        told = λ c f k x v m. opened_later (λ e m. Memᴰ.tail m) (i.told c f k x v (in_rest (λ e. clash (cc)) m));
        fresh = λ c f k r e g y w m. i.fresh c f k r (sym (a.stations.ask c f) ∙ e) g y w (in_rest (λ e. clash (cc)) m);
      }
    where
      coming :
          (c f k : ℕ) (x : Row) (v t : ℕ) → In (GRANT c f k x v t) s.flight ⊎ (GRANT c f k x v t ≡ GRANT c₀ f₀ k₀ x₀ v₀ t₀) →
          In (granted c f k x v) (granted c₀ f₀ k₀ x₀ v₀ ∷ h)
      coming c f k x v t (inl m) = Memᴰ.tail (i.coming c f k x v t m)
      coming c f k x v t (inr e) = Memᴰ.head (cc)

  module _ {c₀ f₀ k₀ r₀ : ℕ} {x₀ : Row} {v₀ t₀ : ℕ} (a : Takes sound n h s s' c₀ f₀ k₀ r₀ x₀ v₀ t₀) (i : Fetches h s) where
    -- the ask was granted so, and is open, so it fetched nothing
    pub takes_lawful : In (granted c₀ f₀ k₀ x₀ v₀) h × ((g : ℕ) (y : Row) (w : ℕ) → In (fetched c₀ g k₀ y w) h → ⊥)
    takes_lawful = (i.coming c₀ f₀ k₀ x₀ v₀ t₀ a.came, i.fresh c₀ f₀ k₀ r₀ a.awaited)

    takes_fetches : Fetches (fetched c₀ f₀ k₀ x₀ v₀ ∷ h) s'
    takes_fetches =
        record {
          open_by = λ c f k r e. Memᴰ.tail (i.open_by c f k r (before c f k r e));
          sent = λ c f k m. opened_later (λ e m. Memᴰ.tail m) (i.sent c f k (a.flight (ASK c f k) m));
          counted = λ c f k r m. omega (arith, i.counted c f k r (in_rest (λ e. clash (cc)) m), a.counter c);
          single = λ c f g k r q m l. i.single c f g k r q (in_rest (λ e. clash (cc)) m) (in_rest (λ e. clash (cc)) l);
          coming = λ c f k x v t m. Memᴰ.tail (i.coming c f k x v t (a.flight (GRANT c f k x v t) m));
          told = λ c f k x v m. opened_later (λ e m. Memᴰ.tail m) (told c f k x v (Memᴰ.cases_cons m));
          fresh = λ c f k r e g y w m. fresh c f k r e g y w (Memᴰ.cases_cons m);
        }
      where
        this : In (opened c₀ f₀ k₀ r₀) h
        this = i.open_by c₀ f₀ k₀ r₀ a.awaited

        before : (c f k r : ℕ) → s'.ask c f ≡ Some (request k r) → s.ask c f ≡ Some (request k r)
        before c f k r e = was (then_two (a.ask c f)) e

        told :
            (c f k : ℕ) (x : Row) (v : ℕ) → (fetched c f k x v ≡ fetched c₀ f₀ k₀ x₀ v₀) ⊎ In (fetched c f k x v) h → Opened h c f k
        told c f k x v (inr m) = i.told c f k x v m
        told c f k x v (inl e) =
            let ec : c ≡ c₀ = cc in
            let ef : f ≡ f₀ = cc in
            let ek : k ≡ k₀ = cc in
            rw (ec, ef, ek) (r₀, this)

        -- an ask that is still open has another number, or it would be the one that was closed
        fresh :
            (c f k r : ℕ) → s'.ask c f ≡ Some (request k r) → (g : ℕ) (y : Row) (w : ℕ) →
            (fetched c g k y w ≡ fetched c₀ f₀ k₀ x₀ v₀) ⊎ In (fetched c g k y w) h → ⊥
        fresh c f k r e g y w (inr m) = i.fresh c f k r (before c f k r e) g y w m
        fresh c f k r e g y w (inl m) =
            let ec : c ≡ c₀ = cc in
            let ek : k ≡ k₀ = cc in
            let mine : In (opened c₀ f k₀ r) h = rw (ec, ek) at (i.open_by c f k r (before c f k r e)) in
            let ef : f ≡ f₀ = i.single c₀ f f₀ k₀ r r₀ mine this in
            let o : s'.ask c₀ f₀ ≡ None = a.closed in
            clash (cc)

  pub step_fetches : (a : Step sound n h s s') → Fetches h s → Fetches (note a) s'
  step_fetches a i =
      by_ask n h s s' a (λ g. Fetches g s') (other_fetches (note a) i) (λ c f r b. opens_fetches b i)
      (λ c f k g x v t b. grants_fetches b i) (λ c f k r x v t b. takes_fetches b i)
