-- What each step does to asks: it opens one, grants one or takes a GRANT, or does nothing to them but that a station may close one
-- or send one again.
-- Assumes nothing.
use Rattle.std.proofs.Common.{◌≡◌, ℕ, ◌+◌, ◌≤◌, ◌⊎◌, ◌∷◌, inl, inr, arith}
use mathlib.Core.List.Memᴰ
use Rattle.protocol.specs.Lookups.{In}
use Rattle.protocol.specs.Net.{Net}
use Rattle.protocol.specs.Rules.{sound}
use Rattle.protocol.specs.Messages.{ASK}
use Rattle.protocol.specs.State.{State}
use Rattle.protocol.specs.Events.{Event, History, opened, granted, fetched}
use Rattle.protocol.specs.Leasing.{Opens, Grants, Takes}
use Rattle.protocol.specs.Steps.{Step, note, passes, posts, restarts, opens, primary_grants, relay_grants, takes, yields, hears, submits, accepts, effects, ends}
use Rattle.protocol.proofs.Lookups.{clash, Shrinks, same_shrinks, then_one, then_two, in_rest}
use Rattle.protocol.proofs.Carries.{CarriesGrants, Carries, fewer_carries, write_carries, done_carries, sent_other}
use Rattle.protocol.proofs.CalmSafe.{drawn_grows, no_grant, AskOpen, posted_ask}

-- the history goes on, and tells nothing about an ask
pub record NoAskTold {Row : Type 0} (h h' : History Row) : Type 0 where
  pub kept : (e : Event Row) → In e h → In e h'
  pub opened : (c f k r : ℕ) → In (opened c f k r) h' → In (opened c f k r) h
  pub fetched : (c f k : ℕ) (x : Row) (v : ℕ) → In (fetched c f k x v) h' → In (fetched c f k x v) h

none_told : {Row : Type 0} {h : History Row} → NoAskTold h h
none_told = record { kept = λ e m. m; opened = λ c f k r m. m; fetched = λ c f k x v m. m }

-- one more event, which is neither an ask that is opened nor a fetch
other_told :
    {Row : Type 0} {h : History Row} {d : Event Row} → ((c f k r : ℕ) → opened c f k r ≡ d → ⊥) →
    ((c f k : ℕ) (x : Row) (v : ℕ) → fetched c f k x v ≡ d → ⊥) → NoAskTold h (d ∷ h)
other_told no_open no_fetch =
    record {
      kept = λ e m. Memᴰ.tail m;
      opened = λ c f k r. in_rest (no_open c f k r);
      fetched = λ c f k x v. in_rest (no_fetch c f k x v);
    }

-- a step that does nothing to asks
pub record NoAsk {Row : Type 0} (n : Net) (h h' : History Row) (s s' : State Row) : Type 0 where
  pub history : NoAskTold h h'
  pub asks : Shrinks s.ask s'.ask
  pub counter : (c : ℕ) → s.counter c ≤ s'.counter c
  pub ask : (c f k : ℕ) → In (ASK c f k) s'.flight → In (ASK c f k) s.flight ⊎ AskOpen n s s' c f k
  pub grant : CarriesGrants s s'

module _ {Row : Type 0} (n : Net) (h : History Row) (s s' : State Row) where
  carried_no_ask :
      {h' : History Row} → NoAskTold h h' → Shrinks s.ask s'.ask → ((c : ℕ) → s.counter c ≤ s'.counter c) → Carries s s' → NoAsk n h h' s s'
  carried_no_ask history asks counter fl =
      record { history = history; asks = asks; counter = counter; ask = λ c f k m. inl (fl.ask c f k m); grant = fl.grant }

  -- to show something of the state and the history after a step, show it for each kind
  pub by_ask :
      (a : Step sound n h s s') (P : History Row → Type 0) → (NoAsk n h (note a) s s' → P (note a)) →
      ((c f r : ℕ) → Opens n s s' c f r → P (opened c f (s.counter c + 1) r ∷ h)) →
      ((c f k g : ℕ) (x : Row) (v t : ℕ) → Grants sound n s s' c f k g x v t → P (granted c f k x v ∷ h)) →
      ((c f k r : ℕ) (x : Row) (v t : ℕ) → Takes sound n h s s' c f k r x v t → P (fetched c f k x v ∷ h)) →
      P (note a)
  by_ask (passes a) P other op gr ta =
      other (carried_no_ask none_told (same_shrinks a.stations.ask) (λ c. omega (arith, a.stations.counter c)) (fewer_carries a.flight))
  by_ask (posts a) P other op gr ta =
      other (record {
        history = none_told;
        asks = same_shrinks a.stations.ask;
        counter = λ c. omega (arith, a.stations.counter c);
        ask = λ c f k m. elim (a.flight (ASK c f k) m) [ inl b ↦ inl b | inr e ↦ inr (posted_ask n s s' a.may e) ];
        grant = λ c f k x v t. sent_other a.flight (no_grant n s s' a.may);
      })
  by_ask (restarts a) P other op gr ta =
      other (carried_no_ask none_told (λ c f. then_one (a.ask c f)) (λ c. omega (arith, a.counter c)) (fewer_carries a.flight))
  by_ask (opens {station = c} {file = f} {reading = r} a) P other op gr ta = op c f r a
  by_ask (primary_grants {station = c} {file = f} {number = k} {reading = g} {row = x} {version = v} {term = t} a) P other op gr ta =
      gr c f k g x v t a.grants
  by_ask (relay_grants {station = c} {file = f} {number = k} {reading = g} {row = x} {version = v} {term = t} a) P other op gr ta =
      gr c f k g x v t a.grants
  by_ask (takes {station = c} {file = f} {number = k} {reading = r} {row = x} {version = v} {term = t} a) P other op gr ta = ta c f k r x v t a
  by_ask (yields a) P other op gr ta =
      other (record {
        history = none_told;
        asks = λ c f. then_two (a.ask c f);
        counter = λ c. omega (arith, a.counter c);
        ask = λ c f k m. inl (sent_other a.flight (λ e. clash (cc)) m);
        grant = λ c f k x v t. sent_other a.flight (λ e. clash (cc));
      })
  by_ask (hears a) P other op gr ta =
      other (carried_no_ask none_told (same_shrinks a.stations.ask) (λ c. omega (arith, a.stations.counter c)) (fewer_carries a.flight))
  by_ask (submits a) P other op gr ta =
      other (carried_no_ask (other_told (λ c f k r e. clash (cc)) (λ c f k x v e. clash (cc)))
      (same_shrinks a.ask) (drawn_grows a.drawn a.counter) (write_carries s s' a.flight))
  by_ask (accepts a) P other op gr ta =
      other (carried_no_ask (other_told (λ c f k r e. clash (cc)) (λ c f k x v e. clash (cc)))
      (same_shrinks a.stations.ask) (λ c. omega (arith, a.stations.counter c)) (fewer_carries a.flight))
  by_ask (effects a) P other op gr ta =
      other (carried_no_ask (other_told (λ c f k r e. clash (cc)) (λ c f k x v e. clash (cc)))
      (same_shrinks a.stations.ask) (λ c. omega (arith, a.stations.counter c)) (done_carries s s' a.flight))
  by_ask (ends a) P other op gr ta =
      other (carried_no_ask (other_told (λ c f k r e. clash (cc)) (λ c f k x v e. clash (cc)))
      (same_shrinks a.ask) (λ c. omega (arith, a.counter c)) (fewer_carries a.flight))
