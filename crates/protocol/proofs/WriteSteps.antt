-- What each step does to writes: it submits, accepts or effects one, or does nothing to them but that a station may forget its own
-- or a message about one may be sent again.
-- Assumes nothing.
use Rattle.std.proofs.Common.{◌≡◌, ℕ, ◌+◌, ◌≤◌, ◌⊎◌, List, ◌∷◌, Some, None, inl, inr, arith}
use mathlib.Core.List.Memᴰ
use Rattle.protocol.specs.Lookups.{In}
use Rattle.protocol.specs.Net.{Net}
use Rattle.protocol.specs.Rules.{sound}
use Rattle.protocol.specs.Messages.{Message, WRITE, DONE}
use Rattle.protocol.specs.State.{pending, Waiting, State}
use Rattle.protocol.specs.Events.{Event, History, granted, asked, accepted, effect}
use Rattle.protocol.specs.Unchanged.{Fewer, SameFiles, SameQueue}
use Rattle.protocol.specs.Passing.{Postable, ask, recall, write, done}
use Rattle.protocol.specs.Leasing.{Grants}
use Rattle.protocol.specs.Writing.{Submits, Accepts, Effects}
use Rattle.protocol.specs.Steps.{Step, note, passes, posts, restarts, opens, primary_grants, relay_grants, takes, yields, hears, submits, accepts, effects, ends}
use Rattle.protocol.proofs.Lookups.{clash, then_one, in_rest}
use Rattle.protocol.proofs.Carries.{sent_other}
use Rattle.protocol.proofs.CalmSafe.{drawn_grows}

-- the history goes on, and tells nothing about a write but that it is reported
pub record NoWriteTold {Row : Type 0} (h h' : History Row) : Type 0 where
  pub kept : (e : Event Row) → In e h → In e h'
  pub asked : (c f k : ℕ) (x : Row) → In (asked c f k x) h' → In (asked c f k x) h
  pub accepted : (c f k : ℕ) (x : Row) → In (accepted c f k x) h' → In (accepted c f k x) h
  pub effect : (c f k : ℕ) (x : Row) → In (effect c f k x) h' → In (effect c f k x) h

none_told : {Row : Type 0} {h : History Row} → NoWriteTold h h
none_told = record { kept = λ e m. m; asked = λ c f k x m. m; accepted = λ c f k x m. m; effect = λ c f k x m. m }

-- one more event, by which no write is asked, accepted or takes effect
other_told :
    {Row : Type 0} {h : History Row} {d : Event Row} → ((c f k : ℕ) (x : Row) → asked c f k x ≡ d → ⊥) →
    ((c f k : ℕ) (x : Row) → accepted c f k x ≡ d → ⊥) → ((c f k : ℕ) (x : Row) → effect c f k x ≡ d → ⊥) → NoWriteTold h (d ∷ h)
other_told no_ask no_accept no_effect =
    record {
      kept = λ e m. Memᴰ.tail m;
      asked = λ c f k x. in_rest (no_ask c f k x);
      accepted = λ c f k x. in_rest (no_accept c f k x);
      effect = λ c f k x. in_rest (no_effect c f k x);
    }

-- DONE may be sent again: a WRITE of the last accepted number came, and that write waits no more
pub record DoneAgain {Row : Type 0} (s : State Row) (c k : ℕ) : Type 0 where
  pub file : ℕ
  pub row : Row
  pub came : In (WRITE c file k row) s.flight
  pub last : s.last c ≡ k
  pub waits_not : (w : Waiting Row) → In w s.waiting → w.station ≡ c → w.number ≡ k → ⊥

-- a WRITE in flight was in flight before, or is of an outstanding write; a DONE was, or is sent again
abbrev pub WritesFrom : {Row : Type 0} → State Row → State Row → Type 0
WritesFrom {Row} s s' =
    (c f k : ℕ) (x : Row) → In (WRITE c f k x) s'.flight → In (WRITE c f k x) s.flight ⊎ (s.outstanding c ≡ Some (pending f k x))

abbrev pub DonesFrom : {Row : Type 0} → State Row → State Row → Type 0
DonesFrom s s' = (c k : ℕ) → In (DONE c k) s'.flight → In (DONE c k) s.flight ⊎ DoneAgain s c k

-- a step that does nothing to writes
pub record Idle {Row : Type 0} (h h' : History Row) (s s' : State Row) : Type 0 where
  pub history : NoWriteTold h h'
  pub outstanding : (c : ℕ) → (s'.outstanding c ≡ s.outstanding c) ⊎ (s'.outstanding c ≡ None)
  pub counter : (c : ℕ) → s.counter c ≤ s'.counter c
  pub files : SameFiles s s'
  pub queue : SameQueue s s'
  pub write : WritesFrom s s'
  pub done : DonesFrom s s'

module _ {Row : Type 0} (n : Net) (h : History Row) (s s' : State Row) where
  -- an idle step that sends nothing
  silent_idle :
      {h' : History Row} → NoWriteTold h h' → ((c : ℕ) → (s'.outstanding c ≡ s.outstanding c) ⊎ (s'.outstanding c ≡ None)) →
      ((c : ℕ) → s.counter c ≤ s'.counter c) → SameFiles s s' → SameQueue s s' → Fewer s s' → Idle h h' s s'
  silent_idle history outstanding counter files queue flight =
      record {
        history = history;
        outstanding = outstanding;
        counter = counter;
        files = files;
        queue = queue;
        write = λ c f k x m. inl (flight (WRITE c f k x) m);
        done = λ c k m. inl (flight (DONE c k) m);
      }

  posted_write : {m : Message Row} → Postable n s m → (c f k : ℕ) (x : Row) → WRITE c f k x ≡ m → s.outstanding c ≡ Some (pending f k x)
  posted_write (ask b) c f k x e = clash (cc)
  posted_write (recall a b d g) c f k x e = clash (cc)
  posted_write (write {station = c₀} {file = f₀} {number = k₀} {row = x₀} o) c f k x e =
      let ec : c ≡ c₀ = cc in
      let ef : f ≡ f₀ = cc in
      let ek : k ≡ k₀ = cc in
      let ex : x ≡ x₀ = cc in
      rw (ec, ef, ek, ex) o
  posted_write (done a b d) c f k x e = clash (cc)

  posted_done : {m : Message Row} → Postable n s m → (c k : ℕ) → DONE c k ≡ m → DoneAgain s c k
  posted_done (ask b) c k e = clash (cc)
  posted_done (recall a b d g) c k e = clash (cc)
  posted_done (write o) c k e = clash (cc)
  posted_done (done {station = c₀} {file = f₀} {number = k₀} {row = x₀} came l no_w) c k e =
      let ec : c ≡ c₀ = cc in
      let ek : k ≡ k₀ = cc in
      rw (ec, ek) (record { file = f₀; row = x₀; came = came; last = l; waits_not = no_w })

  grants_idle : {c₀ f₀ k₀ g₀ : ℕ} {x₀ : Row} {v₀ t₀ : ℕ} → Grants sound n s s' c₀ f₀ k₀ g₀ x₀ v₀ t₀ → Idle h (granted c₀ f₀ k₀ x₀ v₀ ∷ h) s s'
  grants_idle a =
      record {
        history = other_told (λ c f k x e. clash (cc)) (λ c f k x e. clash (cc)) (λ c f k x e. clash (cc));
        outstanding = λ c. inl (a.stations.outstanding c);
        counter = λ c. omega (arith, a.stations.counter c);
        files = a.files;
        queue = a.queue;
        write = λ c f k x m. inl (sent_other a.flight (λ e. clash (cc)) m);
        done = λ c k m. inl (sent_other a.flight (λ e. clash (cc)) m);
      }

  -- to show something of the state and the history after a step, show it for each kind
  pub by_write :
      (a : Step sound n h s s') (P : History Row → Type 0) → (Idle h (note a) s s' → P (note a)) →
      ((c f : ℕ) (x : Row) → Submits n s s' c f x → P (asked c f (s.counter c + 1) x ∷ h)) →
      ((w : Waiting Row) → Accepts s s' w → P (accepted w.station w.file w.number w.row ∷ h)) →
      ((w : Waiting Row) (r : ℕ) (b e : List (Waiting Row)) → Effects sound n s s' w r b e → P
      (effect w.station w.file w.number w.row ∷ h)) →
      P (note a)
  by_write (passes a) P idle sub acc eff =
      idle (silent_idle none_told (λ c. inl (a.stations.outstanding c)) (λ c. omega (arith, a.stations.counter c)) a.files a.queue
      a.flight)
  by_write (posts a) P idle sub acc eff =
      idle (record {
        history = none_told;
        outstanding = λ c. inl (a.stations.outstanding c);
        counter = λ c. omega (arith, a.stations.counter c);
        files = a.files;
        queue = a.queue;
        write = λ c f k x m. elim (a.flight (WRITE c f k x) m) [ inl b ↦ inl b | inr e ↦ inr (posted_write a.may c f k x e) ];
        done = λ c k m. elim (a.flight (DONE c k) m) [ inl b ↦ inl b | inr e ↦ inr (posted_done a.may c k e) ];
      })
  by_write (restarts a) P idle sub acc eff =
      idle (silent_idle none_told (λ c. then_one (a.outstanding c)) (λ c. omega (arith, a.counter c)) a.files a.queue a.flight)
  by_write (opens a) P idle sub acc eff =
      idle (silent_idle (other_told (λ c f k x e. clash (cc)) (λ c f k x e. clash (cc)) (λ c f k x e. clash (cc))) (λ c. inl (a.outstanding c))
      (drawn_grows a.drawn a.counter) a.files a.queue a.flight)
  by_write (primary_grants a) P idle sub acc eff = idle (grants_idle a.grants)
  by_write (relay_grants a) P idle sub acc eff = idle (grants_idle a.grants)
  by_write (takes a) P idle sub acc eff =
      idle (silent_idle (other_told (λ c f k x e. clash (cc)) (λ c f k x e. clash (cc)) (λ c f k x e. clash (cc))) (λ c. inl (a.outstanding c))
      (λ c. omega (arith, a.counter c)) a.files a.queue a.flight)
  by_write (yields a) P idle sub acc eff =
      idle (record {
        history = none_told;
        outstanding = λ c. inl (a.outstanding c);
        counter = λ c. omega (arith, a.counter c);
        files = a.files;
        queue = a.queue;
        write = λ c f k x m. inl (sent_other a.flight (λ e. clash (cc)) m);
        done = λ c k m. inl (sent_other a.flight (λ e. clash (cc)) m);
      })
  by_write (hears a) P idle sub acc eff =
      idle (silent_idle none_told (λ c. inl (a.stations.outstanding c)) (λ c. omega (arith, a.stations.counter c)) a.files a.queue
      a.flight)
  by_write (submits {station = c} {file = f} {row = x} a) P idle sub acc eff = sub c f x a
  by_write (accepts {write = w} a) P idle sub acc eff = acc w a
  by_write (effects {write = w} {reading = r} {before = b} {after = e} a) P idle sub acc eff = eff w r b e a
  by_write (ends a) P idle sub acc eff =
      idle (silent_idle (other_told (λ c f k x e. clash (cc)) (λ c f k x e. clash (cc)) (λ c f k x e. clash (cc))) (λ c. then_one (a.outstanding c))
      (λ c. omega (arith, a.counter c)) a.files a.queue a.flight)
