-- Each write that takes effect was asked and accepted, and takes effect once; a station is told of no other.
-- Assumes nothing.
use Rattle.std.proofs.Common.{◌≡◌, ℕ, ◌<◌, ◌≤◌, ◌⊎◌, [], Some, sym, refl, ◌∙◌, subst, inl, inr, arith}
use Rattle.protocol.specs.Lookups.{In}
use Rattle.protocol.specs.Net.{Net}
use Rattle.protocol.specs.Messages.{WRITE, DONE}
use Rattle.protocol.specs.State.{pending, Waiting, State, New}
use Rattle.protocol.specs.Events.{Event, History, asked, accepted, effect}
use Rattle.protocol.specs.Story.{Effected}
use Rattle.protocol.proofs.Lookups.{was, not_some, not_in}
use Rattle.protocol.proofs.Apart.{Apart}
use Rattle.protocol.proofs.WriteSteps.{Idle, DoneAgain}

-- the station's write of this number waits
pub record Waits {Row : Type 0} (s : State Row) (c k : ℕ) : Type 0 where
  pub write : Waiting Row
  pub waits : In write s.waiting
  pub station : write.station ≡ c
  pub number : write.number ≡ k

pub record Writes {Row : Type 0} (h : History Row) (s : State Row) : Type 0 where
  -- what a station remembers or sent was asked
  pub out : (c f k : ℕ) (x : Row) → s.outstanding c ≡ Some (pending f k x) → In (asked c f k x) h
  pub sent : (c f k : ℕ) (x : Row) → In (WRITE c f k x) s.flight → In (asked c f k x) h
  pub counted : (c f k : ℕ) (x : Row) → In (asked c f k x) h → (0 < k) × (k ≤ s.counter c)
  -- what waits was accepted, and no two are the same
  pub waiting : (w : Waiting Row) → In w s.waiting → In (accepted w.station w.file w.number w.row) h
  pub past : (c f k : ℕ) (x : Row) → In (accepted c f k x) h → k ≤ s.last c
  pub apart : Apart s.waiting
  -- what took effect was accepted, and waits no more
  pub taken : (c f k : ℕ) (x : Row) → In (effect c f k x) h → In (accepted c f k x) h
  pub fresh : (c f k : ℕ) (x : Row) (w : Waiting Row) → In (effect c f k x) h → In w s.waiting → w.station ≡ c → w.number ≡ k → ⊥
  -- the last accepted write waits or took effect, and a DONE is of one that did
  pub last : (c : ℕ) → 0 < s.last c → Waits s c (s.last c) ⊎ Effected h c (s.last c)
  pub done : (c k : ℕ) → In (DONE c k) s.flight → Effected h c k

pub new_writes : {Row : Type 0} (empty : Row) (s : State Row) → New empty s → Writes [] s
new_writes empty s i =
    record {
      out = λ c f k x e. absurd (not_some (i.outstanding c) e);
      sent = λ c f k x m. absurd (not_in i.flight m);
      counted = λ c f k x m. absurd (not_in refl m);
      waiting = λ w m. absurd (not_in i.waiting m);
      past = λ c f k x m. absurd (not_in refl m);
      apart = subst (λ l. Apart l) (sym i.waiting) tt;
      taken = λ c f k x m. absurd (not_in refl m);
      fresh = λ c f k x w m n a b. not_in refl m;
      last = λ c p. absurd (omega (arith, i.last c));
      done = λ c k m. absurd (not_in i.flight m);
    }

pub effected_kept : {Row : Type 0} {h h' : History Row} {c k : ℕ} → ((e : Event Row) → In e h → In e h') → Effected h c k → Effected h' c k
effected_kept {c = c} {k = k} kept i = record { file = i.file; row = i.row; was = kept (effect c i.file k i.row) i.was }

module _ {Row : Type 0} (n : Net) (h : History Row) (s s' : State Row) where
  -- the last accepted write, where neither the queue nor its number changes
  pub last_kept :
      (h' : History Row) → ((e : Event Row) → In e h → In e h') → s'.waiting ≡ s.waiting → (c : ℕ) → s'.last c ≡ s.last c →
      Waits s c (s.last c) ⊎ Effected h c (s.last c) → Waits s' c (s'.last c) ⊎ Effected h' c (s'.last c)
  last_kept h' kept ws c ls (inl b) =
      rw ls (inl (record { write = b.write; waits = subst (λ l. In b.write l) (sym ws) b.waits; station = b.station; number = b.number }))
  last_kept h' kept ws c ls (inr b) = rw ls (inr (effected_kept kept b))

  -- a DONE that is sent again is of a write that took effect: the last accepted one doesn't wait
  again_done : Writes h s → (c k : ℕ) → DoneAgain s c k → Effected h c k
  again_done i c k d =
      let p : (0 < k) × (k ≤ s.counter c) = i.counted c d.file k d.row (i.sent c d.file k d.row d.came) in
      go (i.last c (omega (arith, p.0, d.last)))
    where
      go : Waits s c (s.last c) ⊎ Effected h c (s.last c) → Effected h c k
      go (inl w) = absurd (d.waits_not w.write w.waits w.station (w.number ∙ d.last))
      go (inr b) = rw d.last at b

  pub idle_writes : (h' : History Row) → Writes h s → Idle h h' s s' → Writes h' s'
  idle_writes h' i a =
      record {
        out = λ c f k x e. kept (asked c f k x) (i.out c f k x (was (a.outstanding c) e));
        sent = λ c f k x m. kept (asked c f k x) (elim (a.write c f k x m) [ inl b ↦ i.sent c f k x b | inr b ↦ i.out c f k x b ]);
        counted = λ c f k x m. omega (arith, i.counted c f k x (a.history.asked c f k x m), a.counter c);
        waiting = λ w m. kept (accepted w.station w.file w.number w.row) (i.waiting w (back w m));
        past = λ c f k x m. omega (arith, i.past c f k x (a.history.accepted c f k x m), a.queue.last c);
        apart = subst (λ l. Apart l) (sym a.queue.waiting) i.apart;
        taken = λ c f k x m. kept (accepted c f k x) (i.taken c f k x (a.history.effect c f k x m));
        fresh = λ c f k x w m v. i.fresh c f k x w (a.history.effect c f k x m) (back w v);
        last = λ c p. last_kept h' kept a.queue.waiting c (a.queue.last c) (i.last c (omega (arith, a.queue.last c)));
        done = λ c k m. effected_kept kept (elim (a.done c k m) [ inl b ↦ i.done c k b | inr b ↦ again_done i c k b ]);
      }
    where
      kept : (e : Event Row) → In e h → In e h'
      kept = a.history.kept

      back : (w : Waiting Row) → In w s'.waiting → In w s.waiting
      back w m = subst (λ l. In w l) a.queue.waiting m
