-- Which messages that leases rest on an action can have sent.
-- Assumes nothing.
use Rattle.std.proofs.Common.{◌≡◌, ℕ, ◌⊎◌, List, sym, subst, inl, inr}
use Rattle.protocol.specs.Lookups.{In}
use Rattle.protocol.specs.Messages.{Message, ASK, GRANT, RECALL, APPROVE, WRITE, DONE}
use Rattle.protocol.specs.State.{State}
use Rattle.protocol.specs.Unchanged.{Fewer, Sent}

-- every GRANT in flight was in flight before
abbrev pub CarriesGrants : {Row : Type 0} → State Row → State Row → Type 0
CarriesGrants {Row} s s' =
    (c f k : ℕ) (x : Row) (v t : ℕ) → In (GRANT c f k x v t) s'.flight → In (GRANT c f k x v t) s.flight

-- and so with every APPROVE
abbrev pub CarriesApproves : {Row : Type 0} → State Row → State Row → Type 0
CarriesApproves {Row} s s' = (c f w : ℕ) → In (APPROVE c f w) s'.flight → In (APPROVE c f w) s.flight

-- and with the other messages that leases rest on
pub record Carries {Row : Type 0} (s s' : State Row) : Type 0 where
  pub ask : (c f k : ℕ) → In (ASK c f k) s'.flight → In (ASK c f k) s.flight
  pub grant : CarriesGrants s s'
  pub recall : (c f w : ℕ) → In (RECALL c f w) s'.flight → In (RECALL c f w) s.flight
  pub approve : CarriesApproves s s'

pub fewer_carries : {Row : Type 0} {s s' : State Row} → Fewer s s' → Carries s s'
fewer_carries fl =
    record {
      ask = λ c f k m. fl (ASK c f k) m;
      grant = λ c f k x v t m. fl (GRANT c f k x v t) m;
      recall = λ c f w m. fl (RECALL c f w) m;
      approve = λ c f w m. fl (APPROVE c f w) m;
    }

-- what was sent is not the message in question
pub sent_other :
    {Row : Type 0} {old new : List (Message Row)} {sent m : Message Row} → ((m : Message Row) → In m new → In m old ⊎ (m ≡ sent)) →
    (m ≡ sent → ⊥) → In m new → In m old
sent_other {m = m} fl other i = elim (fl m i) [ inl b ↦ b | inr e ↦ absurd (other e) ]

-- a message about writes is none that leases rest on
abbrev AboutWrites : {Row : Type 0} → Message Row → Type 0
AboutWrites (ASK c f k) = ⊥
AboutWrites (GRANT c f k x v t) = ⊥
AboutWrites (RECALL c f w) = ⊥
AboutWrites (APPROVE c f w) = ⊥
AboutWrites (WRITE c f k x) = Unit {0}
AboutWrites (DONE c k) = Unit {0}

sent_carries : {Row : Type 0} (s s' : State Row) (sent : Message Row) → AboutWrites sent → Sent sent s s' → Carries s s'
sent_carries s s' sent about fl =
    record {
      ask = λ c f k. sent_other fl (λ e. subst AboutWrites (sym e) about);
      grant = λ c f k x v t. sent_other fl (λ e. subst AboutWrites (sym e) about);
      recall = λ c f w. sent_other fl (λ e. subst AboutWrites (sym e) about);
      approve = λ c f w. sent_other fl (λ e. subst AboutWrites (sym e) about);
    }

pub write_carries : {Row : Type 0} (s s' : State Row) {c f k : ℕ} {x : Row} → Sent (WRITE c f k x) s s' → Carries s s'
write_carries s s' {c} {f} {k} {x} fl = sent_carries s s' (WRITE c f k x) tt fl

pub done_carries : {Row : Type 0} (s s' : State Row) {c k : ℕ} → Sent (DONE c k) s s' → Carries s s'
done_carries s s' {c} {k} fl = sent_carries s s' (DONE c k) tt fl
