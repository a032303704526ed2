-- Each of these actions can be taken wherever its guards hold: its laws ask for nothing that can't be.
-- Assumes nothing.
use Rattle.std.proofs.Common.{◌≡◌, ℕ, ◌+◌, ◌<◌, ◌≤◌, Bool, true, false, cond, ◌⊎◌, List, ◌∷◌, Some, None, refl, inl, inr}
use mathlib.Core.List.Memᴰ
use Rattle.protocol.specs.Lookups.{In}
use Rattle.protocol.specs.Net.{Net}
use Rattle.protocol.specs.Rules.{open_ask, own_number, no_write_waits, Rules, Kept, run_out}
use Rattle.protocol.specs.Messages.{Message, ASK, GRANT}
use Rattle.protocol.specs.State.{lease, request, State, Reads, Busy, New}
use Rattle.protocol.specs.Events.{History, opened}
use Rattle.protocol.specs.Passing.{Passes, Postable, Posts, Restarts}
use Rattle.protocol.specs.Leasing.{Opens, Grants, PrimaryGrants, RelayGrants, Awaited, Takes}
use Rattle.protocol.proofs.Put.{put2, put_cases, put2_cases, put_here, put2_here}
use Rattle.protocol.proofs.Successors.{started, passing, posting, opening, granting, taking, restarting}

pub started_new : {Row : Type 0} (empty : Row) (time : ℕ) → New empty (started empty time)
started_new empty time =
    record {
      row = λ f. refl;
      version = λ f. refl;
      copy = λ c f. refl;
      ask = λ c f. refl;
      outstanding = λ c. refl;
      counter = λ c. refl;
      quiet = λ p. refl;
      entry = λ f c. refl;
      waiting = refl;
      last = λ c. refl;
      flight = refl;
    }

-- a guard whose fact holds is met, be it kept or not
pub held_anyway : (kept : Bool) {says : Type 0} → says → Kept kept says
held_anyway true fact = fact
held_anyway false fact = tt

-- an ask that is open with the number, and was opened so, is awaited by any rules
pub awaited_anyway :
    {Row : Type 0} (rules : Rules) (history : History Row) (s : State Row) (c f k r : ℕ) → s.ask c f ≡ Some (request k r) →
    In (opened c f k r) history → Awaited rules history s c f k r
awaited_anyway rules history s c f k r is was = go (rules.keeps open_ask) (rules.keeps own_number)
  where
    go :
        (a b : Bool) →
        cond a (cond b (s.ask c f ≡ Some (request k r)) ((other : ℕ) × (s.ask c f ≡ Some (request other r)))) (In (opened c f k r) history)
    go true true = is
    go true false = (k, is)
    go false b = was

-- of a message that was put first, each in flight is that one or was there
pub first_sent : {Row : Type 0} {sent m : Message Row} {l : List (Message Row)} → In m (sent ∷ l) → In m l ⊎ (m ≡ sent)
first_sent i = elim (Memᴰ.cases_cons i) [ inl e ↦ inr e | inr b ↦ inl b ]

-- the place of a law that asks only which it is
pub place : {A B C : Type 0} → A ⊎ (B × C) → A ⊎ B
place (inl a) = inl a
place (inr b) = inr b.0

place2 : {A B C D : Type 0} → A ⊎ (B × C × D) → A ⊎ (B × C)
place2 (inl a) = inl a
place2 (inr b) = inr (b.0, b.1)

module _ {Row : Type 0} (n : Net) (s : State Row) where
  pub passes_enabled : (time : ℕ) → s.time ≤ time → Passes s (passing s time)
  passes_enabled time l =
      record {
        time = l;
        flight = λ m i. i;
        files = record { row = λ f. refl; version = λ f. refl };
        queue = record { waiting = refl; last = λ c. refl };
        stations = record { copy = λ c f. refl; ask = λ c f. refl; outstanding = λ c. refl; counter = λ c. refl };
        links = record { entry = λ f c. refl; quiet = λ p. refl };
      }

  pub posts_enabled : (m : Message Row) → Postable n s m → Posts n s (posting s m) m
  posts_enabled m may =
      record {
        may = may;
        flight = λ m i. first_sent i;
        time = refl;
        files = record { row = λ f. refl; version = λ f. refl };
        queue = record { waiting = refl; last = λ c. refl };
        stations = record { copy = λ c f. refl; ask = λ c f. refl; outstanding = λ c. refl; counter = λ c. refl };
        links = record { entry = λ f c. refl; quiet = λ p. refl };
      }

  pub opens_enabled : (c f r : ℕ) → Reads n s c r → Opens n s (opening s c f r) c f r
  opens_enabled c f r reads =
      record {
        reads = reads;
        opened = put2_here s.ask c f (Some (request (s.counter c + 1) r));
        ask = λ d g. place2 (put2_cases s.ask c f (Some (request (s.counter c + 1) r)) d g);
        drawn = put_here s.counter c (s.counter c + 1);
        counter = λ d. place (put_cases s.counter c (s.counter c + 1) d);
        copy = λ d g. refl;
        outstanding = λ d. refl;
        time = refl;
        flight = λ m i. i;
        files = record { row = λ g. refl; version = λ g. refl };
        queue = record { waiting = refl; last = λ d. refl };
        links = record { entry = λ g d. refl; quiet = λ p. refl };
      }

  grants_enabled :
      (rules : Rules) (c f k g : ℕ) (x : Row) (v t : ℕ) → 0 < c → In (ASK c f k) s.flight → Reads n s (n.parent c) g → t ≤ n.longest →
      Grants rules n s (granting rules s c f k g x v t) c f k g x v t
  grants_enabled rules c f k g x v t known came reads short =
      record {
        known = known;
        came = came;
        reads = reads;
        short = short;
        held = λ p. put2_here s.entry f c (rules.joined (s.entry f c) (g + t));
        entry = λ h d. at_place h d (put2_cases s.entry f c (rules.joined (s.entry f c) (g + t)) h d);
        flight = λ m i. first_sent i;
        quiet = λ p. refl;
        time = refl;
        files = record { row = λ h. refl; version = λ h. refl };
        queue = record { waiting = refl; last = λ d. refl };
        stations = record { copy = λ d h. refl; ask = λ d h. refl; outstanding = λ d. refl; counter = λ d. refl };
      }
    where
      at_place :
          (h d : ℕ) →
          (put2 s.entry f c (rules.joined (s.entry f c) (g + t)) h d ≡ s.entry h d) ⊎
          ((h ≡ f) × (d ≡ c) × (put2 s.entry f c (rules.joined (s.entry f c) (g + t)) h d ≡ rules.joined (s.entry f c) (g + t))) →
          (put2 s.entry f c (rules.joined (s.entry f c) (g + t)) h d ≡ s.entry h d) ⊎
          ((h ≡ f) × (d ≡ c) × (put2 s.entry f c (rules.joined (s.entry f c) (g + t)) h d ≡ rules.joined (s.entry h d) (g + t)))
      at_place h d (inl e) = inl e
      at_place h d (inr e) =
          let ef : h ≡ f = e.0 in
          let ec : d ≡ c = e.1 in
          let ev : put2 s.entry f c (rules.joined (s.entry f c) (g + t)) h d ≡ rules.joined (s.entry f c) (g + t) = e.2 in
          inr (ef, ec, cc)

  pub primary_grants_enabled :
      (rules : Rules) (c f k g t : ℕ) → 0 < c → n.parent c ≡ 0 → In (ASK c f k) s.flight → Reads n s (n.parent c) g → t ≤ n.longest →
      Kept (rules.keeps no_write_waits) (¬ Busy s f) →
      PrimaryGrants rules n s (granting rules s c f k g (s.row f) (s.version f) t) c f k g (s.row f) (s.version f) t
  primary_grants_enabled rules c f k g t known top came reads short free =
      record {
        grants = grants_enabled rules c f k g (s.row f) (s.version f) t known came reads short;
        primary = top;
        free = free;
        row_is = refl;
        version_is = refl;
      }

  pub relay_grants_enabled :
      (rules : Rules) (c f k g : ℕ) (x : Row) (v t until : ℕ) → 0 < c → 0 < n.parent c → In (ASK c f k) s.flight → Reads n s (n.parent c) g →
      t ≤ n.longest → s.copy (n.parent c) f ≡ Some (lease x v until) → g < until → g + t ≤ until →
      RelayGrants rules n s (granting rules s c f k g x v t) c f k g x v t until
  relay_grants_enabled rules c f k g x v t until known relay came reads short copied live within =
      record {
        grants = grants_enabled rules c f k g x v t known came reads short;
        relay = relay;
        copied = copied;
        live = live;
        within = within;
      }

  pub takes_enabled :
      (rules : Rules) (history : History Row) (c f k r : ℕ) (x : Row) (v t : ℕ) → In (GRANT c f k x v t) s.flight →
      Awaited rules history s c f k r → Takes rules n history s (taking rules n s c f r x v t) c f k r x v t
  takes_enabled rules history c f k r x v t came awaited =
      record {
        came = came;
        awaited = awaited;
        copy = λ d g. put2_cases s.copy c f (Some (lease x v (run_out rules n c r t))) d g;
        closed = put2_here s.ask c f None;
        ask = λ d g. put2_cases s.ask c f None d g;
        outstanding = λ d. refl;
        counter = λ d. refl;
        time = refl;
        flight = λ m i. i;
        files = record { row = λ g. refl; version = λ g. refl };
        queue = record { waiting = refl; last = λ d. refl };
        links = record { entry = λ g d. refl; quiet = λ p. refl };
      }

  pub restarts_enabled :
      (c r : ℕ) (left : ℕ → ℕ → ℕ) → 0 < c → Reads n s c r →
      ((f child : ℕ) → (left f child ≡ s.entry f child) ⊎ ((n.parent child ≡ c) × (left f child ≡ 0))) →
      Restarts n s (restarting s c left (r + n.longest)) c r
  restarts_enabled c r left known reads forgotten =
      record {
        known = known;
        reads = reads;
        mark = put_here s.quiet c (r + n.longest);
        quiet = λ p. place (put_cases s.quiet c (r + n.longest) p);
        copy = λ d f. put_cases (λ e. s.copy e f) c None d;
        ask = λ d f. put_cases (λ e. s.ask e f) c None d;
        outstanding = λ d. put_cases s.outstanding c None d;
        entry = forgotten;
        counter = λ d. refl;
        time = refl;
        flight = λ m i. i;
        files = record { row = λ g. refl; version = λ g. refl };
        queue = record { waiting = refl; last = λ d. refl };
      }
