-- The actions of recalls and writes can be taken wherever their guards hold.
-- Assumes nothing.
use Rattle.std.proofs.Common.{◌≡◌, ℕ, ◌+◌, ◌<◌, ◌≤◌, List, ◌∷◌, ◌++◌, Some, None, refl, inl}
use Rattle.protocol.specs.Lookups.{In}
use Rattle.protocol.specs.Net.{Net}
use Rattle.protocol.specs.Rules.{next_version, quiet_mark, children_done, entries_done, Rules, Kept}
use Rattle.protocol.specs.Messages.{RECALL, APPROVE, WRITE, DONE}
use Rattle.protocol.specs.State.{pending, Waiting, State, Reads, Busy}
use Rattle.protocol.specs.Recalling.{Yields, Hears}
use Rattle.protocol.specs.Writing.{Submits, Accepts, Effects, Ends}
use Rattle.protocol.proofs.Put.{put_cases, put2_cases, put_here, put2_here}
use Rattle.protocol.proofs.Successors.{yielding, hearing, submitting, accepting, effecting, ending}
use Rattle.protocol.proofs.Enabled.{first_sent, place}

module _ {Row : Type 0} (n : Net) (s : State Row) where
  pub yields_enabled :
      (rules : Rules) (c f w r : ℕ) → In (RECALL c f w) s.flight → Reads n s c r →
      ((e : ℕ) → 0 < e → n.parent e ≡ c → Kept (rules.keeps quiet_mark) (s.quiet c ≤ r)) →
      ((e : ℕ) → 0 < e → n.parent e ≡ c → Kept (rules.keeps children_done) (s.entry f e ≤ r)) → Yields rules n s (yielding s c f w) c f w r
  yields_enabled rules c f w r came reads still ended =
      record {
        came = came;
        reads = reads;
        still = still;
        ended = ended;
        no_copy = put2_here s.copy c f None;
        no_ask = put2_here s.ask c f None;
        copy = λ d g. put2_cases s.copy c f None d g;
        ask = λ d g. put2_cases s.ask c f None d g;
        entry = λ g d. inl refl;
        flight = λ m i. first_sent i;
        quiet = λ p. refl;
        outstanding = λ d. refl;
        counter = λ d. refl;
        time = refl;
        files = record { row = λ g. refl; version = λ g. refl };
        queue = record { waiting = refl; last = λ d. refl };
      }

  pub hears_enabled :
      (rules : Rules) (c f w : ℕ) → Busy s f → In (APPROVE c f w) s.flight → Kept (rules.keeps next_version) (w ≡ s.version f + 1) →
      Hears rules s (hearing s c f) c f w
  hears_enabled rules c f w busy came next =
      record {
        busy = busy;
        came = came;
        next = next;
        entry = λ h d. put2_cases s.entry f c 0 h d;
        quiet = λ p. refl;
        time = refl;
        flight = λ m i. i;
        files = record { row = λ h. refl; version = λ h. refl };
        queue = record { waiting = refl; last = λ d. refl };
        stations = record { copy = λ d h. refl; ask = λ d h. refl; outstanding = λ d. refl; counter = λ d. refl };
      }

  pub submits_enabled : (c f : ℕ) (x : Row) → 0 < c → c < n.size → Submits n s (submitting s c f x) c f x
  submits_enabled c f x known member =
      record {
        known = known;
        member = member;
        outstanding = λ d. put_cases s.outstanding c (Some (pending f (s.counter c + 1) x)) d;
        drawn = put_here s.counter c (s.counter c + 1);
        counter = λ d. place (put_cases s.counter c (s.counter c + 1) d);
        flight = λ m i. first_sent i;
        copy = λ d g. refl;
        ask = λ d g. refl;
        time = refl;
        files = record { row = λ g. refl; version = λ g. refl };
        queue = record { waiting = refl; last = λ d. refl };
        links = record { entry = λ g d. refl; quiet = λ p. refl };
      }

  pub accepts_enabled :
      (w : Waiting Row) → In (WRITE w.station w.file w.number w.row) s.flight → s.last w.station < w.number →
      w.since ≡ s.time → Accepts s (accepting s w) w
  accepts_enabled w came above dated =
      record {
        came = came;
        above = above;
        dated = dated;
        waiting = refl;
        last_now = put_here s.last w.station w.number;
        last = λ d. place (put_cases s.last w.station w.number d);
        time = refl;
        flight = λ m i. i;
        files = record { row = λ g. refl; version = λ g. refl };
        stations = record { copy = λ d g. refl; ask = λ d g. refl; outstanding = λ d. refl; counter = λ d. refl };
        links = record { entry = λ g d. refl; quiet = λ p. refl };
      }

  pub effects_enabled :
      (rules : Rules) (w : Waiting Row) (r : ℕ) (before after : List (Waiting Row)) → s.waiting ≡ before ++ (w ∷ after) → Reads n s 0 r →
      s.quiet 0 ≤ r → ((c : ℕ) → 0 < c → n.parent c ≡ 0 → Kept (rules.keeps entries_done) (s.entry w.file c ≤ r)) →
      Effects rules n s (effecting s w (before ++ after)) w r before after
  effects_enabled rules w r before after waited reads still ended =
      record {
        waited = waited;
        reads = reads;
        still = still;
        ended = ended;
        waiting = refl;
        row_now = put_here s.row w.file w.row;
        version_now = put_here s.version w.file (s.version w.file + 1);
        row = λ g. place (put_cases s.row w.file w.row g);
        version = λ g. place (put_cases s.version w.file (s.version w.file + 1) g);
        entry = λ g d. inl refl;
        flight = λ m i. first_sent i;
        last = λ d. refl;
        quiet = λ p. refl;
        time = refl;
        stations = record { copy = λ d g. refl; ask = λ d g. refl; outstanding = λ d. refl; counter = λ d. refl };
      }

  pub ends_enabled :
      (c f k : ℕ) (x : Row) → In (DONE c k) s.flight → s.outstanding c ≡ Some (pending f k x) → Ends s (ending s c) c f k x
  ends_enabled c f k x came was =
      record {
        came = came;
        was = was;
        outstanding = λ d. put_cases s.outstanding c None d;
        copy = λ d g. refl;
        ask = λ d g. refl;
        counter = λ d. refl;
        time = refl;
        flight = λ m i. i;
        files = record { row = λ g. refl; version = λ g. refl };
        queue = record { waiting = refl; last = λ d. refl };
        links = record { entry = λ g d. refl; quiet = λ p. refl };
      }
