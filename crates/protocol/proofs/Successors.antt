-- The state that an action leads to, as a function of the state before it.
-- Assumes nothing.
use Rattle.std.proofs.Common.{ℕ, ◌+◌, List, [], ◌∷◌, ◌++◌, Some, None, Option}
use Rattle.protocol.specs.Net.{Net}
use Rattle.protocol.specs.Rules.{Rules, run_out}
use Rattle.protocol.specs.Messages.{Message, GRANT, APPROVE, WRITE, DONE}
use Rattle.protocol.specs.State.{Lease, lease, Request, request, Pending, pending, Waiting, State}
use Rattle.protocol.proofs.Put.{put, put2}

-- a new network at this true time
abbrev pub started : {Row : Type 0} → Row → ℕ → State Row
started empty time =
    record {
      time = time;
      row = λ f. empty;
      version = λ f. 1;
      copy = λ c f. None;
      ask = λ c f. None;
      outstanding = λ c. None;
      counter = λ c. 0;
      quiet = λ p. 0;
      entry = λ f c. 0;
      waiting = [];
      last = λ c. 0;
      flight = [];
    }

-- with other files
abbrev with_files : {Row : Type 0} → State Row → (ℕ → Row) → (ℕ → ℕ) → State Row
with_files s row version =
    record {
      time = s.time;
      row = row;
      version = version;
      copy = s.copy;
      ask = s.ask;
      outstanding = s.outstanding;
      counter = s.counter;
      quiet = s.quiet;
      entry = s.entry;
      waiting = s.waiting;
      last = s.last;
      flight = s.flight;
    }

-- with other copies, asks, outstanding writes and counters
abbrev with_stations :
    {Row : Type 0} → State Row → (ℕ → ℕ → Option (Lease Row)) → (ℕ → ℕ → Option Request) → (ℕ → Option (Pending Row)) → (ℕ → ℕ) → State Row
with_stations s copy ask outstanding counter =
    record {
      time = s.time;
      row = s.row;
      version = s.version;
      copy = copy;
      ask = ask;
      outstanding = outstanding;
      counter = counter;
      quiet = s.quiet;
      entry = s.entry;
      waiting = s.waiting;
      last = s.last;
      flight = s.flight;
    }

-- with other entries
abbrev with_entries : {Row : Type 0} → State Row → (ℕ → ℕ → ℕ) → State Row
with_entries s entry =
    record {
      time = s.time;
      row = s.row;
      version = s.version;
      copy = s.copy;
      ask = s.ask;
      outstanding = s.outstanding;
      counter = s.counter;
      quiet = s.quiet;
      entry = entry;
      waiting = s.waiting;
      last = s.last;
      flight = s.flight;
    }

-- with another queue
abbrev with_queue : {Row : Type 0} → State Row → List (Waiting Row) → (ℕ → ℕ) → State Row
with_queue s waiting last =
    record {
      time = s.time;
      row = s.row;
      version = s.version;
      copy = s.copy;
      ask = s.ask;
      outstanding = s.outstanding;
      counter = s.counter;
      quiet = s.quiet;
      entry = s.entry;
      waiting = waiting;
      last = last;
      flight = s.flight;
    }

-- with one more message in flight
abbrev pub posting : {Row : Type 0} → State Row → Message Row → State Row
posting s sent =
    record {
      time = s.time;
      row = s.row;
      version = s.version;
      copy = s.copy;
      ask = s.ask;
      outstanding = s.outstanding;
      counter = s.counter;
      quiet = s.quiet;
      entry = s.entry;
      waiting = s.waiting;
      last = s.last;
      flight = sent ∷ s.flight;
    }

-- at another true time
abbrev pub passing : {Row : Type 0} → State Row → ℕ → State Row
passing s time =
    record {
      time = time;
      row = s.row;
      version = s.version;
      copy = s.copy;
      ask = s.ask;
      outstanding = s.outstanding;
      counter = s.counter;
      quiet = s.quiet;
      entry = s.entry;
      waiting = s.waiting;
      last = s.last;
      flight = s.flight;
    }

-- a station opens an ask
abbrev pub opening : {Row : Type 0} → State Row → (station file reading : ℕ) → State Row
opening s c f r =
    with_stations s s.copy (put2 s.ask c f (Some (request (s.counter c + 1) r))) s.outstanding (put s.counter c (s.counter c + 1))

-- a parent grants
abbrev pub granting : {Row : Type 0} → Rules → State Row → (station file number reading : ℕ) (row : Row) (version term : ℕ) → State Row
granting rules s c f k g x v t = posting (with_entries s (put2 s.entry f c (rules.joined (s.entry f c) (g + t)))) (GRANT c f k x v t)

-- a station takes a GRANT
abbrev pub taking : {Row : Type 0} → Rules → Net → State Row → (station file reading : ℕ) (row : Row) (version term : ℕ) → State Row
taking rules n s c f r x v t =
    with_stations s (put2 s.copy c f (Some (lease x v (run_out rules n c r t)))) (put2 s.ask c f None) s.outstanding s.counter

-- a station without children gives up a file
abbrev pub yielding : {Row : Type 0} → State Row → (station file version : ℕ) → State Row
yielding s c f w =
    posting (with_stations s (put2 s.copy c f None) (put2 s.ask c f None) s.outstanding s.counter) (APPROVE c f w)

-- the primary hears of it
abbrev pub hearing : {Row : Type 0} → State Row → (station file : ℕ) → State Row
hearing s c f = with_entries s (put2 s.entry f c 0)

-- a station submits a write
abbrev pub submitting : {Row : Type 0} → State Row → (station file : ℕ) (row : Row) → State Row
submitting s c f x =
    posting
    (with_stations s s.copy s.ask (put s.outstanding c (Some (pending f (s.counter c + 1) x))) (put s.counter c (s.counter c + 1)))
    (WRITE c f (s.counter c + 1) x)

-- the primary accepts a write
abbrev pub accepting : {Row : Type 0} → State Row → Waiting Row → State Row
accepting s w = with_queue s (s.waiting ++ (w ∷ [])) (put s.last w.station w.number)

-- a write takes effect, and the rest goes on waiting
abbrev pub effecting : {Row : Type 0} → State Row → Waiting Row → (rest : List (Waiting Row)) → State Row
effecting s w rest =
    posting
    (with_queue (with_files s (put s.row w.file w.row) (put s.version w.file (s.version w.file + 1))) rest s.last)
    (DONE w.station w.number)

-- a station is told that its write is done
abbrev pub ending : {Row : Type 0} → State Row → (station : ℕ) → State Row
ending s c = with_stations s s.copy s.ask (put s.outstanding c None) s.counter

-- a station restarts: its copies, asks and write are gone, its quiet mark is set, and of the entries these are left
abbrev pub restarting : {Row : Type 0} → State Row → (station : ℕ) → (ℕ → ℕ → ℕ) → (mark : ℕ) → State Row
restarting s c entry mark =
    record {
      time = s.time;
      row = s.row;
      version = s.version;
      copy = λ d f. put (λ e. s.copy e f) c None d;
      ask = λ d f. put (λ e. s.ask e f) c None d;
      outstanding = put s.outstanding c None;
      counter = s.counter;
      quiet = put s.quiet c mark;
      entry = entry;
      waiting = s.waiting;
      last = s.last;
      flight = s.flight;
    }
