-- Every event of a run is lawful after those before it, and so its story is true.
-- Assumes nothing.
use Rattle.std.proofs.Common.{◌≡◌, ℕ, ◌+◌, [], ◌∷◌, Some, None, Option, sym, ◌∙◌, subst₂, inl, inr, arith}
use Rattle.protocol.specs.Lookups.{In}
use Rattle.protocol.specs.Net.{Net}
use Rattle.protocol.specs.Rules.{sound}
use Rattle.protocol.specs.State.{State}
use Rattle.protocol.specs.Events.{Event, History, opened, granted, fetched, accepted, effect, reported, noted, At, now, before}
use Rattle.protocol.specs.Steps.{told}
use Rattle.protocol.specs.Steps.{Step, note, passes, posts, restarts, opens, primary_grants, relay_grants, takes, yields, hears, submits, accepts, effects, ends}
use Rattle.protocol.specs.Runs.{Run, new, more, Happened}
use Rattle.protocol.specs.Story.{Files, Effected, Lawful, DoneBetween, FetchedBetween}
use Rattle.protocol.specs.Promises as Promises
use Rattle.protocol.proofs.Invariant.{Safe}
use Rattle.protocol.proofs.GrantsSafe.{own_copy_covered}
use Rattle.protocol.proofs.Agreement.{new_safe, step_safe}
use Rattle.protocol.proofs.Files.{new_files, step_files}
use Rattle.protocol.proofs.Writes.{Writes, new_writes}
use Rattle.protocol.proofs.WritesKept.{step_writes, submits_lawful, accepts_lawful, effects_lawful}
use Rattle.protocol.proofs.Fetches.{Fetches, new_fetches, step_fetches, opens_lawful, takes_lawful}
use Rattle.protocol.proofs.Moments.{past_in, at_past, Stood, in_at, at_moment, moment_at}

-- every event of the history is lawful after those before it
abbrev AllLawful : {Row : Type 0} → Row → History Row → Type 0
AllLawful {Row} empty h = (e : Event Row) (past : History Row) → At e past h → Lawful empty e past

-- what holds of every state of a run and its history
pub record Story {Row : Type 0} (n : Net) (empty : Row) (h : History Row) (s : State Row) : Type 0 where
  pub safe : Safe n s
  pub files : Files empty h s
  pub writes : Writes h s
  pub fetches : Fetches h s
  pub lawful : AllLawful empty h

-- what a step may tell after a history
abbrev LawfulNext : {Row : Type 0} → Row → Option (Event Row) → History Row → Type 0
LawfulNext empty None h = Unit {0}
LawfulNext empty (Some e) h = Lawful empty e h

-- one more lawful event
lawful_more :
    {Row : Type 0} (empty : Row) (o : Option (Event Row)) (h : History Row) → LawfulNext empty o h → AllLawful empty h → AllLawful empty (noted o h)
lawful_more empty None h l i e past m = i e past m
lawful_more {Row} empty (Some d) h l i e past m = go m
  where
    go : {e : Event Row} {past : History Row} → At e past (d ∷ h) → Lawful empty e past
    go now = l
    go (before m) = i _ _ m

module _ {Row : Type 0} (n : Net) (empty : Row) (h : History Row) (s s' : State Row) where
  -- a grant of what the primary has
  grants_lawful :
      {c f k : ℕ} {x : Row} {v : ℕ} → Story n empty h s → ((r : ℕ) × In (opened c f k r) h) → x ≡ s.row f → v ≡ s.version f →
      Lawful empty (granted c f k x v) h
  grants_lawful {f = f} i o er ev = (o, er ∙ i.files.row f, ev ∙ i.files.version f)

  step_lawful : (a : Step sound n h s s') → Story n empty h s → LawfulNext empty (told a) h
  step_lawful (passes a) i = tt
  step_lawful (posts a) i = tt
  step_lawful (restarts a) i = tt
  step_lawful (opens a) i = opens_lawful n h s s' a i.fetches
  step_lawful (primary_grants {station = c} {file = f} {number = k} a) i =
      grants_lawful i (i.fetches.sent c f k a.grants.came) a.row_is a.version_is
  step_lawful (relay_grants {station = c} {file = f} {number = k} a) i =
      let own = own_copy_covered n s s' a i.safe in
      grants_lawful i (i.fetches.sent c f k a.grants.came) own.row own.version
  step_lawful (takes a) i = takes_lawful n h s s' a i.fetches
  step_lawful (yields a) i = tt
  step_lawful (hears a) i = tt
  step_lawful (submits a) i = submits_lawful n h s s' a i.writes
  step_lawful (accepts a) i = accepts_lawful n h s s' a i.writes
  step_lawful (effects a) i = effects_lawful n h s s' a i.writes
  step_lawful (ends {station = c} {number = k} a) i = i.writes.done c k a.came

  step_story : (a : Step sound n h s s') → Story n empty h s → Story n empty (note a) s'
  step_story a i =
      record {
        safe = step_safe n h s s' a i.safe;
        files = step_files n empty h s s' a i.files;
        writes = step_writes n h s s' a i.writes;
        fetches = step_fetches n h s s' a i.fetches;
        lawful = lawful_more empty (told a) h (step_lawful a i) i.lawful;
      }

new_lawful : {Row : Type 0} (empty : Row) → AllLawful empty []
new_lawful empty e past m = elim m [ ]

pub run_story : {Row : Type 0} {n : Net} {empty : Row} {h : History Row} {s : State Row} → Run sound n empty h s → Story n empty h s
run_story {n = n} {empty = e} {s = s} (new i) =
    record {
      safe = new_safe n e s i;
      files = new_files e s i;
      writes = new_writes e s i;
      fetches = new_fetches e s i;
      lawful = new_lawful e;
    }
run_story {n = n} {empty = e} (more {h = h} {s = s} {s' = s'} r a) = step_story n e h s s' a (run_story r)

-- at each moment the files are what the history so far makes of them
moment_files :
    {Row : Type 0} {n : Net} {empty : Row} {h : History Row} {s : State Row} (run : Run sound n empty h s) (e : Event Row)
    (past : History Row) (then : State Row) → Happened run e past then → Files empty past then
moment_files (new i) e past then m = absurd m
moment_files {Row} {empty = empty} (more run a) e past then (inl k) =
    subst₂ (λ (g : History Row) (t : State Row). Files empty g t) (sym k.1) (sym k.2) (run_story run).files
moment_files (more run a) e past then (inr k) = moment_files run e past then k

module _ {Row : Type 0} {n : Net} {empty : Row} {h : History Row} {s : State Row} (run : Run sound n empty h s) where
  lawful_at : (e : Event Row) (past : History Row) → At e past h → Lawful empty e past
  lawful_at = (run_story run).lawful

  -- the effect of a reported write stands in the past of the report, its acceptance in that of the effect, its asking in that of the acceptance
  report_between : (c k : ℕ) (past : History Row) (then : State Row) → Happened run (reported c k) past then → DoneBetween run c k past
  report_between c k past then m =
      let at = moment_at run (reported c k) past then m in
      let done : Effected past c k = lawful_at (reported c k) past at in
      let e : Stood (effect c done.file k done.row) past = in_at done.was in
      let effect_at = at_past at e.at in
      let taken = (lawful_at (effect c done.file k done.row) e.past effect_at).0 in
      let a : Stood (accepted c done.file k done.row) e.past = in_at taken in
      let asked_by = (lawful_at (accepted c done.file k done.row) a.past (at_past effect_at a.at)).0 in
      let moment = at_moment run (effect c done.file k done.row) e.past effect_at in
      record {
        file = done.file;
        row = done.row;
        earlier = e.past;
        then = moment.then;
        happened = moment.happened;
        asked = past_in a.at asked_by;
        accepted = taken;
        before = e.at;
      }

  -- the grant stands in the past of the fetch, the ask in that of the grant
  fetch_between :
      (c f k : ℕ) (x : Row) (v : ℕ) (past : History Row) (then : State Row) → Happened run (fetched c f k x v) past then →
      FetchedBetween run c f k x v past
  fetch_between c f k x v past then m =
      let at = moment_at run (fetched c f k x v) past then m in
      let g : Stood (granted c f k x v) past = in_at (lawful_at (fetched c f k x v) past at).0 in
      let grant_at = at_past at g.at in
      let l = lawful_at (granted c f k x v) g.past grant_at in
      let moment = at_moment run (granted c f k x v) g.past grant_at in
      let files = moment_files run (granted c f k x v) g.past moment.then moment.happened in
      record {
        earlier = g.past;
        then = moment.then;
        happened = moment.happened;
        reading = l.0.0;
        opened = l.0.1;
        before = g.at;
        row_is = l.1 ∙ sym (files.row f);
        version_is = l.2 ∙ sym (files.version f);
      }

pub once : {Row : Type 0} → Promises.Once sound Row
once n empty h s run =
    let i = run_story run in
    record {
      version = i.files.version;
      row = i.files.row;
      lawful = i.lawful;
      moments = moment_files run;
      reports = report_between run;
      fetches = fetch_between run;
    }

pub version_after : {Row : Type 0} (count version : ℕ) → version ≡ count + 1 → Promises.VersionAfter sound Row count version
version_after count version e n empty h s run f k = omega (arith, (run_story run).files.version f)
