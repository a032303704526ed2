-- Runs by calls: the primary takes its turn in each call in which true time grows or a write is accepted.
-- Assumes nothing.
use Rattle.std.specs.Prelude.{◌≡◌, ℕ, ◌<◌, List, [], ◌∷◌, ◌++◌}
use Rattle.protocol.specs.Lookups.{In}
use Rattle.protocol.specs.Net.{Net}
use Rattle.protocol.specs.Rules.{Rules}
use Rattle.protocol.specs.State.{Waiting, State, Reads, New}
use Rattle.protocol.specs.Events.{History, effect}
use Rattle.protocol.specs.Writing.{Effects}
use Rattle.protocol.specs.Runs.{Run, Steps, steps_run}

-- A child of the primary has an entry on the file that is live at the reading.
pub record Held {Row : Type 0} (n : Net) (s : State Row) (file reading : ℕ) : Type 0 where
  pub child : ℕ
  pub known : 0 < child
  pub below : n.parent child ≡ 0
  pub live : reading < s.entry file child

-- The primary took its turn: at its reading each write that still waits is held back by a live entry.
pub record Turned {Row : Type 0} (n : Net) (s : State Row) : Type 0 where
  pub reading : ℕ
  pub reads : Reads n s 0 reading
  pub held : (w : Waiting Row) → In w s.waiting → Held n s w.file reading

-- A run by calls, each some steps in a row.
pub data Calls {Row : Type 0} (rules : Rules) (n : Net) (empty : Row) : History Row → State Row → Type 0 where
  new : {s : State Row} → New empty s → Calls rules n empty [] s
  -- a call in which neither time grows nor a write is accepted
  still :
      {h h' : History Row} {s s' : State Row} → Calls rules n empty h s → Steps rules n h s h' s' → s'.time ≡ s.time →
      ((w : Waiting Row) → In w s'.waiting → In w s.waiting) → Calls rules n empty h' s'
  -- a call with the primary's turn
  turn :
      {h h' : History Row} {s s' : State Row} → Calls rules n empty h s → Steps rules n h s h' s' → Turned n s' →
      Calls rules n empty h' s'

-- The steps of the calls, as a run.
abbrev pub calls_run :
    {Row : Type 0} {rules : Rules} {n : Net} {empty : Row} {h : History Row} {s : State Row} → Calls rules n empty h s →
    Run rules n empty h s
calls_run (new i) = Run.new i
calls_run (still calls steps time waiting) = steps_run (calls_run calls) steps
calls_run (turn calls steps turned) = steps_run (calls_run calls) steps

-- A turn at the primary's reading, as a list of effects: the writes of kept were passed over, those of the second list are yet to come.
pub data Turn {Row : Type 0} (rules : Rules) (n : Net) (reading : ℕ) :
    List (Waiting Row) → List (Waiting Row) → History Row → State Row → History Row → State Row → Type 0 where
  over : {kept : List (Waiting Row)} {h : History Row} {s : State Row} → Turn rules n reading kept [] h s h s
  -- the write goes on waiting
  waits :
      {kept rest : List (Waiting Row)} {w : Waiting Row} {h h' : History Row} {s s' : State Row} → Held n s w.file reading →
      Turn rules n reading (kept ++ (w ∷ [])) rest h s h' s' → Turn rules n reading kept (w ∷ rest) h s h' s'
  -- it takes effect
  acts :
      {kept rest : List (Waiting Row)} {w : Waiting Row} {h h' : History Row} {s s₁ s' : State Row} → Effects rules n s s₁ w reading kept rest →
      Turn rules n reading kept rest (effect w.station w.file w.number w.row ∷ h) s₁ h' s' → Turn rules n reading kept (w ∷ rest) h s h' s'
