-- Runs: any number of steps from a new network, with what they told; and the moments of a run.
-- Assumes nothing.
use Rattle.std.specs.Prelude.{◌≡◌, ◌⊎◌, [], Some}
use Rattle.protocol.specs.Net.{Net}
use Rattle.protocol.specs.Rules.{Rules}
use Rattle.protocol.specs.State.{State, New}
use Rattle.protocol.specs.Events.{Event, History}
use Rattle.protocol.specs.Steps.{Step, told, note}

-- A run from a new network to a state, with its history.
pub data Run {Row : Type 0} (rules : Rules) (n : Net) (empty : Row) : History Row → State Row → Type 0 where
  new : {s : State Row} → New empty s → Run rules n empty [] s
  more :
      {h : History Row} {s s' : State Row} → Run rules n empty h s → (a : Step rules n h s s') → Run rules n empty (note a) s'

-- Steps in a row, from a state with its history to another.
pub data Steps {Row : Type 0} (rules : Rules) (n : Net) (h : History Row) (s : State Row) : History Row → State Row → Type 0 where
  none : Steps rules n h s h s
  next :
      {g : History Row} {t t' : State Row} → Steps rules n h s g t → (a : Step rules n g t t') → Steps rules n h s (note a) t'

-- A moment of a run: the event happened in the state then, after the events of past.
abbrev pub Happened :
    {Row : Type 0} {rules : Rules} {n : Net} {empty : Row} {h : History Row} {s : State Row} → Run rules n empty h s →
    Event Row → History Row → State Row → Type 0
Happened (new i) event past then = ⊥
Happened (more {h = h} {s = s} run a) event past then =
    ((told a ≡ Some event) × (past ≡ h) × (then ≡ s)) ⊎ Happened run event past then

-- A run that goes on is a run.
abbrev pub steps_run :
    {Row : Type 0} {rules : Rules} {n : Net} {empty : Row} {h : History Row} {s : State Row} {h' : History Row} {s' : State Row} →
    Run rules n empty h s → Steps rules n h s h' s' → Run rules n empty h' s'
steps_run run none = run
steps_run run (next steps a) = more (steps_run run steps) a
