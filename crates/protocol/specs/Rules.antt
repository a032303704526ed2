-- The rules on which the safety of a lease turns: two amounts and seven guards, as the protocol has them, and altered.
-- Assumes nothing.
use Rattle.std.specs.Prelude.{ℕ, ◌+◌, ◌-◌, ◌*◌, max, Bool, true, false, not, ◌==◌}
use Rattle.protocol.specs.Net.{Net}

-- The guards of the actions that agreement rests on.
pub data Guard : Type 0 where
  -- a GRANT acts only while its ask is open, so that none acts after the station gave the file up
  open_ask : Guard
  -- and only if it has that ask's number, so that its term is counted from the reading that it was asked at
  own_number : Guard
  -- the primary grants nothing on a file on which a write waits, so that an approval for that write stays true
  no_write_waits : Guard
  -- an APPROVE counts only for the file's next version, so that none of an earlier write clears a later entry
  next_version : Guard
  -- a relay gives nothing up below its quiet mark, since it may have forgotten what it granted
  quiet_mark : Guard
  -- nor while a child's entry on the file is live
  children_done : Guard
  -- a write takes effect only when no entry on its file is live
  entries_done : Guard

-- The seven guards, told apart by number.
abbrev number_of : Guard → ℕ
number_of open_ask = 0
number_of own_number = 1
number_of no_write_waits = 2
number_of next_version = 3
number_of quiet_mark = 4
number_of children_done = 5
number_of entries_done = 6

-- What the actions leave open, so that altered rules can be told from the protocol's.
pub record Rules : Type 0 where
  -- what a run-out leaves off, given the drift bound of the station and that of its parent, so that a copy is dead before its entry is over
  pub margin : ℕ → ℕ → ℕ
  -- an entry after a grant, given the entry before it and the end of the new term; it must hold the copies of both grants
  pub joined : ℕ → ℕ → ℕ
  -- whether a guard is kept
  pub keeps : Guard → Bool

-- The protocol's rules: twice both bounds, the later end, every guard.
abbrev pub sound : Rules
sound = record { margin = λ station parent. 2 * station + 2 * parent; joined = max; keeps = λ guard. true }

-- Altered rules: another margin.
abbrev pub with_margin : (ℕ → ℕ → ℕ) → Rules
with_margin margin = record { margin = margin; joined = max; keeps = λ guard. true }

-- Altered rules: three bounds where the protocol leaves off four.
abbrev pub narrow_margin : Rules
narrow_margin = with_margin (λ station parent. 2 * station + parent)

-- Altered rules: the end of a new term takes the place of the entry, be it earlier or later.
abbrev pub overwritten_entry : Rules
overwritten_entry = record { margin = λ station parent. 2 * station + 2 * parent; joined = λ old end. end; keeps = λ guard. true }

-- Altered rules: every guard but one.
abbrev pub without : Guard → Rules
without left_out =
    record { margin = λ station parent. 2 * station + 2 * parent; joined = max; keeps = λ guard. not (number_of guard == number_of left_out) }

-- A guard as the rules have it: what it says, or nothing.
abbrev pub Kept : Bool → Type 0 → Type 0
Kept true says = says
Kept false says = Unit {0}

-- The run-out of a copy: the ask's reading and the term, less the margin of the two clocks between which it was agreed.
abbrev pub run_out : Rules → Net → ℕ → ℕ → ℕ → ℕ
run_out rules n station reading term = (reading + term) - rules.margin (n.bound station) (n.bound (n.parent station))
