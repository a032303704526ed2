-- The name of a drift bound for the clauses of callers, since an alias has none there. Assumes nothing.
use Rattle.ticks.specs.declared.UpTo.{UpTo}

abbrev pub DriftBound : Type 0
DriftBound = UpTo 1000
