-- The name of a longest term for the clauses of callers, since an alias has none there. Assumes nothing.
use Rattle.ticks.specs.declared.UpTo.{UpTo}

abbrev pub LongestTerm : Type 0
LongestTerm = UpTo 60000
