-- How a course begins, and how time passes on it. Assumes nothing.
use Rattle.std.specs.Prelude.{◌≡◌, ℕ, ◌+◌}
use Rattle.clocks.specs.declared.course.Course.{Course}

-- at the first tick, with this drift bound
abbrev pub Begins : ℕ → Course → Type 0
Begins drift course = (course.time ≡ 1000) × (course.drift.ticks ≡ drift)

-- so many ticks later, with the same drift bound
abbrev pub Passes : Course → ℕ → Course → Type 0
Passes before ticks after = (after.time ≡ before.time + ticks) × (after.drift ≡ before.drift)
