-- What a repeat filter gives of what came from below, and what it remembers then. Assumes nothing.
use Rattle.std.specs.Prelude.{cond, List, [], ◌∷◌, ◌++◌, length, drop, Some, None, Option, ◌==◌}
use Rattle.std.specs.List.{ContainsAt as Has}

-- the last four that were given, the newest last
abbrev pub remembered : {X : Type 0} → List X → X → List X
remembered given x = cond (length given == 4) (drop 1 given) given ++ (x ∷ [])

pub data Filtered {X : Type 0} (given : List X) : (came answer : Option X) (after : List X) → Type 0 where
  -- nothing came
  nothing : Filtered given None None given
  -- one of the last four came again: it is swallowed, and not remembered
  again : (x : X) → Has given x → Filtered given (Some x) None given
  -- any other is given, and remembered
  fresh : (x : X) → (Has given x → ⊥) → Filtered given (Some x) (Some x) (remembered given x)
