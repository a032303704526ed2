-- What a repeat filter gives came from below. Assumes nothing.
use Rattle.std.specs.Prelude.{◌≡◌, List, Some, Option, refl}
use Rattle.channels.specs.Filter.{Filtered, fresh}

pub given_came : {X : Type 0} (given : List X) (came : Option X) (m : X) (after : List X) → Filtered given came (Some m) after → came ≡ Some m
given_came given came m after (fresh x new) = refl
