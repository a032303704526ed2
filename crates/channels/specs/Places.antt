-- What a store of 64 places holds. Assumes nothing.
use Rattle.std.specs.Prelude.{◌≡◌, cond, List, [], ◌∷◌, ◌++◌, length, Some, None, Option, nat_lt}

-- after a send; where all places are taken, it is lost
abbrev pub stored : {X : Type 0} → List X → X → List X
stored xs x = cond (nat_lt (length xs) 64) (xs ++ (x ∷ [])) xs

-- the oldest, and the others
abbrev pub first : {X : Type 0} → List X → Option X
first [] = None
first (x ∷ xs) = Some x

abbrev pub rest : {X : Type 0} → List X → List X
rest [] = []
rest (x ∷ xs) = xs

-- a take of the newest: what was held before, the answer, and what is left
abbrev pub NewestTaken : {X : Type 0} → List X → Option X → List X → Type 0
NewestTaken xs None ys = (xs ≡ []) × (ys ≡ [])
NewestTaken xs (Some x) ys = xs ≡ ys ++ (x ∷ [])
