-- Which messages a store holds after a send and after a take. Assumes nothing.
use Rattle.std.specs.Prelude.{◌≡◌, ℕ, Bool, true, false, cond, ◌⊎◌, List, [], ◌∷◌, ◌++◌, length, Some, None, Option, MatchOption, MatchBool, nat_lt, refl}
use Rattle.std.proofs.Common.{inl, inr, arith}
use mathlib.Core.List.Memᴰ
use mathlib.Core.List.{Memᴰ}
use Rattle.channels.specs.Places.{stored, first, rest}

module _ {X : Type 0} where
  pub none_held : (xs : List X) (x : X) → xs ≡ [] → Memᴰ x xs → ⊥
  none_held xs x none held = Memᴰ.not-nil (rw none at held)

  either : (room : Bool) (xs : List X) (m x : X) → Memᴰ x (cond room (xs ++ (m ∷ [])) xs) → Memᴰ x xs ⊎ (x ≡ m)
  either true xs m x held = elim (Memᴰ.append_cases xs held) [ inl old ↦ inl old | inr new ↦ inr (Memᴰ.eq_of_singleton new) ]
  either false xs m x held = inl held

  pub held_or_sent : (xs ys : List X) (m x : X) → ys ≡ stored xs m → Memᴰ x ys → Memᴰ x xs ⊎ (x ≡ m)
  held_or_sent xs ys m x sent held = either (nat_lt (length xs) 64) xs m x (rw sent at held)

  pub first_held : (xs : List X) (m : X) → Some m ≡ first xs → Memᴰ m xs
  first_held [] m e = absurd (let z : ◌≡◌ {A = ℕ} 0 1 = cc in let no_such : ⊥ = omega arith in no_such)
  first_held (x ∷ xs) m e = Memᴰ.head (let same : m ≡ x = cc in same)

  in_rest : (xs : List X) (x : X) → Memᴰ x (rest xs) → Memᴰ x xs
  in_rest [] x held = held
  in_rest (y ∷ xs) x held = Memᴰ.tail held

  pub rest_held : (xs ys : List X) (x : X) → ys ≡ rest xs → Memᴰ x ys → Memᴰ x xs
  rest_held xs ys x taken held = in_rest xs x (rw taken at held)

-- a fact by cases on a test
pub by_test : {P Q R : Type 0} (b : Bool) → MatchBool b P Q → (P → R) → (Q → R) → R
by_test true h yes_then no_then = yes_then h
by_test false h yes_then no_then = no_then h

-- a fact by cases on what may be there
pub by_some : {X : Type 0} (P : Type 0) (Q : X → Type 0) {R : Type 0} (o : Option X) → MatchOption o P Q → (o ≡ None → P → R) → ((x : X) → o ≡ Some x → Q x → R) → R
by_some P Q None h none_then some_then = none_then refl h
by_some P Q (Some x) h none_then some_then = some_then x refl h
