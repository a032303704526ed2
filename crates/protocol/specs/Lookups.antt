-- Lookups and lists, compared place by place.
-- Assumes nothing.
use Rattle.std.specs.Prelude.{◌≡◌, ℕ, List}
use mathlib.Core.List.{Memᴰ}

-- the list has this element
abbrev pub In {ℓ} : {A : Type ℓ} → A → List A → Type ℓ
In a l = Memᴰ a l

-- two lookups give the same at each place; no equality of functions is asked for
abbrev pub Same : {A : Type 0} → (ℕ → A) → (ℕ → A) → Type 0
Same old new = (i : ℕ) → new i ≡ old i

-- the same of lookups by two numbers
abbrev pub Same2 : {A : Type 0} → (ℕ → ℕ → A) → (ℕ → ℕ → A) → Type 0
Same2 old new = (i j : ℕ) → new i j ≡ old i j

-- one of two values, by a test that was decided
abbrev pub choose : {A B : Type 0} → Dec A → B → B → B
choose (yes e) a b = a
choose (no e) a b = b
