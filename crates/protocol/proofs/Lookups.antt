-- What follows from lookups and membership alone.
-- Assumes nothing.
use Rattle.std.proofs.Common.{◌≡◌, ℕ, ◌⊎◌, List, [], ◌∷◌, ◌++◌, Some, None, Option, sym, ◌∙◌, subst, inl, inr, arith}
use mathlib.Core.List.Memᴰ
use Rattle.protocol.specs.Lookups.{In, Same2}

-- from two things that can't be equal anything follows; `clash (cc)` finds them
pub clash : {A : Type 0} → ◌≡◌ {A = ℕ} 0 1 → A
clash z = absurd (omega arith)

-- each place of a lookup is as before or empty
abbrev pub Shrinks : {A : Type 0} → (ℕ → ℕ → Option A) → (ℕ → ℕ → Option A) → Type 0
Shrinks old new = (i j : ℕ) → (new i j ≡ old i j) ⊎ (new i j ≡ None)

pub same_shrinks : {A : Type 0} {old new : ℕ → ℕ → Option A} → Same2 old new → Shrinks old new
same_shrinks same i j = inl (same i j)

-- what is left of a law, without the place
pub then_one : {A B C : Type 0} → A ⊎ (B × C) → A ⊎ C
then_one (inl a) = inl a
then_one (inr b) = inr b.1

pub then_two : {A B C D : Type 0} → A ⊎ (B × C × D) → A ⊎ D
then_two (inl a) = inl a
then_two (inr b) = inr b.2

pub then_three : {A B C D E : Type 0} → A ⊎ (B × C × D × E) → A ⊎ E
then_three (inl a) = inl a
then_three (inr b) = inr b.3

-- of an optional thing that stayed or went, what is there was there
pub was : {A : Type 0} {o o' : Option A} {a : A} → (o' ≡ o) ⊎ (o' ≡ None) → o' ≡ Some a → o ≡ Some a
was (inl e) h = sym e ∙ h
was (inr e) h = clash (cc)

pub not_some : {A : Type 0} {a : A} {o : Option A} → o ≡ None → o ≡ Some a → ⊥
not_some e h = clash (cc)

pub not_in : {A : Type 0} {a : A} {l : List A} → l ≡ [] → In a l → ⊥
not_in {a = a} e m = gone (subst (λ l. In a l) e m)
  where
    gone : In a [] → ⊥
    gone h = elim h [ ]

-- what is not the first of a list stands after it
pub in_rest : {A : Type 0} {a b : A} {l : List A} → (a ≡ b → ⊥) → In a (b ∷ l) → In a l
in_rest other m = elim (Memᴰ.cases_cons m) [ inl e ↦ absurd (other e) | inr i ↦ i ]

-- of a list without one of its elements, all but that one are left
pub left_without : {A : Type 0} (before after : List A) (w v : A) → In v (before ++ (w ∷ after)) → In v (before ++ after) ⊎ (v ≡ w)
left_without before after w v m = go (Memᴰ.append_cases before m)
  where
    go : In v before ⊎ In v (w ∷ after) → In v (before ++ after) ⊎ (v ≡ w)
    go (inl b) = inl (Memᴰ.append_left after b)
    go (inr b) = elim (Memᴰ.cases_cons b) [ inl e ↦ inr e | inr c ↦ inl (Memᴰ.append_right before c) ]

-- and each that is left was there
pub was_with : {A : Type 0} (before after : List A) (w v : A) → In v (before ++ after) → In v (before ++ (w ∷ after))
was_with before after w v m =
    elim (Memᴰ.append_cases before m) [
      | inl h ↦ Memᴰ.append_left (w ∷ after) h
      | inr h ↦ Memᴰ.append_right before (Memᴰ.tail h)
    ]
