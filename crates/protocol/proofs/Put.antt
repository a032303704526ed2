-- A lookup of which one place is written.
-- Assumes nothing.
use Rattle.std.proofs.Common.{◌≡◌, ℕ, Bool, true, false, cond, eqb, ◌⊎◌, refl, inl, inr, eq-eqb, eqb-true}

abbrev pub put : {A : Type 0} → (ℕ → A) → ℕ → A → ℕ → A
put g i a d = cond (eqb d i) a (g d)

abbrev pub put2 : {A : Type 0} → (ℕ → ℕ → A) → ℕ → ℕ → A → ℕ → ℕ → A
put2 g i j a d e = cond (eqb d i) (put (g d) j a e) (g d e)

-- a place is as before, or the one written
pub put_cases : {A : Type 0} (g : ℕ → A) (i : ℕ) (a : A) (d : ℕ) → (put g i a d ≡ g d) ⊎ ((d ≡ i) × (put g i a d ≡ a))
put_cases g i a d = go (eqb d i) refl
  where
    go : (b : Bool) → eqb d i ≡ b → (cond b a (g d) ≡ g d) ⊎ ((d ≡ i) × (cond b a (g d) ≡ a))
    go true e = inr (eqb-true d i e, refl)
    go false e = inl refl

pub put2_cases :
    {A : Type 0} (g : ℕ → ℕ → A) (i j : ℕ) (a : A) (d e : ℕ) → (put2 g i j a d e ≡ g d e) ⊎ ((d ≡ i) × (e ≡ j) × (put2 g i j a d e ≡ a))
put2_cases g i j a d e = go (eqb d i) refl (put_cases (g d) j a e)
  where
    go :
        (b : Bool) → eqb d i ≡ b → (put (g d) j a e ≡ g d e) ⊎ ((e ≡ j) × (put (g d) j a e ≡ a)) →
        (cond b (put (g d) j a e) (g d e) ≡ g d e) ⊎ ((d ≡ i) × (e ≡ j) × (cond b (put (g d) j a e) (g d e) ≡ a))
    go true k (inl h) = inl h
    go true k (inr h) = inr (eqb-true d i k, h.0, h.1)
    go false k h = inl refl

-- at the place written is what was written
pub put_here : {A : Type 0} (g : ℕ → A) (i : ℕ) (a : A) → put g i a i ≡ a
put_here g i a = rw (eq-eqb i i refl) refl

pub put2_here : {A : Type 0} (g : ℕ → ℕ → A) (i j : ℕ) (a : A) → put2 g i j a i j ≡ a
put2_here g i j a = rw (eq-eqb i i refl, put_here (g i) j a) refl
