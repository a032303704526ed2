-- A turn of the primary is some steps in a row, after which each waiting write is held back.
-- Assumes nothing.
use Rattle.std.proofs.Common.{◌≡◌, ℕ, ◌<◌, ◌⊎◌, List, [], ◌∷◌, ◌++◌, sym, refl, ap, ◌∙◌, subst, inl, inr, append_assoc, arith}
use mathlib.Core.List.Memᴰ
use Rattle.protocol.specs.Lookups.{In}
use Rattle.protocol.specs.Net.{Net}
use Rattle.protocol.specs.Rules.{sound}
use Rattle.protocol.specs.State.{Waiting, State, Reads}
use Rattle.protocol.specs.Events.{History}
use Rattle.protocol.specs.Passing.{Passes}
use Rattle.protocol.specs.Writing.{Effects}
use Rattle.protocol.specs.Steps.{passes, effects}
use Rattle.protocol.specs.Runs.{Steps, none, next}
use Rattle.protocol.specs.Calls.{Held, Turned, Calls, Turn, over, waits, acts}
use Rattle.protocol.proofs.Lookups.{not_in}

-- what a turn comes to
pub record Taken {Row : Type 0} (n : Net) (h : History Row) (s : State Row) (h' : History Row) (s' : State Row) : Type 0 where
  pub steps : Steps sound n h s h' s'
  pub turned : Turned n s'

-- an effect leaves what holds the other writes back
still_held :
    {Row : Type 0} (n : Net) (s s' : State Row) {w : Waiting Row} {r : ℕ} {b a : List (Waiting Row)} → Effects sound n s s' w r b a → (f : ℕ) →
    Held n s f r → Held n s' f r
still_held n s s' {w} {r} a f k = record { child = k.child; known = k.known; below = k.below; live = go (a.entry f k.child) }
  where
    go :
        (s'.entry f k.child ≡ s.entry f k.child) ⊎ ((f ≡ w.file) × (n.parent k.child ≡ 0) × (s'.entry f k.child ≡ 0)) →
        r < s'.entry f k.child
    go (inl e) = omega (arith, k.live)
    go (inr e) =
        let l : s.entry f k.child ≡ s.entry w.file k.child = ap (λ g. s.entry g k.child) e.0 in
        absurd (omega (arith, k.live, a.ended k.child k.known k.below))

pub turn_taken :
    {Row : Type 0} {n : Net} {r : ℕ} {h₀ : History Row} {s₀ : State Row} {kept todo : List (Waiting Row)}
    {h : History Row} {s : State Row} {h' : History Row} {s' : State Row} → Turn sound n r kept todo h s h' s' →
    Steps sound n h₀ s₀ h s → s.waiting ≡ kept ++ todo → ((w : Waiting Row) → In w kept → Held n s w.file r) → Reads n s 0 r →
    Taken n h₀ s₀ h' s'
turn_taken {r = r} {kept = kept} over so e held reads =
    record {
      steps = so;
      turned = record {
        reading = r;
        reads = reads;
        held = λ w m.
            elim (Memᴰ.append_cases kept (subst (λ l. In w l) e m)) [ inl b ↦ held w b | inr b ↦ absurd (not_in refl b) ];
      };
    }
turn_taken {n = n} {r = r} {kept = kept} {s = s} (waits {rest = rest} {w = w} k t) so e held reads =
    turn_taken t so (e ∙ sym (append_assoc kept (w ∷ []) rest))
    (λ v m.
    elim (Memᴰ.append_cases kept m) [
      | inl b ↦ held v b
      | inr b ↦ subst (λ u. Held n s u.file r) (sym (Memᴰ.eq_of_singleton b)) k
    ])
    reads
turn_taken {n = n} {r = r} {s = s} (acts {s₁ = s₁} a t) so e held reads =
    turn_taken t (next so (effects a)) a.waiting (λ w m. still_held n s s₁ a w.file (held w m))
    (record { late = omega (arith, reads.late, a.time); early = omega (arith, reads.early, a.time) })

-- a pass: true time grows, then the primary takes its turn
pub pass_call :
    {Row : Type 0} {n : Net} {empty : Row} {r : ℕ} {h : History Row} {s s₁ : State Row} {h' : History Row} {s' : State Row} →
    Calls sound n empty h s → Passes s s₁ → Reads n s₁ 0 r → Turn sound n r [] s₁.waiting h s₁ h' s' → Calls sound n empty h' s'
pass_call c p reads t =
    let k = turn_taken t (next none (passes p)) refl (λ w m. absurd (not_in refl m)) reads in
    Calls.turn c k.steps k.turned
