-- The primary's files are what the history makes of them.
-- Assumes nothing.
use Rattle.std.proofs.Common.{◌≡◌, ℕ, ◌+◌, List, [], ◌∷◌, sym, refl, ◌∙◌, inl, inr, arith}
use native.Mathlib.Decide.{ℕ_discrete}
use Rattle.protocol.specs.Lookups.{choose}
use Rattle.protocol.specs.Net.{Net}
use Rattle.protocol.specs.Rules.{sound}
use Rattle.protocol.specs.State.{Waiting, State, New}
use Rattle.protocol.specs.Events.{History, effect}
use Rattle.protocol.specs.Unchanged.{SameFiles}
use Rattle.protocol.specs.Writing.{Effects}
use Rattle.protocol.specs.Steps.{Step, note, passes, posts, restarts, opens, primary_grants, relay_grants, takes, yields, hears, submits, accepts, effects, ends}
use Rattle.protocol.specs.Story.{effects_on, row_on, Files}

pub new_files : {Row : Type 0} (empty : Row) (s : State Row) → New empty s → Files empty [] s
new_files empty s h = record { version = λ f. omega (arith, h.version f); row = h.row }

module _ {Row : Type 0} (n : Net) (empty : Row) (h : History Row) (s s' : State Row) where
  -- a step that is no effect leaves the files, and what the history makes of them
  same_files :
      {h' : History Row} → ((f : ℕ) → effects_on f h' ≡ effects_on f h) → ((f : ℕ) → row_on empty f h' ≡ row_on empty f h) →
      SameFiles s s' → Files empty h s → Files empty h' s'
  same_files ev er fs i =
      record {
        version = λ f. omega (arith, fs.version f, i.version f, ev f);
        row = λ f. fs.row f ∙ (i.row f ∙ sym (er f));
      }

  effects_files :
      {w₀ : Waiting Row} {r₀ : ℕ} {b₀ a₀ : List (Waiting Row)} → Effects sound n s s' w₀ r₀ b₀ a₀ → Files empty h s →
      Files empty (effect w₀.station w₀.file w₀.number w₀.row ∷ h) s'
  effects_files {w₀} a i = record { version = λ f. version f (ℕ_discrete w₀.file f); row = λ f. row f (ℕ_discrete w₀.file f) }
    where
      version : (f : ℕ) (d : Dec (w₀.file ≡ f)) → s'.version f ≡ 1 + choose d (effects_on f h + 1) (effects_on f h)
      version f (yes e) =
          let v : s'.version f ≡ s.version f + 1 = rw e at a.version_now in
          omega (arith, i.version f)
      version f (no e) = elim (a.version f) [ inl k ↦ k ∙ i.version f | inr k ↦ absurd (e (sym k)) ]

      row : (f : ℕ) (d : Dec (w₀.file ≡ f)) → s'.row f ≡ choose d w₀.row (row_on empty f h)
      row f (yes e) = rw e at a.row_now
      row f (no e) = elim (a.row f) [ inl k ↦ k ∙ i.row f | inr k ↦ absurd (e (sym k)) ]

  pub step_files : (a : Step sound n h s s') → Files empty h s → Files empty (note a) s'
  step_files (passes a) i = same_files (λ f. refl) (λ f. refl) a.files i
  step_files (posts a) i = same_files (λ f. refl) (λ f. refl) a.files i
  step_files (restarts a) i = same_files (λ f. refl) (λ f. refl) a.files i
  step_files (opens a) i = same_files (λ f. refl) (λ f. refl) a.files i
  step_files (primary_grants a) i = same_files (λ f. refl) (λ f. refl) a.grants.files i
  step_files (relay_grants a) i = same_files (λ f. refl) (λ f. refl) a.grants.files i
  step_files (takes a) i = same_files (λ f. refl) (λ f. refl) a.files i
  step_files (yields a) i = same_files (λ f. refl) (λ f. refl) a.files i
  step_files (hears a) i = same_files (λ f. refl) (λ f. refl) a.files i
  step_files (submits a) i = same_files (λ f. refl) (λ f. refl) a.files i
  step_files (accepts a) i = same_files (λ f. refl) (λ f. refl) a.files i
  step_files (effects a) i = effects_files a i
  step_files (ends a) i = same_files (λ f. refl) (λ f. refl) a.files i
