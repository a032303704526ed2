-- Every event of a history happened at a moment of its run.
-- Assumes nothing.
use Rattle.std.proofs.Common.{◌≡◌, ◌⊎◌, [], ◌∷◌, Some, None, Option, sym, refl, subst, inl, inr}
use mathlib.Core.List.Memᴰ
use Rattle.protocol.specs.Lookups.{In}
use Rattle.protocol.specs.Net.{Net}
use Rattle.protocol.specs.Rules.{Rules}
use Rattle.protocol.specs.State.{State}
use Rattle.protocol.specs.Events.{Event, History, noted, At, now, before}
use Rattle.protocol.specs.Steps.{told}
use Rattle.protocol.specs.Runs.{Run, new, more, Happened}
use Rattle.protocol.proofs.Lookups.{clash}

-- what went before an event stands in the history
pub past_in : {Row : Type 0} {e d : Event Row} {g h : History Row} → At e g h → In d g → In d h
past_in now m = Memᴰ.tail m
past_in (before p) m = Memᴰ.tail (past_in p m)

-- and before what came later
pub at_past : {Row : Type 0} {e d : Event Row} {u g h : History Row} → At d g h → At e u g → At e u h
at_past now p = before p
at_past (before q) p = before (at_past q p)

pub record Stood {Row : Type 0} (e : Event Row) (h : History Row) : Type 0 where
  pub past : History Row
  pub at : At e past h

-- an event in a history stands there after some others
pub in_at : {Row : Type 0} {e : Event Row} {h : History Row} → In e h → Stood e h
in_at {Row} {e} {h} m = go h m
  where
    go : (h : History Row) → In e h → Stood e h
    go [] i = elim i [ ]
    go (d ∷ h) i =
        elim (Memᴰ.cases_cons i) [
          | inl k ↦ record { past = h; at = subst (λ (d : Event Row). At e h (d ∷ h)) k now }
          | inr k ↦ let r = go h k in record { past = r.past; at = before r.at }
        ]

-- an event after an action is what it told or stood there before
noted_at : {Row : Type 0} (o : Option (Event Row)) {e : Event Row} {g h : History Row} → At e g (noted o h) → ((o ≡ Some e) × (g ≡ h)) ⊎ At e g h
noted_at None p = inr p
noted_at (Some d) now = inl (refl, refl)
noted_at (Some d) (before p) = inr p

at_noted : {Row : Type 0} (o : Option (Event Row)) {e : Event Row} {h : History Row} → o ≡ Some e → At e h (noted o h)
at_noted {Row} None {e} {h} k = clash (cc)
at_noted {Row} (Some d) {e} {h} k = let i : d ≡ e = cc in subst (λ (x : Event Row). At e h (x ∷ h)) (sym i) now

at_older : {Row : Type 0} (o : Option (Event Row)) {e : Event Row} {g h : History Row} → At e g h → At e g (noted o h)
at_older None p = p
at_older (Some d) p = before p

pub record Moment {Row : Type 0} {rules : Rules} {n : Net} {empty : Row} {h : History Row} {s : State Row}
    (run : Run rules n empty h s) (e : Event Row) (past : History Row) : Type 0 where
  pub then : State Row
  pub happened : Happened run e past then

pub at_moment :
    {Row : Type 0} {rules : Rules} {n : Net} {empty : Row} {h : History Row} {s : State Row} (run : Run rules n empty h s)
    (e : Event Row) (past : History Row) → At e past h → Moment run e past
at_moment (new i) e past p = elim p [ ]
at_moment (more {s = s} run a) e past p =
    elim (noted_at (told a) p) [
      | inl k ↦ record { then = s; happened = inl (k.0, k.1, refl) }
      | inr k ↦ let m = at_moment run e past k in record { then = m.then; happened = inr m.happened }
    ]

pub moment_at :
    {Row : Type 0} {rules : Rules} {n : Net} {empty : Row} {h : History Row} {s : State Row} (run : Run rules n empty h s)
    (e : Event Row) (past : History Row) (then : State Row) → Happened run e past then → At e past h
moment_at (new i) e past then m = absurd m
moment_at {Row} (more {h =
    h} run a) e past then (inl k) = subst (λ (g : History Row). At e g (noted (told a) h)) (sym k.1) (at_noted (told a) k.0)
moment_at (more run a) e past then (inr k) = at_older (told a) (moment_at run e past then k)
