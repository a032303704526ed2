-- If the end of a new term takes the place of the entry, some run breaks agreement: a second ask with a short term cuts the entry
-- under the first copy.
-- Assumes nothing.
use Rattle.std.proofs.Common.{◌≡◌, ℕ, ◌≤◌, Bool, true, false, cond, eqb, ◌∷◌, refl, arith}
use mathlib.Core.List.Memᴰ
use Rattle.protocol.specs.Rules.{overwritten_entry}
use Rattle.protocol.specs.Messages.{ASK}
use Rattle.protocol.specs.State.{State}
use Rattle.protocol.specs.Events.{opened, granted, fetched}
use Rattle.protocol.specs.Passing.{ask}
use Rattle.protocol.specs.Steps.{posts, opens, primary_grants, takes}
use Rattle.protocol.specs.Runs.{Run, more}
use Rattle.protocol.specs.Witnesses.{Broken}
use Rattle.protocol.proofs.Lookups.{not_in}
use Rattle.protocol.proofs.Successors.{posting, opening, granting, taking}
use Rattle.protocol.proofs.Enabled.{posts_enabled, opens_enabled, primary_grants_enabled, takes_enabled}
use Rattle.protocol.proofs.FirstGrant.{exact, first_granted, first_told, first_grant}
use Rattle.protocol.proofs.Rewriting.{broken_by_write}

-- two rows that differ
module _ {Row : Type 0} (empty other : Row) (differ : empty ≡ other → ⊥) where
  -- the station asked, the primary granted for 100 ticks, and the station holds a copy until 1100

  abbrev s0 : State Row
  s0 = first_granted overwritten_entry empty 1000 1000 1000 100

  abbrev s1 : State Row
  s1 = taking overwritten_entry exact s0 1 0 1000 empty 1 100

  -- it asks again, and the primary grants for 10 ticks; that GRANT is never taken

  abbrev s2 : State Row
  s2 = opening s1 1 0 1000

  abbrev s3 : State Row
  s3 = posting s2 (ASK 1 0 2)

  abbrev s4 : State Row
  s4 = granting overwritten_entry s3 1 0 2 1000 empty 1 10

  run :
      Run overwritten_entry exact empty
      (granted 1 0 2 empty 1 ∷ (opened 1 0 2 1000 ∷ (fetched 1 0 1 empty 1 ∷ first_told empty 1000))) s4
  run =
      more (more (more (more
      (first_grant overwritten_entry exact empty 1000 1000 1000 100 refl (record { late = omega arith; early = omega arith })
      (record { late = omega arith; early = omega arith }) (omega arith))
      (takes (takes_enabled exact s0 overwritten_entry (first_told empty 1000) 1 0 1 1000 empty 1 100 (Memᴰ.head refl) refl)))
      (opens (opens_enabled exact s1 1 0 1000 (record { late = omega arith; early = omega arith }))))
      (posts (posts_enabled exact s2 (ASK 1 0 2) (ask refl))))
      (primary_grants (primary_grants_enabled exact s3 overwritten_entry 1 0 2 1000 10 (omega arith) refl (Memᴰ.head refl)
      (record { late = omega arith; early = omega arith }) (omega arith) (λ w. not_in refl w.waits)))

  over : (c : ℕ) → s4.entry 0 c ≤ 1010
  over c = go (eqb c 1)
    where
      go : (b : Bool) → cond b 1010 (cond b 1100 0) ≤ 1010
      go true = omega arith
      go false = omega arith

  -- the entry is over at 1010
  pub overwritten_entry_breaks : Broken overwritten_entry Row empty
  overwritten_entry_breaks =
      broken_by_write s4 run other differ (omega arith) (omega arith) refl 1010 1010 (omega arith)
      (record { late = omega arith; early = omega arith })
      (omega arith) (λ c st top. over c) 1 1 1100 1010 (omega arith) refl (record { late = omega arith; early = omega arith }) (omega arith)
