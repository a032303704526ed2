-- If a GRANT acts on an ask of another number, some run breaks agreement: its term is counted from a later reading than it was asked at.
-- Assumes nothing.
use Rattle.std.proofs.Common.{◌≡◌, ℕ, ◌≤◌, Bool, true, false, cond, eqb, ◌∷◌, refl, inl, arith}
use mathlib.Core.List.Memᴰ
use Rattle.protocol.specs.Rules.{own_number, Rules, without}
use Rattle.protocol.specs.State.{State}
use Rattle.protocol.specs.Events.{opened, fetched}
use Rattle.protocol.specs.Steps.{passes, restarts, opens, takes}
use Rattle.protocol.specs.Runs.{Run, more}
use Rattle.protocol.specs.Witnesses.{Broken}
use Rattle.protocol.proofs.Successors.{passing, opening, taking, restarting}
use Rattle.protocol.proofs.Enabled.{passes_enabled, opens_enabled, takes_enabled, restarts_enabled}
use Rattle.protocol.proofs.FirstGrant.{exact, first_granted, first_told, first_grant}
use Rattle.protocol.proofs.Rewriting.{broken_by_write}

abbrev rules : Rules
rules = without own_number

-- two rows that differ
module _ {Row : Type 0} (empty other : Row) (differ : empty ≡ other → ⊥) where
  -- the station asked at 1000, and the primary granted until 1100
  abbrev s0 : State Row
  s0 = first_granted rules empty 1000 1000 1000 100

  -- the station restarts, and at 1050 asks anew; it takes the first GRANT for the second ask, until 1150

  abbrev s1 : State Row
  s1 = restarting s0 1 s0.entry 1100

  abbrev s2 : State Row
  s2 = passing s1 1050

  abbrev s3 : State Row
  s3 = opening s2 1 0 1050

  abbrev s4 : State Row
  s4 = taking rules exact s3 1 0 1050 empty 1 100

  run : Run rules exact empty (fetched 1 0 1 empty 1 ∷ (opened 1 0 2 1050 ∷ first_told empty 1000)) s4
  run =
      more (more (more (more
      (first_grant rules exact empty 1000 1000 1000 100 refl (record { late = omega arith; early = omega arith })
      (record { late = omega arith; early = omega arith }) (omega arith))
      (restarts (restarts_enabled exact s0 1 1000 s0.entry (omega arith) (record { late = omega arith; early = omega arith }) (λ f c. inl refl))))
      (passes (passes_enabled exact s1 1050 (omega arith))))
      (opens (opens_enabled exact s2 1 0 1050 (record { late = omega arith; early = omega arith }))))
      (takes (takes_enabled exact s3 rules _ 1 0 1 1050 empty 1 100 (Memᴰ.head refl) (2, refl)))

  over : (c : ℕ) → s4.entry 0 c ≤ 1100
  over c = go (eqb c 1)
    where
      go : (b : Bool) → cond b 1100 0 ≤ 1100
      go true = omega arith
      go false = omega arith

  -- the entry is over at 1100
  pub other_number_breaks : Broken (without own_number) Row empty
  other_number_breaks =
      broken_by_write s4 run other differ (omega arith) (omega arith) refl 1100 1100 (omega arith)
      (record { late = omega arith; early = omega arith })
      (omega arith) (λ c st top. over c) 1 1 1150 1100 (omega arith) refl (record { late = omega arith; early = omega arith }) (omega arith)
