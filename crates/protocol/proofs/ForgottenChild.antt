-- If a relay gives a file up below its quiet mark, some run breaks agreement: it restarted, and forgot the child whose copy is live.
-- Assumes nothing.
use Rattle.std.proofs.Common.{◌≡◌, ℕ, ◌≤◌, Bool, true, false, cond, eqb, ◌⊎◌, refl, ap, inl, inr, arith}
use Rattle.protocol.specs.Rules.{quiet_mark, Rules, without}
use Rattle.protocol.specs.State.{State}
use Rattle.protocol.specs.Steps.{restarts}
use Rattle.protocol.specs.Runs.{Run, more}
use Rattle.protocol.specs.Promises.{Agrees}
use Rattle.protocol.specs.Witnesses.{Broken}
use Rattle.protocol.proofs.Put.{put2, put2_cases}
use Rattle.protocol.proofs.Successors.{restarting}
use Rattle.protocol.proofs.Enabled.{restarts_enabled}
use Rattle.protocol.proofs.Chain.{chain, relay_child, both_hold, both_told, both_granted}
use Rattle.protocol.proofs.Approval.{approval, heard, replaced, replacement}

abbrev rules : Rules
rules = without quiet_mark

-- two rows that differ
module _ {Row : Type 0} (empty other : Row) (differ : empty ≡ other → ⊥) where
  -- the relay and the station hold a copy until 1100; the relay restarts, and forgets the station's entry

  abbrev s0 : State Row
  s0 = both_hold quiet_mark empty

  abbrev s1 : State Row
  s1 = restarting s0 1 (put2 s0.entry 0 2 0) 1100

  cleared :
      (f child : ℕ) → (put2 s0.entry 0 2 0 f child ≡ s0.entry f child) ⊎ ((chain.parent child ≡ 1) × (put2 s0.entry 0 2 0 f child ≡ 0))
  cleared f child =
      elim (put2_cases s0.entry 0 2 0 f child) [ inl e ↦ inl e | inr e ↦ inr (ap chain.parent e.1, e.2) ]

  restarted : Run rules chain empty (both_told quiet_mark empty) s1
  restarted =
      more (both_granted quiet_mark empty)
      (restarts (restarts_enabled chain s0 1 1000 (put2 s0.entry 0 2 0) (omega arith) (record { late = omega arith; early = omega arith }) cleared))

  forgotten : (e : ℕ) → e ≡ 2 → s1.entry 0 e ≤ 1000
  forgotten e k = rw k (omega arith)

  over : (c : ℕ) → (heard s1 other).entry 0 c ≤ 1000
  over c = go (eqb c 1) (eqb c 2)
    where
      go : (a b : Bool) → cond a 0 (cond b 0 (cond b 1100 (cond a 1100 0))) ≤ 1000
      go true b = omega arith
      go false true = omega arith
      go false false = omega arith

  disagrees : ¬ Agrees chain (replaced s1 other)
  disagrees agrees =
      differ (agrees 2 0 empty 1 1100 1000 (omega arith) refl (record { late = omega arith; early = omega arith }) (omega arith)).row_is

  -- a write waits, and the file is recalled, given up and approved
  pub forgotten_child_breaks : Broken (without quiet_mark) Row empty
  forgotten_child_breaks =
      record {
        net = chain;
        history = _;
        state = replaced s1 other;
        run =
            replacement s1 other
            (approval s1 restarted other (omega arith) refl (omega arith) 1000 (record { late = omega arith; early = omega arith }) (λ e st p. tt)
            (λ e st p. forgotten e (relay_child e p)))
            refl 1000 (record { late = omega arith; early = omega arith }) (omega arith) (λ c st top. over c);
        disagrees = disagrees;
      }
