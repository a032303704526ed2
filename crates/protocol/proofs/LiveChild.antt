-- If a relay gives a file up while a child's entry is live, some run breaks agreement: the child's copy is live.
-- Assumes nothing.
use Rattle.std.proofs.Common.{◌≡◌, ℕ, ◌≤◌, Bool, true, false, cond, eqb, refl, arith}
use Rattle.protocol.specs.Rules.{children_done, Rules, without}
use Rattle.protocol.specs.State.{State}
use Rattle.protocol.specs.Promises.{Agrees}
use Rattle.protocol.specs.Witnesses.{Broken}
use Rattle.protocol.proofs.Chain.{chain, both_hold, both_granted}
use Rattle.protocol.proofs.Approval.{approval, heard, replaced, replacement}

abbrev rules : Rules
rules = without children_done

-- two rows that differ
module _ {Row : Type 0} (empty other : Row) (differ : empty ≡ other → ⊥) where
  -- the relay and the station hold a copy until 1100
  abbrev s0 : State Row
  s0 = both_hold children_done empty

  -- the station is no child of the primary
  over : (c : ℕ) → chain.parent c ≡ 0 → (heard s0 other).entry 0 c ≤ 1000
  over c top = go (eqb c 1) (eqb c 2) top
    where
      go : (a b : Bool) → ◌≡◌ {A = ℕ} (cond b 1 0) 0 → cond a 0 (cond b 1100 (cond a 1100 0)) ≤ 1000
      go true b p = omega arith
      go false true p = absurd (omega (arith, p))
      go false false p = omega arith

  disagrees : ¬ Agrees chain (replaced s0 other)
  disagrees agrees =
      differ (agrees 2 0 empty 1 1100 1000 (omega arith) refl (record { late = omega arith; early = omega arith }) (omega arith)).row_is

  -- a write waits, and the file is recalled, given up and approved
  pub live_child_breaks : Broken (without children_done) Row empty
  live_child_breaks =
      record {
        net = chain;
        history = _;
        state = replaced s0 other;
        run =
            replacement s0 other
            (approval s0 (both_granted children_done empty) other (omega arith) refl (omega arith) 1000
            (record { late = omega arith; early = omega arith }) (λ e st p. omega arith) (λ e st p. tt))
            refl 1000 (record { late = omega arith; early = omega arith }) (omega arith) (λ c st top. over c top);
        disagrees = disagrees;
      }
