-- The beginning of a run: below the primary stands a relay, below the relay a station, and both hold a copy until 1100.
-- Assumes nothing.
use Rattle.std.proofs.Common.{◌≡◌, ℕ, ◌<◌, Bool, true, false, cond, eqb, ◌∷◌, refl, arith, eqb-true}
use mathlib.Core.List.Memᴰ
use Rattle.protocol.specs.Net.{Net}
use Rattle.protocol.specs.Rules.{Rules, Guard, without}
use Rattle.protocol.specs.Messages.{ASK}
use Rattle.protocol.specs.State.{State}
use Rattle.protocol.specs.Events.{History, opened, granted, fetched}
use Rattle.protocol.specs.Passing.{ask}
use Rattle.protocol.specs.Steps.{posts, opens, relay_grants, takes}
use Rattle.protocol.specs.Runs.{Run, more}
use Rattle.protocol.proofs.Successors.{posting, opening, granting, taking}
use Rattle.protocol.proofs.Enabled.{awaited_anyway, posts_enabled, opens_enabled, relay_grants_enabled, takes_enabled}
use Rattle.protocol.proofs.FirstGrant.{first_granted, first_told, first_grant}

-- node 2 stands below node 1, every other below the primary; exact clocks
abbrev pub chain : Net
chain = record { size = 3; parent = λ c. cond (eqb c 2) 1 0; down = λ c. below c (eqb c 2) refl; bound = λ p. 0; longest = 100 }
  where
    below : (c : ℕ) (b : Bool) → eqb c 2 ≡ b → 0 < c → cond b 1 0 < c
    below c true e st = let two : c ≡ 2 = eqb-true c 2 e in omega arith
    below c false e st = st

-- the one station below the relay
pub relay_child : (e : ℕ) → chain.parent e ≡ 1 → e ≡ 2
relay_child e = go (eqb e 2) refl
  where
    go : (b : Bool) → eqb e 2 ≡ b → ◌≡◌ {A = ℕ} (cond b 1 0) 1 → e ≡ 2
    go true k p = eqb-true e 2 k
    go false k p = absurd (omega (arith, p))

-- under any rules that leave out one guard
module _ {Row : Type 0} (guard : Guard) (empty : Row) where
  abbrev rules : Rules
  rules = without guard

  -- the relay asks, and is granted

  abbrev s0 : State Row
  s0 = first_granted rules empty 1000 1000 1000 100

  abbrev s1 : State Row
  s1 = taking rules chain s0 1 0 1000 empty 1 100

  -- the station asks the relay, and is granted

  abbrev s2 : State Row
  s2 = opening s1 2 0 1000

  abbrev s3 : State Row
  s3 = posting s2 (ASK 2 0 1)

  abbrev s4 : State Row
  s4 = granting rules s3 2 0 1 1000 empty 1 100

  abbrev pub both_hold : State Row
  both_hold = taking rules chain s4 2 0 1000 empty 1 100

  abbrev pub both_told : History Row
  both_told =
      fetched 2 0 1 empty 1 ∷ (granted 2 0 1 empty 1 ∷ (opened 2 0 1 1000 ∷ (fetched 1 0 1 empty 1 ∷ first_told empty 1000)))

  pub both_granted : Run rules chain empty both_told both_hold
  both_granted =
      more (more (more (more (more
      (first_grant rules chain empty 1000 1000 1000 100 refl (record { late = omega arith; early = omega arith })
      (record { late = omega arith; early = omega arith }) (omega arith))
      (takes (takes_enabled chain s0 rules _ 1 0 1 1000 empty 1 100 (Memᴰ.head refl)
      (awaited_anyway rules _ s0 1 0 1 1000 refl (Memᴰ.tail (Memᴰ.head refl))))))
      (opens (opens_enabled chain s1 2 0 1000 (record { late = omega arith; early = omega arith }))))
      (posts (posts_enabled chain s2 (ASK 2 0 1) (ask refl))))
      (relay_grants (relay_grants_enabled chain s3 rules 2 0 1 1000 empty 1 100 1100 (omega arith) (omega arith) (Memᴰ.head refl)
      (record { late = omega arith; early = omega arith })
      (omega arith) refl (omega arith) (omega arith))))
      (takes (takes_enabled chain s4 rules _ 2 0 1 1000 empty 1 100 (Memᴰ.head refl)
      (awaited_anyway rules _ s4 2 0 1 1000 refl (Memᴰ.tail (Memᴰ.head refl)))))
