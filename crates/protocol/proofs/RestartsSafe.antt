-- A restart keeps the safety invariant: the new quiet mark holds what the entries held.
-- Assumes nothing.
use Rattle.std.proofs.Common.{◌≡◌, ℕ, ◌+◌, ◌≤◌, ◌⊎◌, ap, inl, inr, arith}
use Rattle.protocol.specs.Net.{Net}
use Rattle.protocol.specs.State.{State}
use Rattle.protocol.specs.Passing.{Restarts}
use Rattle.protocol.proofs.Lookups.{then_one}
use Rattle.protocol.proofs.Invariant.{reach, Link, Safe}
use Rattle.protocol.proofs.Carries.{Carries, fewer_carries}
use Rattle.protocol.proofs.Frames.{lost, KeepsLive, covered_kept, same_onward, kept_safe}

module _ {Row : Type 0} (n : Net) (s s' : State Row) {q₀ r₀ : ℕ} (a : Restarts n s s' q₀ r₀) (i : Safe n s) where
  pub restarts_safe : Safe n s'
  restarts_safe =
      kept_safe n s s' i t (lost n s s' (λ c f. then_one (a.copy c f)) (λ c f. then_one (a.ask c f)) carried.grant) restarts_live
      (same_onward n s s' a.files a.queue) carried (λ c. omega (arith, a.counter c)) (λ c f. then_one (a.ask c f))
    where
      t : s.time ≤ s'.time
      t = omega (arith, a.time)

      carried : Carries s s'
      carried = fewer_carries a.flight

      restarts_live : KeepsLive n s s'
      restarts_live c f x v y st o live h =
          covered_kept n s s' t c f x v y (a.files.row f) (a.files.version f) h (λ q p l. far q l (a.entry f q) (a.quiet (n.parent q)))
        where
          marked : (q : ℕ) → Link n s c f y q → n.parent q ≡ q₀ → y + n.bound c + n.bound (n.parent q) ≤ reach n s' f q
          marked q l e =
              let eb : n.bound (n.parent q) ≡ n.bound q₀ = ap n.bound e in
              let eq : s'.quiet (n.parent q) ≡ s'.quiet q₀ = ap s'.quiet e in
              omega (arith, l.short, a.mark, a.reads.late)

          far :
              (q : ℕ) → Link n s c f y q → (s'.entry f q ≡ s.entry f q) ⊎ ((n.parent q ≡ q₀) × (s'.entry f q ≡ 0)) →
              (s'.quiet (n.parent q) ≡ s.quiet (n.parent q)) ⊎ (n.parent q ≡ q₀) → y + n.bound c + n.bound (n.parent q) ≤ reach n s' f q
          far q l (inr e) k = marked q l e.0
          far q l (inl e) (inr k) = marked q l k
          far q l (inl e) (inl k) = omega arith
