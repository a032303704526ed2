-- To yield to a recall and to hear of it keep the safety invariant: what loses its entries is dead.
-- Assumes nothing.
use Rattle.std.proofs.Common.{◌≡◌, ℕ, ◌+◌, ◌<◌, ◌≤◌, ◌⊎◌, ap, ◌∙◌, inl, inr, arith}
use Rattle.protocol.specs.Lookups.{In}
use Rattle.protocol.specs.Net.{Net}
use Rattle.protocol.specs.Rules.{sound}
use Rattle.protocol.specs.Messages.{Message, APPROVE}
use Rattle.protocol.specs.State.{State}
use Rattle.protocol.specs.Recalling.{Yields, Hears}
use Rattle.protocol.proofs.Lookups.{clash, then_two, was, not_some, same_shrinks}
use Rattle.protocol.proofs.Tree.{Path, last_link, ChildAbove}
use Rattle.protocol.proofs.Invariant.{Dead, Offer, held, coming, reach, Link, Covered, Timely, Gone, Safe}
use Rattle.protocol.proofs.Carries.{CarriesGrants, Carries, fewer_carries, sent_other}
use Rattle.protocol.proofs.Frames.{Back, lost, unmoved, KeepsLive, cover_back, covered_kept, asks_kept, same_onward, recalls_kept, kept_safe}

-- an offer is dead once the parent at one of its links reads that the link is over
pub over_is_dead :
    {Row : Type 0} {n : Net} {s : State Row} {c f y q : ℕ} (r : ℕ) →
    Link n s c f y q → r ≤ s.time + n.bound (n.parent q) → s.entry f q ≤ r → s.quiet (n.parent q) ≤ r → Dead n s c y
over_is_dead r l early ended still = omega arith

module _ {Row : Type 0} (n : Net) (s s' : State Row) {q₀ f₀ w₀ r₀ : ℕ} (a : Yields sound n s s' q₀ f₀ w₀ r₀) (i : Safe n s) where
  t : s.time ≤ s'.time
  t = omega (arith, a.time)

  grant : CarriesGrants s s'
  grant c f k x v t = sent_other a.flight (λ e. clash (cc))

  back : Back n s s'
  back = lost n s s' (λ c f. then_two (a.copy c f)) (λ c f. then_two (a.ask c f)) grant

  -- an offer below a child of the station is dead
  below_dead :
      (e d : ℕ) (x : Row) (v y : ℕ) → 0 < d → 0 < e → n.parent e ≡ q₀ → Path n e d → Offer n s d f₀ x v y → Dead n s d y
  below_dead e d x v y st ste pe p o = go (i.cover d f₀ x v y st o)
    where
      go : Dead n s d y ⊎ Covered n s d f₀ x v y → Dead n s d y
      go (inl h) = h
      go (inr h) =
          let eb : n.bound (n.parent e) ≡ n.bound q₀ = ap n.bound pe in
          let eq : s.quiet (n.parent e) ≡ s.quiet q₀ = ap s.quiet pe in
          over_is_dead r₀ (h.links e p) (omega (arith, a.reads.early)) (a.ended e ste pe) (omega (arith, a.still e ste pe))

  -- nothing at or below the station is live afterwards
  all_dead : (d : ℕ) (x : Row) (v y : ℕ) → 0 < d → Path n q₀ d → Offer n s' d f₀ x v y → Dead n s' d y
  all_dead d x v y st p o = go (last_link p)
    where
      none : Offer n s' q₀ f₀ x v y → ⊥
      none (held e) = not_some a.no_copy e
      none (coming k t l m e u) = not_some a.no_ask e

      go : (q₀ ≡ d) ⊎ ChildAbove n q₀ d → Dead n s' d y
      go (inl e) = absurd (none (rw e o))
      go (inr c) =
          let h : Dead n s d y = below_dead c.child d x v y st c.known c.below c.path (back d f₀ x v y st o) in
          omega arith

  yields_live : KeepsLive n s s'
  yields_live c f x v y st o live h =
      covered_kept n s s' t c f x v y (a.files.row f) (a.files.version f) h (λ q p l. far q p l (a.entry f q))
    where
      far :
          (q : ℕ) → Path n q c → Link n s c f y q →
          (s'.entry f q ≡ s.entry f q) ⊎ ((f ≡ f₀) × (0 < q) × (n.parent q ≡ q₀) × (s'.entry f q ≡ 0)) →
          y + n.bound c + n.bound (n.parent q) ≤ reach n s' f q
      far q p l (inl e) = omega (arith, a.quiet (n.parent q))
      far q p l (inr e) =
          let d : Dead n s c y = below_dead q c x v y st e.1 e.2 p (rw e.0 at o) in
          absurd (omega arith)

  pub yields_safe : Safe n s'
  yields_safe =
      record {
        cover = cover_back n s s' i.cover t back yields_live;
        asks = asks_kept n s s' i.asks t (λ c. omega (arith, a.counter c)) (λ c f k l e. inl (was (then_two (a.ask c f)) e))
            (λ c f k m. inl (sent_other a.flight (λ e. clash (cc)) m))
            (λ c f k x v t m. inl (grant c f k x v t m));
        recalls = recalls_kept n s s' i.recalls (same_onward n s s' a.files a.queue)
            (λ c f w m. inl (sent_other a.flight (λ e. clash (cc)) m))
            (λ c f w m. elim (a.flight (APPROVE c f w) m) [ inl b ↦ inl b | inr e ↦ inr (now c f w e) ]);
        approvals = λ c f w m. sent c f w (a.flight (APPROVE c f w) m);
      }
    where
      -- the approval is as timely as the recall
      now : (c f w : ℕ) → ◌≡◌ {A = Message Row} (APPROVE c f w) (APPROVE q₀ f₀ w₀) → Timely n s c f w
      now c f w e =
          let ec : c ≡ q₀ = cc in
          let ef : f ≡ f₀ = cc in
          let ew : w ≡ w₀ = cc in
          rw (ec, ef, ew) (i.recalls.recalled q₀ f₀ w₀ a.came)

      sent : (c f w : ℕ) → In (APPROVE c f w) s.flight ⊎ (◌≡◌ {A = Message Row} (APPROVE c f w) (APPROVE q₀ f₀ w₀)) → Gone n s' c f w
      sent c f w (inr k) d x v y st p o =
          let ec : c ≡ q₀ = cc in
          let ef : f ≡ f₀ = cc in
          inl (all_dead d x v y st (rw ec at p) (rw ef at o))
      sent c f w (inl m) d x v y st p o =
          elim (i.approvals c f w m d x v y st p (back d f x v y st o)) [ inl h ↦ inl (omega (arith, a.time)) | inr h ↦ inr h ]

-- what is live under the child that approved would have the next version, which nothing has
module _ {Row : Type 0} (n : Net) (s s' : State Row) {c₀ f₀ w₀ : ℕ} (a : Hears sound s s' c₀ f₀ w₀) (i : Safe n s) where
  pub hears_safe : Safe n s'
  hears_safe =
      kept_safe n s s' i t (unmoved n s s' a.stations carried.grant) hears_live (same_onward n s s' a.files a.queue) carried
      (λ c. omega (arith, a.stations.counter c)) (same_shrinks a.stations.ask)
    where
      t : s.time ≤ s'.time
      t = omega (arith, a.time)

      carried : Carries s s'
      carried = fewer_carries a.flight

      hears_live : KeepsLive n s s'
      hears_live c f x v y st o live h =
          covered_kept n s s' t c f x v y (a.files.row f) (a.files.version f) h (λ q p l. far q p l (a.entry f q))
        where
          far :
              (q : ℕ) → Path n q c → Link n s c f y q → (s'.entry f q ≡ s.entry f q) ⊎ ((f ≡ f₀) × (q ≡ c₀) × (s'.entry f q ≡ 0)) →
              y + n.bound c + n.bound (n.parent q) ≤ reach n s' f q
          far q p l (inl e) = omega (arith, a.quiet (n.parent q))
          far q p l (inr e) =
              let p' : Path n c₀ c = rw e.1 at p in
              let o' : Offer n s c f₀ x v y = rw e.0 at o in
              let ev : v ≡ s.version f₀ = h.version ∙ ap s.version e.0 in
              elim (i.approvals c₀ f₀ w₀ a.came c x v y st p' o') [
                | inl d ↦ absurd (omega arith)
                | inr d ↦ absurd (omega (arith, a.next))
              ]
