-- A grant, by the primary or by a relay, keeps the safety invariant: the one offer that it makes is covered.
-- Assumes nothing.
use Rattle.std.proofs.Common.{◌≡◌, ℕ, ◌+◌, ◌-◌, ◌<◌, ◌≤◌, ◌⊎◌, Some, sym, ap, ◌∙◌, inl, inr, arith}
use Rattle.protocol.specs.Lookups.{In}
use Rattle.protocol.specs.Net.{Net}
use Rattle.protocol.specs.Rules.{sound, run_out}
use native.Mathlib.Decide.{dec_le}
use Rattle.protocol.specs.Messages.{GRANT, APPROVE}
use Rattle.protocol.specs.State.{request, State, Busy}
use Rattle.protocol.specs.Leasing.{Grants, PrimaryGrants, RelayGrants}
use Rattle.protocol.proofs.Lookups.{clash}
use Rattle.protocol.proofs.Tree.{Path, first_link, no_path_to_primary}
use Rattle.protocol.proofs.Invariant.{Dead, Offer, held, coming, Link, Covered, Cover, Asks, Recalls, Approvals, Safe}
use Rattle.protocol.proofs.Carries.{CarriesApproves, sent_other}
use Rattle.protocol.proofs.Frames.{KeepsLive, cover_kept, covered_kept, asks_kept, recalls_kept, same_onward}

module _ {Row : Type 0} (n : Net) (s s' : State Row) {c₀ f₀ k₀ g₀ : ℕ} {x₀ : Row} {v₀ t₀ : ℕ} (a : Grants sound n s s' c₀ f₀ k₀ g₀ x₀ v₀ t₀) where
  -- the offer that the grant makes
  record Made (c f : ℕ) (x : Row) (v y : ℕ) : Type 0 where
    pub at : c ≡ c₀
    pub on : f ≡ f₀
    pub row : x ≡ x₀
    pub version : v ≡ v₀
    pub reading : ℕ
    pub opened : s.ask c₀ f₀ ≡ Some (request k₀ reading)
    pub until : y ≡ run_out sound n c₀ reading t₀

  offers : (c f : ℕ) (x : Row) (v y : ℕ) → Offer n s' c f x v y → Offer n s c f x v y ⊎ Made c f x v y
  offers c f x v y (held e) = inl (held (sym (a.stations.copy c f) ∙ e))
  offers c f x v y (coming k t r m e u) = go (a.flight (GRANT c f k x v t) m)
    where
      go : In (GRANT c f k x v t) s.flight ⊎ (GRANT c f k x v t ≡ GRANT c₀ f₀ k₀ x₀ v₀ t₀) → Offer n s c f x v y ⊎ Made c f x v y
      go (inl b) = inl (coming k t r b (sym (a.stations.ask c f) ∙ e) u)
      go (inr i) =
          let ask : s'.ask c f ≡ s.ask c f = a.stations.ask c f in
          inr (record { at = cc; on = cc; row = cc; version = cc; reading = r; opened = cc; until = cc })

  -- no entry falls, since the later end is kept
  grown : (f q : ℕ) → s.entry f q ≤ s'.entry f q
  grown f q = elim (a.entry f q) [ inl e ↦ omega arith | inr e ↦ omega (arith, e.2) ]

  keeps_live : KeepsLive n s s'
  keeps_live c f x v y st o live i =
      covered_kept n s s' (omega (arith, a.time)) c f x v y (a.files.row f) (a.files.version f) i
      (λ q p l. omega (arith, grown f q, a.quiet (n.parent q)))

  -- the ask was read before the grant, so the margin lets the offer end before the entry
  before_entry :
      Asks n s → (y r : ℕ) → s.ask c₀ f₀ ≡ Some (request k₀ r) → y ≡ run_out sound n c₀ r t₀ → s'.time - n.bound c₀ < y →
      y + n.bound c₀ + n.bound (n.parent c₀) ≤ g₀ + t₀
  before_entry asks y r o u live = omega (arith, asks.opened c₀ f₀ k₀ r o, a.time, a.reads.late)

  -- the link to the station that is granted
  own_link :
      Asks n s → (y r : ℕ) → s.ask c₀ f₀ ≡ Some (request k₀ r) → y ≡ run_out sound n c₀ r t₀ → s'.time - n.bound c₀ < y →
      Link n s' c₀ f₀ y c₀
  own_link asks y r o u live =
      let b = asks.opened c₀ f₀ k₀ r o in
      let e : s'.time ≡ s.time = a.time in
      let l = before_entry asks y r o u live in
      let positive : 0 < t₀ = omega (arith, b.0) in
      record { kept = omega (arith, a.held positive); short = omega (arith, b.0, a.short) }

  -- the cover, given the links above
  grants_cover :
      Asks n s → Cover n s → x₀ ≡ s.row f₀ → v₀ ≡ s.version f₀ →
      ((y : ℕ) → y + n.bound c₀ + n.bound (n.parent c₀) ≤ g₀ + t₀ → (q : ℕ) → Path n q (n.parent c₀) → Link n s' c₀ f₀ y q) →
      Cover n s'
  grants_cover asks cover er ev above =
      cover_kept n s s' cover (omega (arith, a.time)) (λ c f x v y st o. new c f x v y (offers c f x v y o)) keeps_live
    where
      links :
          (y r : ℕ) → s.ask c₀ f₀ ≡ Some (request k₀ r) → y ≡ run_out sound n c₀ r t₀ → s'.time - n.bound c₀ < y →
          (q : ℕ) → (q ≡ c₀) ⊎ Path n q (n.parent c₀) → Link n s' c₀ f₀ y q
      links y r o u live q (inl e) = rw e (own_link asks y r o u live)
      links y r o u live q (inr p) = above y (before_entry asks y r o u live) q p

      made :
          (y r : ℕ) → s.ask c₀ f₀ ≡ Some (request k₀ r) → y ≡ run_out sound n c₀ r t₀ → Dec (y ≤ s'.time - n.bound c₀) →
          Dead n s' c₀ y ⊎ Covered n s' c₀ f₀ x₀ v₀ y
      made y r o u (yes d) = inl d
      made y r o u (no d) =
          inr (record {
            row = er ∙ sym (a.files.row f₀);
            version = ev ∙ sym (a.files.version f₀);
            links = λ q p. links y r o u (omega arith) q (first_link p);
          })

      new :
          (c f : ℕ) (x : Row) (v y : ℕ) → Offer n s c f x v y ⊎ Made c f x v y →
          Offer n s c f x v y ⊎ (Dead n s' c y ⊎ Covered n s' c f x v y)
      new c f x v y (inl o) = inl o
      new c f x v y (inr m) =
          inr (rw (m.at, m.on, m.row, m.version) (made y m.reading m.opened m.until (dec_le y (s'.time - n.bound c₀))))

  grants_asks : Asks n s → Asks n s'
  grants_asks asks =
      asks_kept n s s' asks (omega (arith, a.time)) (λ c. omega (arith, a.stations.counter c))
      (λ c f k r e. inl (sym (a.stations.ask c f) ∙ e))
      (λ c f k m. inl (sent_other a.flight (λ e. clash (cc)) m))
      (λ c f k x v t m. grant c f k x v t (a.flight (GRANT c f k x v t) m))
    where
      grant :
          (c f k : ℕ) (x : Row) (v t : ℕ) → In (GRANT c f k x v t) s.flight ⊎ (GRANT c f k x v t ≡ GRANT c₀ f₀ k₀ x₀ v₀ t₀) →
          In (GRANT c f k x v t) s.flight ⊎ (k ≤ s.counter c)
      grant c f k x v t (inl m) = inl m
      grant c f k x v t (inr e) =
          let ek : k ≡ k₀ = cc in
          let ec : s.counter c ≡ s.counter c₀ = ap s.counter (cc) in
          inr (omega (arith, asks.asked c₀ f₀ k₀ a.came))

  approve : CarriesApproves s s'
  approve c f w = sent_other a.flight (λ e. clash (cc))

  grants_recalls : Recalls n s → Recalls n s'
  grants_recalls recalls =
      recalls_kept n s s' recalls (same_onward n s s' a.files a.queue)
      (λ c f w m. inl (sent_other a.flight (λ e. clash (cc)) m)) (λ c f w m. inl (approve c f w m))

  -- the approvals, if none at or above the station that is granted is of a later version
  grants_approvals :
      Approvals n s → ((d w : ℕ) → Path n d c₀ → In (APPROVE d f₀ w) s.flight → w ≤ v₀) → Approvals n s'
  grants_approvals old none c f w m d x v y st p o = go (offers d f x v y o)
    where
      go : Offer n s d f x v y ⊎ Made d f x v y → Dead n s' d y ⊎ (w ≤ v)
      go (inl b) = elim (old c f w (approve c f w m) d x v y st p b) [ inl k ↦ inl (omega (arith, a.time)) | inr k ↦ inr k ]
      go (inr k) =
          let l : w ≤ v₀ = none c w (rw k.at at p) (rw k.on at (approve c f w m)) in
          inr (omega (arith, k.version))

  -- the invariant, given the links above the station and that no approval there is of a later version
  grants_safe :
      Safe n s → x₀ ≡ s.row f₀ → v₀ ≡ s.version f₀ →
      ((y : ℕ) → y + n.bound c₀ + n.bound (n.parent c₀) ≤ g₀ + t₀ → (q : ℕ) → Path n q (n.parent c₀) → Link n s' c₀ f₀ y q) →
      ((d w : ℕ) → Path n d c₀ → In (APPROVE d f₀ w) s.flight → w ≤ v₀) → Safe n s'
  grants_safe i er ev above none =
      record {
        cover = grants_cover i.asks i.cover er ev above;
        asks = grants_asks i.asks;
        recalls = grants_recalls i.recalls;
        approvals = grants_approvals i.approvals none;
      }

module _ {Row : Type 0} (n : Net) (s s' : State Row) {c₀ f₀ k₀ g₀ : ℕ} {x₀ : Row} {v₀ t₀ : ℕ} where
  -- no link stands above a child of the primary, and while no write waits no approval is of a later version
  pub primary_grants_safe : PrimaryGrants sound n s s' c₀ f₀ k₀ g₀ x₀ v₀ t₀ → Safe n s → Safe n s'
  primary_grants_safe a i =
      grants_safe n s s' a.grants i a.row_is a.version_is (λ y l q p. absurd (root (no_path_to_primary p))) none
    where
      root : 0 < n.parent c₀ → ⊥
      root l = omega (arith, a.primary)

      none : (d w : ℕ) → Path n d c₀ → In (APPROVE d f₀ w) s.flight → w ≤ v₀
      none d w p m = go (i.recalls.approved d f₀ w m).next
        where
          go : (w ≤ s.version f₀) ⊎ ((w ≡ s.version f₀ + 1) × Busy s f₀) → w ≤ v₀
          go (inl l) = omega (arith, a.version_is)
          go (inr b) = absurd (a.free b.1)

  module _ {y₀ : ℕ} (a : RelayGrants sound n s s' c₀ f₀ k₀ g₀ x₀ v₀ t₀ y₀) (i : Safe n s) where
    -- the relay's own copy is live, so it is covered
    pub own_copy_covered : Covered n s (n.parent c₀) f₀ x₀ v₀ y₀
    own_copy_covered = go (i.cover (n.parent c₀) f₀ x₀ v₀ y₀ a.relay (held a.copied))
      where
        go : Dead n s (n.parent c₀) y₀ ⊎ Covered n s (n.parent c₀) f₀ x₀ v₀ y₀ → Covered n s (n.parent c₀) f₀ x₀ v₀ y₀
        go (inl d) = absurd (omega (arith, a.live, a.grants.reads.late))
        go (inr k) = k

    -- the links above the relay hold the file for the relay's copy, so for what ends before it
    pub relay_grants_safe : Safe n s'
    relay_grants_safe = grants_safe n s s' h i own_copy_covered.row own_copy_covered.version above none
      where
        h : Grants sound n s s' c₀ f₀ k₀ g₀ x₀ v₀ t₀
        h = a.grants

        above : (y : ℕ) → y + n.bound c₀ + n.bound (n.parent c₀) ≤ g₀ + t₀ → (q : ℕ) → Path n q (n.parent c₀) → Link n s' c₀ f₀ y q
        above y l q p =
            let k = own_copy_covered.links q p in
            record {
              kept = omega (arith, k.kept, a.within, grown n s s' h f₀ q, h.quiet (n.parent q));
              short = omega (arith, k.short, a.within, h.time);
            }

        none : (d w : ℕ) → Path n d c₀ → In (APPROVE d f₀ w) s.flight → w ≤ v₀
        none d w p m = go (first_link p)
          where
            go : (d ≡ c₀) ⊎ Path n d (n.parent c₀) → w ≤ v₀
            go (inl e) =
                let top : n.parent d ≡ 0 = (i.recalls.approved d f₀ w m).below in
                let top' : n.parent c₀ ≡ 0 = cc in
                absurd (omega (arith, a.relay))
            go (inr p) =
                elim (i.approvals d f₀ w m (n.parent c₀) x₀ v₀ y₀ a.relay p (held a.copied)) [
                  | inl k ↦ absurd (omega (arith, a.live, h.reads.late))
                  | inr k ↦ k
                ]
