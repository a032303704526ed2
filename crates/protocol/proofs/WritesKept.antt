-- To submit, accept and effect a write keeps what holds of writes, and each is lawful.
-- Assumes nothing.
use Rattle.std.proofs.Common.{◌≡◌, ℕ, ◌+◌, ◌<◌, ◌≤◌, ◌⊎◌, List, [], ◌∷◌, ◌++◌, Some, sym, refl, ap, ◌∙◌, subst, inl, inr, arith}
use mathlib.Core.List.Memᴰ
use Rattle.protocol.specs.Lookups.{In}
use Rattle.protocol.specs.Net.{Net}
use Rattle.protocol.specs.Rules.{sound}
use Rattle.protocol.specs.Messages.{Message, WRITE, DONE}
use Rattle.protocol.specs.State.{pending, Waiting, State}
use Rattle.protocol.specs.Events.{History, asked, accepted, effect}
use Rattle.protocol.specs.Writing.{Submits, Accepts, Effects}
use Rattle.protocol.specs.Steps.{Step, note}
use Rattle.protocol.specs.Story.{Effected}
use Rattle.protocol.proofs.Lookups.{clash, in_rest, left_without}
use Rattle.protocol.proofs.Carries.{sent_other}
use Rattle.protocol.proofs.CalmSafe.{drawn_grows}
use Rattle.protocol.proofs.Entries.{effects_left}
use Rattle.protocol.proofs.Apart.{SameWrite, Apart, apart_without, apart_other, apart_more}
use Rattle.protocol.proofs.WriteSteps.{by_write}
use Rattle.protocol.proofs.Writes.{Waits, Writes, effected_kept, last_kept, idle_writes}

module _ {Row : Type 0} (n : Net) (h : History Row) (s s' : State Row) where
  module _ {c₀ f₀ : ℕ} {x₀ : Row} (a : Submits n s s' c₀ f₀ x₀) (i : Writes h s) where
    -- the number is new
    pub submits_lawful : (g : ℕ) (y : Row) → In (asked c₀ g (s.counter c₀ + 1) y) h → ⊥
    submits_lawful g y m = omega (arith, i.counted c₀ g (s.counter c₀ + 1) y m)

    submits_writes : Writes (asked c₀ f₀ (s.counter c₀ + 1) x₀ ∷ h) s'
    submits_writes =
        record {
          out = λ c f k x e. out c f k x e (a.outstanding c);
          sent = λ c f k x m. sent c f k x (a.flight (WRITE c f k x) m);
          counted = λ c f k x m. counted c f k x (Memᴰ.cases_cons m);
          waiting = λ w m. Memᴰ.tail (i.waiting w (back w m));
          past = λ c f k x m. omega (arith, i.past c f k x (in_rest (λ e. clash (cc)) m), a.queue.last c);
          apart = subst (λ l. Apart l) (sym a.queue.waiting) i.apart;
          taken = λ c f k x m. Memᴰ.tail (i.taken c f k x (in_rest (λ e. clash (cc)) m));
          fresh = λ c f k x w m v. i.fresh c f k x w (in_rest (λ e. clash (cc)) m) (back w v);
          last = λ c p.
              last_kept n h s s' (asked c₀ f₀ (s.counter c₀ + 1) x₀ ∷ h) (λ e m. Memᴰ.tail m) a.queue.waiting c (a.queue.last c)
              (i.last c (omega (arith, a.queue.last c)));
          done = λ c k m. effected_kept (λ e m. Memᴰ.tail m) (i.done c k (sent_other a.flight (λ e. clash (cc)) m));
        }
      where
        back : (w : Waiting Row) → In w s'.waiting → In w s.waiting
        back w m = subst (λ l. In w l) a.queue.waiting m

        out :
            (c f k : ℕ) (x : Row) → s'.outstanding c ≡ Some (pending f k x) →
            (s'.outstanding c ≡ s.outstanding c) ⊎ ((c ≡ c₀) × (s'.outstanding c ≡ Some (pending f₀ (s.counter c₀ + 1) x₀))) →
            In (asked c f k x) (asked c₀ f₀ (s.counter c₀ + 1) x₀ ∷ h)
        out c f k x e (inl b) = Memᴰ.tail (i.out c f k x (sym b ∙ e))
        out c f k x e (inr b) =
            let ec : c ≡ c₀ = b.0 in
            let now : s'.outstanding c ≡ Some (pending f₀ (s.counter c₀ + 1) x₀) = b.1 in
            Memᴰ.head (cc)

        sent :
            (c f k : ℕ) (x : Row) → In (WRITE c f k x) s.flight ⊎ (WRITE c f k x ≡ WRITE c₀ f₀ (s.counter c₀ + 1) x₀) →
            In (asked c f k x) (asked c₀ f₀ (s.counter c₀ + 1) x₀ ∷ h)
        sent c f k x (inl m) = Memᴰ.tail (i.sent c f k x m)
        sent c f k x (inr e) = Memᴰ.head (cc)

        counted :
            (c f k : ℕ) (x : Row) → (asked c f k x ≡ asked c₀ f₀ (s.counter c₀ + 1) x₀) ⊎ In (asked c f k x) h → (0 < k) × (k ≤ s'.counter c)
        counted c f k x (inr m) = omega (arith, i.counted c f k x m, drawn_grows a.drawn a.counter c)
        counted c f k x (inl e) =
            let ec : c ≡ c₀ = cc in
            let ek : k ≡ s.counter c₀ + 1 = cc in
            let en : s'.counter c ≡ s'.counter c₀ = ap s'.counter ec in
            omega (arith, a.drawn)

  module _ {w₀ : Waiting Row} (a : Accepts s s' w₀) (i : Writes h s) where
    -- the write was asked, and its number is above all that were accepted
    pub accepts_lawful :
        In (asked w₀.station w₀.file w₀.number w₀.row) h ×
        ((g : ℕ) (y : Row) → In (accepted w₀.station g w₀.number y) h → ⊥)
    accepts_lawful = (
      i.sent w₀.station w₀.file w₀.number w₀.row a.came,
      λ g y m. omega
          (arith, i.past w₀.station g w₀.number y m, a.above),
    )

    pub last_grows : (c : ℕ) → s.last c ≤ s'.last c
    last_grows c =
        elim (a.last c) [
          | inl e ↦ omega arith
          | inr e ↦ rw e (omega (arith, a.above, a.last_now))
        ]

    accepts_writes : Writes (accepted w₀.station w₀.file w₀.number w₀.row ∷ h) s'
    accepts_writes =
        record {
          out = λ c f k x e. Memᴰ.tail (i.out c f k x (sym (a.stations.outstanding c) ∙ e));
          sent = λ c f k x m. Memᴰ.tail (i.sent c f k x (a.flight (WRITE c f k x) m));
          counted = λ c f k x m. omega (arith, i.counted c f k x (in_rest (λ e. clash (cc)) m), a.stations.counter c);
          waiting = λ w m. waiting w (split w m);
          past = λ c f k x m. past c f k x (Memᴰ.cases_cons m);
          apart = subst (λ l. Apart l) (sym a.waiting) (apart_more s.waiting w₀ i.apart apart);
          taken = λ c f k x m. Memᴰ.tail (i.taken c f k x (in_rest (λ e. clash (cc)) m));
          fresh = λ c f k x w m v es en. fresh c f k x w (in_rest (λ e. clash (cc)) m) es en (split w v);
          last = λ c p. last c p (a.last c);
          done = λ c k m. effected_kept (λ e m. Memᴰ.tail m) (i.done c k (a.flight (DONE c k) m));
        }
      where
        split : (w : Waiting Row) → In w s'.waiting → In w s.waiting ⊎ (w ≡ w₀)
        split w m =
            elim (Memᴰ.append_cases s.waiting (subst (λ l. In w l) a.waiting m)) [
              | inl b ↦ inl b
              | inr b ↦ inr
                  (Memᴰ.eq_of_singleton b)
            ]

        waiting :
            (w : Waiting Row) → In w s.waiting ⊎ (w ≡ w₀) →
            In (accepted w.station w.file w.number w.row) (accepted w₀.station w₀.file w₀.number w₀.row ∷ h)
        waiting w (inl m) = Memᴰ.tail (i.waiting w m)
        waiting w (inr e) = rw e (Memᴰ.head refl)

        past :
            (c f k : ℕ) (x : Row) → (accepted c f k x ≡ accepted w₀.station w₀.file w₀.number w₀.row) ⊎ In (accepted c f k x) h →
            k ≤ s'.last c
        past c f k x (inr m) = omega (arith, i.past c f k x m, last_grows c)
        past c f k x (inl e) =
            let ec : c ≡ w₀.station = cc in
            let ek : k ≡ w₀.number = cc in
            rw ec (omega (arith, a.last_now))

        apart : (v : Waiting Row) → In v s.waiting → SameWrite v w₀ → ⊥
        apart v m e =
            let b : s.last v.station ≡ s.last w₀.station = ap s.last e.station in
            omega (arith, i.past v.station v.file v.number v.row (i.waiting v m), e.number, a.above)

        fresh : (c f k : ℕ) (x : Row) (w : Waiting Row) → In (effect c f k x) h → w.station ≡ c → w.number ≡ k → In w s.waiting ⊎ (w ≡ w₀) → ⊥
        fresh c f k x w m es en (inl v) = i.fresh c f k x w m v es en
        fresh c f k x w m es en (inr e) =
            let e1 : c ≡ w₀.station = sym es ∙ ap (λ (u : Waiting Row). u.station) e in
            let e2 : k ≡ w₀.number = sym en ∙ ap (λ (u : Waiting Row). u.number) e in
            let e3 : s.last c ≡ s.last w₀.station = ap s.last e1 in
            omega (arith, i.past c f k x (i.taken c f k x m), a.above)

        last :
            (c : ℕ) → 0 < s'.last c → (s'.last c ≡ s.last c) ⊎ (c ≡ w₀.station) →
            Waits s' c (s'.last c) ⊎ Effected (accepted w₀.station w₀.file w₀.number w₀.row ∷ h) c (s'.last c)
        last c p (inr e) =
            inl (record {
              write = w₀;
              waits = subst (λ l. In w₀ l) (sym a.waiting) (Memᴰ.append_right s.waiting (Memᴰ.head refl));
              station = sym e;
              number = sym a.last_now ∙ ap s'.last (sym e);
            })
        last c p (inl e) = rw e (go (i.last c (omega arith)))
          where
            go :
                Waits s c (s.last c) ⊎ Effected h c (s.last c) →
                Waits s' c (s.last c) ⊎ Effected (accepted w₀.station w₀.file w₀.number w₀.row ∷ h) c (s.last c)
            go (inl b) =
                inl (record {
                  write = b.write;
                  waits = subst (λ l. In b.write l) (sym a.waiting) (Memᴰ.append_left (w₀ ∷ []) b.waits);
                  station = b.station;
                  number = b.number;
                })
            go (inr b) = inr (effected_kept (λ e m. Memᴰ.tail m) b)

  module _ {w₀ : Waiting Row} {r₀ : ℕ} {b₀ a₀ : List (Waiting Row)} (a : Effects sound n s s' w₀ r₀ b₀ a₀) (i : Writes h s) where
    waited : In w₀ s.waiting
    waited = subst (λ l. In w₀ l) (sym a.waited) (Memᴰ.append_right b₀ (Memᴰ.head refl))

    -- a waiting write was accepted and took no effect yet
    pub effects_lawful :
        In (accepted w₀.station w₀.file w₀.number w₀.row) h ×
        ((g : ℕ) (y : Row) → In (effect w₀.station g w₀.number y) h → ⊥)
    effects_lawful = (i.waiting w₀ waited, λ g y m. i.fresh w₀.station g w₀.number y w₀ m waited refl refl)

    effects_writes : Writes (effect w₀.station w₀.file w₀.number w₀.row ∷ h) s'
    effects_writes =
        record {
          out = λ c f k x e. Memᴰ.tail (i.out c f k x (sym (a.stations.outstanding c) ∙ e));
          sent = λ c f k x m. Memᴰ.tail (i.sent c f k x (sent_other a.flight (λ e. clash (cc)) m));
          counted = λ c f k x m. omega (arith, i.counted c f k x (in_rest (λ e. clash (cc)) m), a.stations.counter c);
          waiting = λ w m. Memᴰ.tail (i.waiting w (effects_left n s s' a w m));
          past = λ c f k x m. omega (arith, i.past c f k x (in_rest (λ e. clash (cc)) m), a.last c);
          apart = subst (λ l. Apart l) (sym a.waiting) (apart_without b₀ a₀ w₀ apart);
          taken = λ c f k x m. taken c f k x (Memᴰ.cases_cons m);
          fresh = λ c f k x w m v es en. fresh c f k x w v es en (Memᴰ.cases_cons m);
          last = λ c p. rw (a.last c) (last c (i.last c (omega (arith, a.last c))));
          done = λ c k m. done c k (a.flight (DONE c k) m);
        }
      where
        apart : Apart (b₀ ++ (w₀ ∷ a₀))
        apart = subst (λ l. Apart l) a.waited i.apart

        more : {c k : ℕ} → Effected h c k → Effected (effect w₀.station w₀.file w₀.number w₀.row ∷ h) c k
        more b = effected_kept (λ e m. Memᴰ.tail m) b

        -- this write took effect
        this : {c k : ℕ} → c ≡ w₀.station → k ≡ w₀.number → Effected (effect w₀.station w₀.file w₀.number w₀.row ∷ h) c k
        this ec ek = record { file = w₀.file; row = w₀.row; was = Memᴰ.head (cc) }

        taken :
            (c f k : ℕ) (x : Row) → (effect c f k x ≡ effect w₀.station w₀.file w₀.number w₀.row) ⊎ In (effect c f k x) h →
            In (accepted c f k x) (effect w₀.station w₀.file w₀.number w₀.row ∷ h)
        taken c f k x (inr m) = Memᴰ.tail (i.taken c f k x m)
        taken c f k x (inl e) =
            let ec : c ≡ w₀.station = cc in
            let ef : f ≡ w₀.file = cc in
            let ek : k ≡ w₀.number = cc in
            let ex : x ≡ w₀.row = cc in
            Memᴰ.tail (rw (ec, ef, ek, ex) (i.waiting w₀ waited))

        fresh :
            (c f k : ℕ) (x : Row) (w : Waiting Row) → In w s'.waiting → w.station ≡ c → w.number ≡ k →
            (effect c f k x ≡ effect w₀.station w₀.file w₀.number w₀.row) ⊎ In (effect c f k x) h → ⊥
        fresh c f k x w v es en (inr m) = i.fresh c f k x w m (effects_left n s s' a w v) es en
        fresh c f k x w v es en (inl e) =
            let ec : c ≡ w₀.station = cc in
            let ek : k ≡ w₀.number = cc in
            apart_other b₀ a₀ w₀ apart w (subst (λ l. In w l) a.waiting v) (record { station = sym ec ∙ sym es; number = sym ek ∙ sym en })

        last :
            (c : ℕ) → Waits s c (s.last c) ⊎ Effected h c (s.last c) →
            Waits s' c (s.last c) ⊎ Effected (effect w₀.station w₀.file w₀.number w₀.row ∷ h) c (s.last c)
        last c (inr b) = inr (more b)
        last c (inl b) =
            elim (left_without b₀ a₀ w₀ b.write (subst (λ l. In b.write l) a.waited b.waits)) [
              | inl m ↦ inl (record { write = b.write; waits = subst (λ l. In b.write l) (sym a.waiting) m; station = b.station; number = b.number })
              | inr e ↦ inr (this (sym b.station ∙ ap (λ (u : Waiting Row). u.station) e) (sym b.number ∙ ap (λ (u : Waiting Row). u.number) e))
            ]

        done :
            (c k : ℕ) → In (DONE c k) s.flight ⊎ (◌≡◌ {A = Message Row} (DONE c k) (DONE w₀.station w₀.number)) →
            Effected (effect w₀.station w₀.file w₀.number w₀.row ∷ h) c k
        done c k (inl m) = more (i.done c k m)
        done c k (inr e) = this (cc) (cc)

  pub step_writes : (a : Step sound n h s s') → Writes h s → Writes (note a) s'
  step_writes a i =
      by_write n h s s' a (λ g. Writes g s') (idle_writes n h s s' (note a) i) (λ c f x b. submits_writes b i) (λ w b. accepts_writes b i)
      (λ w r b e k. effects_writes k i)
