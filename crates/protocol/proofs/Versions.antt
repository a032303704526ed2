-- How far a version can grow.
-- Assumes nothing.
use Rattle.std.proofs.Common.{◌≡◌, ℕ, zero, suc, ◌+◌, ◌*◌, ◌<◌, ◌≤◌, ◌⊎◌, List, [], ◌∷◌, ◌++◌, length, Some, sym, ◌∙◌, inl, inr, arith, length-append}
use native.Mathlib.Decide.{ℕ_discrete}
use Rattle.protocol.specs.Lookups.{In}
use Rattle.protocol.specs.Net.{Net}
use Rattle.protocol.specs.Rules.{sound}
use Rattle.protocol.specs.Messages.{WRITE}
use Rattle.protocol.specs.State.{pending, Waiting, State, New}
use Rattle.protocol.specs.Events.{History}
use Rattle.protocol.specs.Unchanged.{SameFiles, SameQueue}
use Rattle.protocol.specs.Writing.{Submits, Accepts, Effects}
use Rattle.protocol.specs.Steps.{Step}
use Rattle.protocol.specs.Runs.{Run, new, more}
use Rattle.protocol.specs.Promises.{total, Counted, VersionsFit, VersionsWithin}
use Rattle.protocol.proofs.Lookups.{clash, was, not_some, not_in}
use Rattle.protocol.proofs.Carries.{sent_other}
use Rattle.protocol.proofs.CalmSafe.{drawn_grows}
use Rattle.protocol.proofs.WriteSteps.{Idle, by_write}

-- a number that a station of the network drew
pub record Drawn {Row : Type 0} (n : Net) (s : State Row) (c k : ℕ) : Type 0 where
  pub known : 0 < c
  pub member : c < n.size
  pub drawn : k ≤ s.counter c

pub record Numbers {Row : Type 0} (n : Net) (s : State Row) : Type 0 where
  pub sent : (c f k : ℕ) (x : Row) → In (WRITE c f k x) s.flight → Drawn n s c k
  pub out : (c f k : ℕ) (x : Row) → s.outstanding c ≡ Some (pending f k x) → Drawn n s c k
  pub counted : Counted n s

total_grows : (g h : ℕ → ℕ) (k : ℕ) → ((i : ℕ) → g i ≤ h i) → total g k ≤ total h k
total_grows g h zero l = omega arith
total_grows g h (suc k) l = omega (arith, total_grows g h k l, l k)

total_more : (g h : ℕ → ℕ) (k c : ℕ) → c < k → ((i : ℕ) → g i ≤ h i) → g c < h c → total g k < total h k
total_more g h zero c b l m = absurd (omega arith)
total_more g h (suc k) c b l m = go (ℕ_discrete c k) (λ (p : c < k). total_more g h k c p l m)
  where
    go : Dec (c ≡ k) → (c < k → total g k < total h k) → total g k + g k < total h k + h k
    go (yes e) rest = let m' : g k < h k = rw e at m in omega (arith, total_grows g h k l)
    go (no e) rest = omega (arith, rest (omega arith), l k)

-- a sum of numbers to 1,000,000, of which the first is 0
total_within : (g : ℕ → ℕ) (k : ℕ) → g 0 ≡ 0 → ((i : ℕ) → g i ≤ 1000000) → total g (suc k) ≤ k * 1000000
total_within g zero z l = omega (arith, z)
total_within g (suc k) z l = omega (arith, total_within g k z l, l (suc k))

module _ {Row : Type 0} (n : Net) (s s' : State Row) where
  drawn_kept : ((c : ℕ) → s.counter c ≤ s'.counter c) → (c k : ℕ) → Drawn n s c k → Drawn n s' c k
  drawn_kept cs c k d = record { known = d.known; member = d.member; drawn = omega (arith, d.drawn, cs c) }

  same_counted : ((c : ℕ) → s.counter c ≤ s'.counter c) → SameFiles s s' → SameQueue s s' → Counted n s → Counted n s'
  same_counted cs fs qu i =
      record {
        primary = qu.last 0 ∙ i.primary;
        last = λ c. omega (arith, i.last c, cs c, qu.last c);
        version = λ f.
            rw qu.waiting (omega (
              arith,
              i.version f,
              fs.version f,
              total_grows s.last s'.last n.size
                  (λ c. omega (arith, qu.last c)),
            ));
      }

  idle_numbers : {h h' : History Row} → Numbers n s → Idle h h' s s' → Numbers n s'
  idle_numbers i a =
      record {
        sent = λ c f k x m. drawn_kept a.counter c k (elim (a.write c f k x m) [ inl b ↦ i.sent c f k x b | inr b ↦ i.out c f k x b ]);
        out = λ c f k x e. drawn_kept a.counter c k (i.out c f k x (was (a.outstanding c) e));
        counted = same_counted a.counter a.files a.queue i.counted;
      }

  submits_numbers : {c₀ f₀ : ℕ} {x₀ : Row} → Submits n s s' c₀ f₀ x₀ → Numbers n s → Numbers n s'
  submits_numbers {c₀} {f₀} {x₀} a i =
      record {
        sent = λ c f k x m. sent c f k x (a.flight (WRITE c f k x) m);
        out = λ c f k x e. out c f k x e (a.outstanding c);
        counted = same_counted cs a.files a.queue i.counted;
      }
    where
      cs : (c : ℕ) → s.counter c ≤ s'.counter c
      cs = drawn_grows a.drawn a.counter

      fresh : (c k : ℕ) → c ≡ c₀ → k ≡ s.counter c₀ + 1 → Drawn n s' c k
      fresh c k ec ek = rw (ec, ek) (record { known = a.known; member = a.member; drawn = omega (arith, a.drawn) })

      sent : (c f k : ℕ) (x : Row) → In (WRITE c f k x) s.flight ⊎ (WRITE c f k x ≡ WRITE c₀ f₀ (s.counter c₀ + 1) x₀) → Drawn n s' c k
      sent c f k x (inl m) = drawn_kept cs c k (i.sent c f k x m)
      sent c f k x (inr e) = fresh c k (cc) (cc)

      out :
          (c f k : ℕ) (x : Row) → s'.outstanding c ≡ Some (pending f k x) →
          (s'.outstanding c ≡ s.outstanding c) ⊎ ((c ≡ c₀) × (s'.outstanding c ≡ Some (pending f₀ (s.counter c₀ + 1) x₀))) → Drawn n s' c k
      out c f k x e (inl b) = drawn_kept cs c k (i.out c f k x (sym b ∙ e))
      out c f k x e (inr b) =
          let now : s'.outstanding c ≡ Some (pending f₀ (s.counter c₀ + 1) x₀) = b.1 in
          fresh c k b.0 (cc)

  -- one write more waits, and one last number is larger
  accepts_numbers : {w₀ : Waiting Row} → Accepts s s' w₀ → Numbers n s → Numbers n s'
  accepts_numbers {w₀} a i =
      record {
        sent = λ c f k x m. drawn_kept cs c k (i.sent c f k x (a.flight (WRITE c f k x) m));
        out = λ c f k x e. drawn_kept cs c k (i.out c f k x (sym (a.stations.outstanding c) ∙ e));
        counted = record { primary = primary (a.last 0); last = λ c. last c (a.last c); version = version };
      }
    where
      cs : (c : ℕ) → s.counter c ≤ s'.counter c
      cs c = omega (arith, a.stations.counter c)

      d : Drawn n s w₀.station w₀.number
      d = i.sent w₀.station w₀.file w₀.number w₀.row a.came

      primary : (s'.last 0 ≡ s.last 0) ⊎ (0 ≡ w₀.station) → s'.last 0 ≡ 0
      primary (inl e) = e ∙ i.counted.primary
      primary (inr e) = absurd (omega (arith, d.known))

      last : (c : ℕ) → (s'.last c ≡ s.last c) ⊎ (c ≡ w₀.station) → s'.last c ≤ s'.counter c
      last c (inl e) = omega (arith, i.counted.last c, cs c)
      last c (inr e) = rw e (omega (arith, a.last_now, d.drawn, cs w₀.station))

      grows : (c : ℕ) → s.last c ≤ s'.last c
      grows c = elim (a.last c) [ inl e ↦ omega arith | inr e ↦ rw e (omega (arith, a.above, a.last_now)) ]

      version : (f : ℕ) → s'.version f + length s'.waiting ≤ 1 + total s'.last n.size
      version f =
          let t : total s.last n.size < total s'.last n.size =
          total_more s.last s'.last n.size w₀.station d.member grows (omega (arith, a.above, a.last_now)) in
          let one : length (s.waiting ++ (w₀ ∷ [])) ≡ length s.waiting + 1 = length-append s.waiting (w₀ ∷ []) in
          rw a.waiting (omega (arith, i.counted.version f, a.files.version f))

  -- one write less waits, and one version is larger
  effects_numbers : {w₀ : Waiting Row} {r₀ : ℕ} {b₀ a₀ : List (Waiting Row)} → Effects sound n s s' w₀ r₀ b₀ a₀ → Numbers n s → Numbers n s'
  effects_numbers {w₀} {r₀} {b₀} {a₀} a i =
      record {
        sent = λ c f k x m. drawn_kept cs c k (i.sent c f k x (sent_other a.flight (λ e. clash (cc)) m));
        out = λ c f k x e. drawn_kept cs c k (i.out c f k x (sym (a.stations.outstanding c) ∙ e));
        counted = record {
          primary = a.last 0 ∙ i.counted.primary;
          last = λ c. omega (arith, i.counted.last c, cs c, a.last c);
          version = λ f. version f (a.version f);
        };
      }
    where
      cs : (c : ℕ) → s.counter c ≤ s'.counter c
      cs c = omega (arith, a.stations.counter c)

      grown : (f : ℕ) → (s'.version f ≡ s.version f) ⊎ (f ≡ w₀.file) → s'.version f ≤ s.version f + 1
      grown f (inl e) = omega arith
      grown f (inr e) = rw e (omega (arith, a.version_now))

      version : (f : ℕ) → (s'.version f ≡ s.version f) ⊎ (f ≡ w₀.file) → s'.version f + length s'.waiting ≤ 1 + total s'.last n.size
      version f v =
          let up = grown f v in
          let b : s.version f + length (b₀ ++ (w₀ ∷ a₀)) ≤ 1 + total s.last n.size = rw a.waited at (i.counted.version f) in
          let one = length-append b₀ (w₀ ∷ a₀) in
          let two = length-append b₀ a₀ in
          rw a.waiting (omega (arith, total_grows s.last s'.last n.size (λ c. omega (arith, a.last c))))

  pub step_numbers : {h : History Row} → Step sound n h s s' → Numbers n s → Numbers n s'
  step_numbers {h} a i =
      by_write n h s s' a (λ g. Numbers n s') (idle_numbers i) (λ c f x b. submits_numbers b i) (λ w b. accepts_numbers b i)
      (λ w r b e k. effects_numbers k i)

new_numbers : {Row : Type 0} (n : Net) (empty : Row) (s : State Row) → New empty s → Numbers n s
new_numbers n empty s i =
    record {
      sent = λ c f k x m. absurd (not_in i.flight m);
      out = λ c f k x e. absurd (not_some (i.outstanding c) e);
      counted = record { primary = i.last 0; last = λ c. omega (arith, i.last c); version = λ f. rw i.waiting (omega (arith, i.version f)) };
    }

run_numbers : {Row : Type 0} {n : Net} {empty : Row} {h : History Row} {s : State Row} → Run sound n empty h s → Numbers n s
run_numbers {n = n} {empty = e} {s = s} (new i) = new_numbers n e s i
run_numbers {n = n} (more {s = s} {s' = s'} r a) = step_numbers n s s' a (run_numbers r)

pub versions_fit : {Row : Type 0} → VersionsFit sound Row
versions_fit n empty h s run = (run_numbers run).counted

-- the primary writes nothing, so at most 15 stations do
pub versions_within : {Row : Type 0} (most : ℕ) → 15000001 ≤ most → VersionsWithin sound Row most
versions_within most enough n empty h s run few numbers f = go n.size few (i.version f)
  where
    i : Counted n s
    i = (run_numbers run).counted

    go : (k : ℕ) → k ≤ 16 → s.version f + length s.waiting ≤ 1 + total s.last k → s.version f ≤ most
    go zero l b = omega arith
    go (suc k) l b = omega (arith, total_within s.last k i.primary (λ c. omega (arith, i.last c, numbers c)))
