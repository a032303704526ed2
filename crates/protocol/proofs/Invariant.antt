-- The safety invariant: what holds of copies, asks, recalls and approvals in every state of a run.
-- Assumes nothing.
use Rattle.std.proofs.Common.{◌≡◌, ℕ, ◌+◌, ◌-◌, ◌*◌, ◌<◌, ◌≤◌, max, ◌⊎◌, Some}
use Rattle.protocol.specs.Lookups.{In}
use Rattle.protocol.specs.Net.{Net}
use Rattle.protocol.specs.Rules.{sound, run_out}
use Rattle.protocol.specs.Messages.{ASK, GRANT, RECALL, APPROVE}
use Rattle.protocol.specs.State.{lease, request, State, Busy}
use Rattle.protocol.proofs.Tree.{Path}

-- no reading that the clock of c could give is below y, now or later
abbrev pub Dead : {Row : Type 0} → Net → State Row → ℕ → ℕ → Type 0
Dead n s c y = y ≤ s.time - n.bound c

-- c holds, or may still come to hold, row x of version v until y
pub data Offer {Row : Type 0} (n : Net) (s : State Row) (c f : ℕ) (x : Row) (v y : ℕ) : Type 0 where
  held : s.copy c f ≡ Some (lease x v y) → Offer n s c f x v y
  coming :
      (k t a : ℕ) → In (GRANT c f k x v t) s.flight → s.ask c f ≡ Some (request k a) → y ≡ run_out sound n c a t →
      Offer n s c f x v y

-- the reading until which the parent of q holds the file for q
abbrev pub reach : {Row : Type 0} → Net → State Row → ℕ → ℕ → ℕ
reach n s f q = max (s.entry f q) (s.quiet (n.parent q))

-- the parent of q holds the file for longer than an offer to c lasts, and a restart of that parent now would do so too
pub record Link {Row : Type 0} (n : Net) (s : State Row) (c f y q : ℕ) : Type 0 where
  pub kept : y + n.bound c + n.bound (n.parent q) ≤ reach n s f q
  pub short : y + n.bound c + 2 * n.bound (n.parent q) ≤ s.time + n.longest

-- an offer is the primary's row and version, and every link above it holds the file for it
pub record Covered {Row : Type 0} (n : Net) (s : State Row) (c f : ℕ) (x : Row) (v y : ℕ) : Type 0 where
  pub row : x ≡ s.row f
  pub version : v ≡ s.version f
  pub links : (q : ℕ) → Path n q c → Link n s c f y q

abbrev pub Cover : {Row : Type 0} → Net → State Row → Type 0
Cover {Row} n s =
    (c f : ℕ) (x : Row) (v y : ℕ) → 0 < c → Offer n s c f x v y → Dead n s c y ⊎ Covered n s c f x v y

-- an ask's reading is no later than a clock could give, and no number is ahead of the counter
pub record Asks {Row : Type 0} (n : Net) (s : State Row) : Type 0 where
  pub opened : (c f k a : ℕ) → s.ask c f ≡ Some (request k a) → (a ≤ s.time + n.bound c) × (k ≤ s.counter c)
  pub asked : (c f k : ℕ) → In (ASK c f k) s.flight → k ≤ s.counter c
  pub granted : (c f k : ℕ) (x : Row) (v t : ℕ) → In (GRANT c f k x v t) s.flight → k ≤ s.counter c

-- a recall or an approval concerns a child of the primary, and the file's next version only while a write waits
pub record Timely {Row : Type 0} (n : Net) (s : State Row) (c f w : ℕ) : Type 0 where
  pub known : 0 < c
  pub below : n.parent c ≡ 0
  pub next : (w ≤ s.version f) ⊎ ((w ≡ s.version f + 1) × Busy s f)

pub record Recalls {Row : Type 0} (n : Net) (s : State Row) : Type 0 where
  pub recalled : (c f w : ℕ) → In (RECALL c f w) s.flight → Timely n s c f w
  pub approved : (c f w : ℕ) → In (APPROVE c f w) s.flight → Timely n s c f w

-- nothing at or below c is live on the file but what has version w or a later one
abbrev pub Gone : {Row : Type 0} → Net → State Row → ℕ → ℕ → ℕ → Type 0
Gone {Row} n s c f w = (d : ℕ) (x : Row) (v y : ℕ) → 0 < d → Path n c d → Offer n s d f x v y → Dead n s d y ⊎ (w ≤ v)

abbrev pub Approvals : {Row : Type 0} → Net → State Row → Type 0
Approvals n s = (c f w : ℕ) → In (APPROVE c f w) s.flight → Gone n s c f w

pub record Safe {Row : Type 0} (n : Net) (s : State Row) : Type 0 where
  pub cover : Cover n s
  pub asks : Asks n s
  pub recalls : Recalls n s
  pub approvals : Approvals n s
