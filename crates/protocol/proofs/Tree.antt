-- Who stands above whom.
-- Assumes nothing.
use Rattle.std.proofs.Common.{◌≡◌, ℕ, zero, suc, ◌<◌, ◌≤◌, ◌⊎◌, sym, refl, inl, inr, arith}
use native.Mathlib.Decide.{ℕ_discrete}
use Rattle.protocol.specs.Net.{Net}

-- q is the station c or stands above it, and is not the primary
pub data Path (n : Net) : ℕ → ℕ → Type 0 where
  self : {c : ℕ} → 0 < c → Path n c c
  up : {q c : ℕ} → 0 < c → Path n q (n.parent c) → Path n q c

-- a child of q at or above d
pub record ChildAbove (n : Net) (q d : ℕ) : Type 0 where
  pub child : ℕ
  pub known : 0 < child
  pub below : n.parent child ≡ q
  pub path : Path n child d

-- the way up begins at the station itself or goes on from its parent
pub first_link : {n : Net} {q c : ℕ} → Path n q c → (q ≡ c) ⊎ Path n q (n.parent c)
first_link (self h) = inl refl
first_link (up h p) = inr p

-- what stands below q stands at or below a child of q
pub last_link : {n : Net} {q d : ℕ} → Path n q d → (q ≡ d) ⊎ ChildAbove n q d
last_link (self h) = inl refl
last_link {n} {q} {d} (up h p) = go (last_link p)
  where
    go : (q ≡ n.parent d) ⊎ ChildAbove n q (n.parent d) → (q ≡ d) ⊎ ChildAbove n q d
    go (inl e) = inr (record { child = d; known = h; below = sym e; path = self h })
    go (inr c) = inr (record { child = c.child; known = c.known; below = c.below; path = up h c.path })

top_link_within : (n : Net) (k c : ℕ) → c ≤ k → 0 < c → ChildAbove n 0 c
top_link_within n zero c h st = absurd (omega arith)
top_link_within n (suc k) c h st =
    go (ℕ_discrete (n.parent c) 0) (λ (l : 0 < n.parent c). top_link_within n k (n.parent c) (omega (arith, n.down c st)) l)
  where
    go : Dec (n.parent c ≡ 0) → (0 < n.parent c → ChildAbove n 0 (n.parent c)) → ChildAbove n 0 c
    go (yes e) above = record { child = c; known = st; below = e; path = self st }
    go (no e) above =
        let t : ChildAbove n 0 (n.parent c) = above (omega arith) in
        record { child = t.child; known = t.known; below = t.below; path = up st t.path }

-- every station stands at or below a child of the primary
pub top_link : (n : Net) (c : ℕ) → 0 < c → ChildAbove n 0 c
top_link n c st = top_link_within n c c (omega arith) st

-- nobody stands above the primary
pub no_path_to_primary : {n : Net} {q c : ℕ} → Path n q c → 0 < c
no_path_to_primary (self h) = h
no_path_to_primary (up h p) = h
