-- Which frames are lawful, mark by mark. Assumes nothing.
use Rattle.std.specs.Prelude.{◌≡◌, ℕ, ◌≤◌, List, length, take, drop, None, slice_index}
use Rattle.rows.specs.Rows.{row_wrong}
use Rattle.messages.specs.declared.kind.Kind.{Kind}
use Rattle.messages.specs.declared.kind.Kind.TheVariants.{Ask, Grant, Recall, Approve, Write, Done}
use Rattle.frames.specs.declared.head.Head.{Head}
use Rattle.frames.specs.Heads.{head_in}

-- the two letters AS, GR, RC, AP, WR and DN
abbrev pub mark : Kind → ℕ
mark Ask = 0x4153
mark Grant = 0x4752
mark Recall = 0x5243
mark Approve = 0x4150
mark Write = 0x5752
mark Done = 0x444e

abbrev pub In : (low high n : ℕ) → Type 0
In low high n = (low ≤ n) × (n ≤ high)

abbrev pub Lawful : List ℕ → Type 0
Lawful row = row_wrong row ≡ None

abbrev pub Zero : List ℕ → Type 0
Zero row = (i : ℕ) → slice_index row i ≡ 0

-- the fields that not all kinds use: within their bounds where the kind uses them, and else zero
abbrev pub Uses : Kind → (number version term : ℕ) (row : List ℕ) → Type 0
Uses Ask number version term row = In 1 1000000 number × (version ≡ 0) × (term ≡ 0) × Zero row
Uses Grant number version term row = In 1 1000000 number × In 1 15000001 version × (term ≤ 60000) × Lawful row
Uses Recall number version term row = (number ≡ 0) × In 2 15000001 version × (term ≡ 0) × Zero row
Uses Approve number version term row = (number ≡ 0) × In 2 15000001 version × (term ≡ 0) × Zero row
Uses Write number version term row = In 1 1000000 number × (version ≡ 0) × (term ≡ 0) × Lawful row
Uses Done number version term row = In 1 1000000 number × (version ≡ 0) × (term ≡ 0) × Zero row

-- a lawful frame of a kind, by its head and its row
pub record Fits (kind : Kind) (head : Head) (row : List ℕ) : Type 0 where
  pub marked : head.mark ≡ mark kind
  pub from_fits : head.from ≤ 15
  pub to_fits : head.to ≤ 15
  pub file_fits : head.file ≤ 31
  pub gap_is : head.gap ≡ 0
  pub uses : Uses kind head.number head.version head.term row

pub record LawfulFrame (bs : List ℕ) : Type 0 where
  pub long : length bs ≡ 32
  pub kind : Kind
  pub fits : Fits kind (head_in (take 16 bs)) (drop 16 bs)
