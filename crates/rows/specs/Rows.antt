-- What a row says: its limits, its reading from bytes and its bytes. Assumes nothing.
use Rattle.std.specs.Borrow.{Bor}
use Rattle.std.specs.Prelude.{◌≡◌, ℕ, ◌/◌, ◌%◌, min, Bool, true, false, cond, ◌&&◌, List, ◌∷◌, length, drop, replicate, ℤ, pos, negsuc, Some, None, Ok, Err, Option, Result, ◌==◌, int_le, nat_le, slice_index}
use Rattle.std.specs.Int.{w32}
use Rattle.std.proofs.Common.{to_z, of_z}
use Rattle.faults.specs.declared.fault.Fault.{Fault}
use Rattle.rows.specs.declared.pass.PassRow.{PassRow}
use Rattle.rows.specs.declared.tuning.TuningRow.{TuningRow}
use Rattle.rows.specs.declared.row.Row.{Row}
use Rattle.rows.specs.declared.row.Row.TheVariants.{Empty, Pass, Tuning}
use Rattle.rows.specs.Bytes.{be2, be4, first_nonzero}
use Rattle.faults.specs.Refusals.{unlawful_at}

abbrev pub within : ℕ → ℕ → ℕ → Bool
within low high n = nat_le low n && nat_le n high

-- a field that is in order leaves the answer to the fields after it; one that isn't is told by its place
abbrev pub field : ℕ → Bool → Option ℕ → Option ℕ
field place true rest = rest
field place false rest = Some place

-- the first wrong field of a pass row, and of a tuning row, if there is one; `rest` tells of what follows them
abbrev pub pass_fields : (satellite antenna start seconds : ℕ) → Option ℕ → Option ℕ
pass_fields satellite antenna start seconds rest =
    field 1 (nat_le 1 satellite)
    (field 3 (within 1 8 antenna)
    (field 4 (nat_le start 604799)
    (field 8 (within 1 3600 seconds) rest)))

abbrev pub tuning_fields : (satellite downlink : ℕ) (offset : ℤ) → Option ℕ → Option ℕ
tuning_fields satellite downlink offset rest =
    field 1 (nat_le 1 satellite)
    (field 3 (within 100000000 3000000000 downlink)
    (field 7 (int_le (negsuc 199999) offset && int_le offset (pos 200000)) rest))

pub record PassHas (satellite antenna start seconds : ℕ) (row : PassRow) : Type 0 where
  pub satellite_is : row.satellite ≡ satellite
  pub antenna_is : row.antenna ≡ antenna
  pub start_is : row.start ≡ start
  pub seconds_is : row.seconds ≡ seconds

pub record TuningHas (satellite downlink : ℕ) (offset : ℤ) (row : TuningRow) : Type 0 where
  pub satellite_is : row.satellite ≡ satellite
  pub downlink_is : row.downlink ≡ downlink
  pub offset_is : row.offset ≡ offset

-- an answer that is right where `wrong` is the first wrong field: a row with the fields wanted, or refusal 11 there
abbrev pub Answers : {R : Type 0} → Option ℕ → (R → Type 0) → Result R Fault → Type 0
Answers wrong Has (Ok row) = (wrong ≡ None) × Has row
Answers wrong Has (Err fault) = (place : ℕ) × (wrong ≡ Some place) × (fault ≡ unlawful_at place)

-- a row made of its fields
abbrev pub PassMade : (satellite antenna start seconds : ℕ) → Result PassRow Fault → Type 0
PassMade satellite antenna start seconds =
    Answers (pass_fields satellite antenna start seconds None) (PassHas satellite antenna start seconds)

abbrev pub TuningMade : (satellite downlink : ℕ) (offset : ℤ) → Result TuningRow Fault → Type 0
TuningMade satellite downlink offset =
    Answers (tuning_fields satellite downlink offset None) (TuningHas satellite downlink offset)

-- the fields of 16 bytes; the kind is the first, and each byte that must be zero is one
abbrev pub pass_wrong : List ℕ → Option ℕ
pass_wrong bs =
    field 0 (slice_index bs 0 == 1)
    (pass_fields (be2 bs 1) (slice_index bs 3) (be4 bs 4) (be2 bs 8) (first_nonzero 10 (drop 10 bs)))

abbrev pub tuning_wrong : List ℕ → Option ℕ
tuning_wrong bs =
    field 0 (slice_index bs 0 == 2)
    (tuning_fields (be2 bs 1) (be4 bs 3) (to_z w32 (be4 bs 7)) (first_nonzero 11 (drop 11 bs)))

-- 16 bytes read as a row of one kind
abbrev pub PassIs : List ℕ → PassRow → Type 0
PassIs bs = PassHas (be2 bs 1) (slice_index bs 3) (be4 bs 4) (be2 bs 8)

abbrev pub TuningIs : List ℕ → TuningRow → Type 0
TuningIs bs = TuningHas (be2 bs 1) (be4 bs 3) (to_z w32 (be4 bs 7))

abbrev pub PassRead : List ℕ → Result PassRow Fault → Type 0
PassRead bs = Answers (pass_wrong bs) (PassIs bs)

abbrev pub TuningRead : List ℕ → Result TuningRow Fault → Type 0
TuningRead bs = Answers (tuning_wrong bs) (TuningIs bs)

-- a row is 16 bytes long; fewer lack the byte after the last, and more have one too many at 16
abbrev pub long_enough : List ℕ → Option ℕ → Option ℕ
long_enough bs = field (min (length bs) 16) (length bs == 16)

abbrev pub Held : List ℕ → Result (Bor (List ℕ)) Fault → Type 0
Held bs = Answers (long_enough bs None) (λ all. all.now ≡ bs)

-- the first wrong field of 16 bytes, by the kind in the first, and of any bytes
abbrev pub fields_wrong : List ℕ → Option ℕ
fields_wrong bs =
    cond (slice_index bs 0 == 0) (first_nonzero 1 (drop 1 bs))
    (cond (slice_index bs 0 == 1) (pass_wrong bs)
    (cond (slice_index bs 0 == 2) (tuning_wrong bs) (Some 0)))

abbrev pub row_wrong : List ℕ → Option ℕ
row_wrong bs = long_enough bs (fields_wrong bs)

abbrev pub RowIs : List ℕ → Row → Type 0
RowIs bs Empty = slice_index bs 0 ≡ 0
RowIs bs (Pass row) = (slice_index bs 0 ≡ 1) × PassIs bs row
RowIs bs (Tuning row) = (slice_index bs 0 ≡ 2) × TuningIs bs row

-- 16 bytes, and any bytes, read as a row
abbrev pub FieldsRead : List ℕ → Result Row Fault → Type 0
FieldsRead bs = Answers (fields_wrong bs) (RowIs bs)

abbrev pub RowRead : List ℕ → Result Row Fault → Type 0
RowRead bs = Answers (row_wrong bs) (RowIs bs)

-- a number below 2 ^ 16, and one below 2 ^ 32, in bytes, before others
abbrev pub two : ℕ → List ℕ → List ℕ
two n rest = n / 256 % 256 ∷ n % 256 ∷ rest

abbrev pub four : ℕ → List ℕ → List ℕ
four n rest = n / 16777216 % 256 ∷ n / 65536 % 256 ∷ n / 256 % 256 ∷ n % 256 ∷ rest

-- the bytes of a row
abbrev pub written : Row → List ℕ
written Empty = replicate 16 0
written (Pass row) =
    1 ∷ two row.satellite (row.antenna ∷ four row.start (two row.seconds (replicate 6 0)))
written (Tuning row) =
    2 ∷ two row.satellite (four row.downlink (four (of_z w32 row.offset) (replicate 5 0)))
