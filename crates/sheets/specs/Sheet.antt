-- The rows of a sheet, what is found in them, and which of them tune a satellite. Assumes nothing.
use Rattle.std.specs.Prelude.{◌≡◌, ℕ, ◌+◌, ◌<◌, Bool, true, false, cond, not, ◌&&◌, List, is_some, Some, None, Ok, Err, Option, Result, ◌==◌, slice_index, slice_index_or, slice_set}
use Rattle.faults.specs.declared.fault.Fault.{Fault}
use Rattle.rows.specs.declared.row.Row.{Row}
use Rattle.rows.specs.declared.row.Row.TheVariants as row
use Rattle.rows.specs.Bytes.{be2}
use Rattle.rows.specs.Rows.{row_wrong, RowRead}
use Rattle.lists.specs.Lists.{record_count, record_bytes}
use Rattle.sheets.specs.declared.finding.Finding.{Finding}
use Rattle.sheets.specs.declared.finding.Finding.TheVariants.{Empty, Pass, Tuning}

-- how many whole rows a sheet has, and the bytes of a row, counted from 0
abbrev pub row_count : List ℕ → ℕ
row_count = record_count 16

abbrev pub row_bytes : List ℕ → ℕ → List ℕ
row_bytes = record_bytes 16

-- whether these bytes are a lawful tuning row of the satellite
abbrev pub tunes : List ℕ → ℕ → Bool
tunes bs satellite = not (is_some (row_wrong bs)) && (slice_index bs 0 == 2 && be2 bs 1 == satellite)

-- the number of the satellite's first tuning row among the sheet's first rows, where the first row has the number 1
abbrev pub FirstTuning : (sheet : List ℕ) (rows satellite : ℕ) → Option ℕ → Type 0
FirstTuning sheet rows satellite None = (i : ℕ) → i < rows → tunes (row_bytes sheet i) satellite ≡ false
FirstTuning sheet rows satellite (Some number) =
    (index : ℕ) × (number ≡ index + 1) × (index < rows) × (tunes (row_bytes sheet index) satellite ≡ true)
    × ((i : ℕ) → i < index → tunes (row_bytes sheet i) satellite ≡ false)

-- a table that holds the first tuning row of each satellite
abbrev pub FirstTunings : (sheet : List ℕ) (rows : ℕ) → List (Option ℕ) → Type 0
FirstTunings sheet rows first = (s : ℕ) → s < 65536 → FirstTuning sheet rows s (slice_index_or first s None)

-- such a table, once the row with a number is noted
abbrev pub noted : List (Option ℕ) → ℕ → Result Row Fault → List (Option ℕ)
noted first number (Ok row.Empty) = first
noted first number (Ok (row.Pass p)) = first
noted first number (Ok (row.Tuning t)) =
    cond (is_some (slice_index_or first t.satellite None)) first (slice_set first t.satellite (Some number))
noted first number (Err fault) = first

-- what is found in a row is what reading its bytes answers; beside a pass row stands what `tuning_of` tells of its satellite
abbrev pub FoundIn : (tuning_of : ℕ → Option ℕ → Type 0) → List ℕ → Result Finding Fault → Type 0
FoundIn tuning_of bs (Ok Empty) = RowRead bs (Ok row.Empty)
FoundIn tuning_of bs (Ok (Pass p tuning)) = RowRead bs (Ok (row.Pass p)) × tuning_of p.satellite tuning
FoundIn tuning_of bs (Ok (Tuning t)) = RowRead bs (Ok (row.Tuning t))
FoundIn tuning_of bs (Err fault) = RowRead bs (Err fault)

-- the same beside a table of first tuning rows
abbrev pub FindingRead : List (Option ℕ) → List ℕ → Result Finding Fault → Type 0
FindingRead first = FoundIn (λ satellite tuning. tuning ≡ slice_index_or first satellite None)

-- and in a whole sheet: a pass row names its satellite's first tuning row
abbrev pub FindingIs : (sheet : List ℕ) → List ℕ → Result Finding Fault → Type 0
FindingIs sheet = FoundIn (FirstTuning sheet (row_count sheet))
