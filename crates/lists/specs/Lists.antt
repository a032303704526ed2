-- What a list that was read says. Assumes nothing.
use Rattle.std.specs.Prelude.{◌≡◌, ℕ, ◌+◌, ◌*◌, ◌/◌, ◌%◌, ◌<◌, Bool, List, length, take, drop, vec_items, Result, slice_index_or, is_err, count_by}
use Rattle.faults.specs.declared.fault.Fault.{Fault}
use Rattle.lists.specs.declared.line.Line.{Line}
use Rattle.lists.specs.declared.listing.Listing.{Listing}

-- how many whole records of a size a run of bytes has
abbrev pub record_count : (size : ℕ) → List ℕ → ℕ
record_count size bytes = length bytes / size

-- the bytes of a record, counted from 0
abbrev pub record_bytes : (size : ℕ) → List ℕ → (index : ℕ) → List ℕ
record_bytes size bytes index = take size (drop (index * size) bytes)

-- a line has its record's number, from 1 on, and what reading the record's bytes answers
pub record LineIs {R T : Type 0} (Reads : List ℕ → Result T Fault → Type 0) (size : ℕ) (bytes : List ℕ) (index : ℕ) (line : Line R T) : Type 0 where
  pub numbered : line.number ≡ index + 1
  pub found_is : Reads (record_bytes size bytes index) line.found

-- the lines of the first records
pub record LinesAre {R T : Type 0} (Reads : List ℕ → Result T Fault → Type 0) (size : ℕ) (bytes : List ℕ) (records : ℕ) (lines : List (Line R T)) : Type 0 where
  pub each_record : length lines ≡ records
  pub each_line : (index : ℕ) (none : Line R T) → index < records → LineIs Reads size bytes index (slice_index_or lines index none)

-- whether a record was refused
abbrev pub refused : {R T : Type 0} → Line R T → Bool
refused line = is_err line.found

-- a line for each whole record, in order; the count is the lines'; the bytes after the last record are told
pub record Listed {R T : Type 0} (Reads : List ℕ → Result T Fault → Type 0) (size : ℕ) (bytes : List ℕ) (listing : Listing R T) : Type 0 where
  pub lines_are : LinesAre Reads size bytes (record_count size bytes) (vec_items listing.lines)
  pub faults_are : listing.faults ≡ count_by refused (vec_items listing.lines)
  pub left_over_is : listing.left_over ≡ length bytes % size
