-- What is written reads back the same, and what is read was written so. Assumes nothing.
use Rattle.std.proofs.Common.{◌≡◌, ℕ, zero, suc, ◌+◌, ◌*◌, ◌/◌, ◌%◌, ◌^◌, ◌<◌, ◌≤◌, Bool, true, false, ◌&&◌, eqb, leb, List, length, get_or, drop, ℤ, pos, negsuc, ◌≤ℤ◌, IfOk, None, Ok, Err, Option, Result, sym, refl, ap, ◌∙◌, subst, arith, w32, SFits, to_z, of_z, eq-eqb}
use lib.Lanes.{pick_l}
use lib.Signed.{le_z}
use Rattle.std.specs.List.{range_with_len}
use Rattle.std.proofs.lemmas.Nat.{from_be_bytes-to_be_bytes_4}
use Rattle.std.proofs.lemmas.Option.{none-some}
use Rattle.std.proofs.lemmas.Simd.{pick_l_whole}
use Rattle.std.proofs.lemmas.Int.{ints, to_z-of_z, of_z-to_z}
use Rattle.std.proofs.lemmas.Bool.Decides.{nat_tests}
use Rattle.faults.specs.declared.fault.Fault.{Fault}
use Rattle.rows.specs.declared.pass.PassRow.{PassRow}
use Rattle.rows.specs.declared.tuning.TuningRow.{TuningRow}
use Rattle.rows.specs.declared.row.Row.{Row}
use Rattle.rows.specs.declared.row.Row.TheVariants.{Empty, Pass, Tuning}
use Rattle.rows.specs.Bytes.{be2, be4, first_nonzero}
use Rattle.rows.specs.Rows.{field, within, pass_wrong, tuning_wrong, PassIs, TuningIs, long_enough, FieldsRead, RowRead, RowIs, row_wrong, written}
use Rattle.rows.proofs.Nonzero.{zero_from, zeros_are}
use Rattle.rows.proofs.Same.{same_pass, same_tuning}

-- two bytes, and four, put together again
pub whole2 : (n : ℕ) → n ≤ 65535 → n / 256 % 256 * 256 + n % 256 ≡ n
whole2 n h = omega arith

pub whole4 : (n : ℕ) → n < 2 ^ 32 → n / 16777216 % 256 * 16777216 + n / 65536 % 256 * 65536 + n / 256 % 256 * 256 + n % 256 ≡ n
whole4 = from_be_bytes-to_be_bytes_4

pub offset_fits : (z : ℤ) → negsuc 199999 ≤ℤ z → z ≤ℤ pos 200000 → SFits w32 z
offset_fits (pos n) low high = record { sfits = omega (arith, ints) }
offset_fits (negsuc n) low high = record { sfits = omega (arith, ints) }

offset_bits_fit : (z : ℤ) → negsuc 199999 ≤ℤ z → z ≤ℤ pos 200000 → of_z w32 z < 2 ^ 32
offset_bits_fit (pos n) low high = omega (arith, ints)
offset_bits_fit (negsuc n) low high = omega (arith, ints)

pub read_written : (row : Row) → RowRead (written row) (Ok row)
read_written Empty = (refl, refl)
read_written (Pass p) =
    let s = whole2 p.satellite (omega arith) in
    let t = whole4 p.start (omega arith) in
    let l = whole2 p.seconds (omega arith) in
    (grind (arith, nat_tests), (refl, record { satellite_is = sym s; antenna_is = refl; start_is = sym t; seconds_is = sym l }))
read_written (Tuning t) =
    let f = offset_fits t.offset t.offsets.0 t.offsets.1 in
    let s = whole2 t.satellite (omega arith) in
    let d = whole4 t.downlink (omega arith) in
    let o = whole4 (of_z w32 t.offset) (offset_bits_fit t.offset t.offsets.0 t.offsets.1) in
    let z = ap (to_z w32) o ∙ to_z-of_z w32 t.offset f in
    (grind (arith, nat_tests, ints), (refl, record { satellite_is = sym s; downlink_is = sym d; offset_is = sym z }))

-- bytes that are read as two rows are read as one
pub reads_one : (bs : List ℕ) (row other : Row) → RowIs bs row → RowIs bs other → row ≡ other
reads_one bs Empty Empty h k = refl
reads_one bs Empty (Pass q) h k = absurd (omega arith)
reads_one bs Empty (Tuning u) h k = absurd (omega arith)
reads_one bs (Pass p) Empty h k = absurd (omega arith)
reads_one bs (Pass p) (Pass q) h k = ap Pass (same_pass p q (cc) (cc) (cc) (cc))
reads_one bs (Pass p) (Tuning u) h k = absurd (omega arith)
reads_one bs (Tuning t) Empty h k = absurd (omega arith)
reads_one bs (Tuning t) (Pass q) h k = absurd (omega arith)
reads_one bs (Tuning t) (Tuning u) h k = ap Tuning (same_tuning t u (cc) (cc) (cc))

-- what reading a row's bytes answers is that row
pub read_forth : (bs : List ℕ) (row : Row) (r : Result Row Fault) → written row ≡ bs → RowRead bs r → r ≡ Ok row
read_forth bs row (Ok other) e (none, is) =
    ap Ok (reads_one bs other row is (subst (λ (xs : List ℕ). RowIs xs row) e (read_written row).1))
read_forth bs row (Err fault) e (place, wrong, told) =
    absurd (none-some place (sym (read_written row).0 ∙ ap row_wrong e ∙ wrong))

-- a field that told nothing was in order, and so are those after it
passed : (place : ℕ) (ok : Bool) (rest : Option ℕ) → field place ok rest ≡ None → rest ≡ None
passed place true rest e = e
passed place false rest e = absurd (none-some place (sym e))

module _ (bs : List ℕ) (long : length bs ≡ 16) (fit : (i : ℕ) → get_or bs i 0 < 256) where
  pub same : (xs : List ℕ) → xs ≡ pick_l 0 bs (range_with_len 0 16) → xs ≡ bs
  same xs e = e ∙ pick_l_whole 0 bs 16 long

  pub pair : (i n : ℕ) → n ≡ be2 bs i → (n / 256 % 256 ≡ get_or bs i 0) × (n % 256 ≡ get_or bs (i + 1) 0)
  pair i n e = let a = fit i in let b = fit (i + 1) in (omega arith, omega arith)

  pub quad : (i n : ℕ) → n ≡ be4 bs i → (n / 16777216 % 256 ≡ get_or bs i 0) × (n / 65536 % 256 ≡ get_or bs (i + 1) 0) × (n / 256 % 256 ≡ get_or bs (i + 2) 0) × (n % 256 ≡ get_or bs (i + 3) 0)
  quad i n e =
      let a = fit i in
      let b = fit (i + 1) in
      let c = fit (i + 2) in
      let d = fit (i + 3) in
      (omega arith, omega arith, omega arith, omega arith)

  pass_back : (p : PassRow) → get_or bs 0 0 ≡ 1 → pass_wrong bs ≡ None → PassIs bs p → written (Pass p) ≡ bs
  pass_back p kind none is =
      let kinds = passed 0 (eqb (get_or bs 0 0) 1) _ none in
      let satellites = passed 1 (leb 1 (be2 bs 1)) _ kinds in
      let antennas = passed 3 (within 1 8 (get_or bs 3 0)) _ satellites in
      let starts = passed 4 (leb (be4 bs 4) 604799) _ antennas in
      let zero = zero_from 10 bs (passed 8 (within 1 3600 (be2 bs 8)) _ starts) in
      let z0 = zero 0 in
      let z1 = zero 1 in
      let z2 = zero 2 in
      let z3 = zero 3 in
      let z4 = zero 4 in
      let z5 = zero 5 in
      let s = pair 1 p.satellite is.satellite_is in
      let a = is.antenna_is in
      let t = quad 4 p.start is.start_is in
      let l = pair 8 p.seconds is.seconds_is in
      same (written (Pass p)) (cc)

  tuning_back : (t : TuningRow) → get_or bs 0 0 ≡ 2 → tuning_wrong bs ≡ None → TuningIs bs t → written (Tuning t) ≡ bs
  tuning_back t kind none is =
      let kinds = passed 0 (eqb (get_or bs 0 0) 2) _ none in
      let satellites = passed 1 (leb 1 (be2 bs 1)) _ kinds in
      let downlinks = passed 3 (within 100000000 3000000000 (be4 bs 3)) _ satellites in
      let zero = zero_from 11 bs (passed 7 (le_z (negsuc 199999) (to_z w32 (be4 bs 7)) && le_z (to_z w32 (be4 bs 7)) (pos 200000)) _ downlinks) in
      let z0 = zero 0 in
      let z1 = zero 1 in
      let z2 = zero 2 in
      let z3 = zero 3 in
      let z4 = zero 4 in
      let s = pair 1 t.satellite is.satellite_is in
      let d = quad 3 t.downlink is.downlink_is in
      let w : be4 bs 7 < 2 ^ 32 = omega (arith, fit 7, fit 8, fit 9, fit 10) in
      let o = quad 7 (of_z w32 t.offset) (ap (of_z w32) is.offset_is ∙ of_z-to_z w32 (be4 bs 7) w) in
      same (written (Tuning t)) (cc)

  all_zero : get_or bs 0 0 ≡ 0 → first_nonzero 1 (drop 1 bs) ≡ None → (i : ℕ) → get_or bs i 0 ≡ 0
  all_zero kind none zero = kind
  all_zero kind none (suc k) = let next : suc k ≡ 1 + k = omega arith in ap (λ n. get_or bs n 0) next ∙ zero_from 1 bs none k

  -- what is read from 16 bytes is written as those bytes
  written_back : (row : Row) → FieldsRead bs (Ok row) → written row ≡ bs
  written_back Empty (none, kind) =
      let rest : first_nonzero 1 (drop 1 bs) ≡ None = grind (arith, nat_tests) in
      zeros_are 16 bs long (all_zero kind rest)
  written_back (Pass p) (none, is) =
      let rest : pass_wrong bs ≡ None = grind (arith, nat_tests) in
      pass_back p is.0 rest is.1
  written_back (Tuning t) (none, is) =
      let rest : tuning_wrong bs ≡ None = grind (arith, nat_tests) in
      tuning_back t is.0 rest is.1

  pub made_back : (r : Result Row Fault) → FieldsRead bs r → IfOk r (λ row. written row ≡ bs)
  made_back (Ok row) h = written_back row h
  made_back (Err fault) h = tt

pub sixteen_long : (bs : List ℕ) → long_enough bs None ≡ None → length bs ≡ 16
sixteen_long bs h = grind (arith, nat_tests)

-- of a slice of 16 bytes the fields alone answer
pub fields_answer : (bs : List ℕ) (r : Result Row Fault) → length bs ≡ 16 → FieldsRead bs r → RowRead bs r
fields_answer bs (Ok row) long (none, is) = (rw (eq-eqb (length bs) 16 long) none, is)
fields_answer bs (Err fault) long (place, wrong, told) = (place, rw (eq-eqb (length bs) 16 long) wrong, told)
