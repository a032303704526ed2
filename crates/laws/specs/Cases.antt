-- Cases of the rules worked by hand, as one table. Assumes nothing.
use Rattle.std.specs.Prelude.{◌≡◌, ℕ, ◌≤◌, List, [], ◌∷◌, ◌++◌, replicate, ℤ, pos, negsuc, ◌≤ℤ◌, Ok, Err, Result}
use Rattle.std.proofs.Common.{lit≤}
use Rattle.faults.specs.declared.fault.Fault.{Fault}
use Rattle.rows.specs.declared.pass.PassRow.{PassRow}
use Rattle.rows.specs.declared.tuning.TuningRow.{TuningRow}
use Rattle.rows.specs.declared.row.Row.{Row}
use Rattle.rows.specs.declared.row.Row.TheVariants.{Pass, Tuning}
use Rattle.faults.specs.Refusals.{number_of, layer_number, unlawful_at}
use Rattle.rows.specs.Rows.{RowRead, written}

-- a claim about the rules
pub data Case : Type 0 where
  -- what reading the bytes answers
  reads : List ℕ → Result Row Fault → Case
  -- the bytes that a row is written as
  writes : Row → List ℕ → Case
  -- the number, the byte and the layer by which a fault is told
  tells : Fault → (number place layer : ℕ) → Case

abbrev pub Holds : Case → Type 0
Holds (reads bs r) = RowRead bs r
Holds (writes row bs) = written row ≡ bs
Holds (tells fault number place layer) =
    (number_of fault.refusal ≡ number) × (fault.place ≡ place) × (layer_number fault.layer ≡ layer)

abbrev pub Every : List Case → Type 0
Every [] = Unit {0}
Every (c ∷ cs) = Holds c × Every cs

-- satellite 7 on an antenna, from second 36,000 of the week on, for 600 seconds
abbrev pub pass_bytes : ℕ → List ℕ
pass_bytes antenna = 0x01 ∷ 0x00 ∷ 0x07 ∷ antenna ∷ 0x00 ∷ 0x00 ∷ 0x8c ∷ 0xa0 ∷ 0x02 ∷ 0x58 ∷ replicate 6 0

abbrev pub pass_on : (antenna : ℕ) → (1 ≤ antenna) × (antenna ≤ 8) → PassRow
pass_on antenna lawful =
    record {
      satellite = 7;
      antenna = antenna;
      start = 36000;
      seconds = 600;
      satellites = (lit≤ tt, lit≤ tt);
      antennas = lawful;
      starts = lit≤ tt;
      lengths = (lit≤ tt, lit≤ tt);
    }

-- satellite 7 at 437,000,000 Hz with an offset, given by its four bytes
abbrev pub tuning_bytes : List ℕ → List ℕ
tuning_bytes offset = 0x02 ∷ 0x00 ∷ 0x07 ∷ 0x1a ∷ 0x0c ∷ 0x17 ∷ 0x40 ∷ offset ++ replicate 5 0

abbrev pub tuning_by : (offset : ℤ) → (negsuc 199999 ≤ℤ offset) × (offset ≤ℤ pos 200000) → TuningRow
tuning_by offset lawful =
    record {
      satellite = 7;
      downlink = 437000000;
      offset = offset;
      satellites = (lit≤ tt, lit≤ tt);
      downlinks = (lit≤ tt, lit≤ tt);
      offsets = lawful;
    }

-- the rows of the cases: on antennas 3 and 8, and with offsets of −9,500 Hz and of −200,000 Hz, the widest below
abbrev pub pass_on_3 : PassRow
pass_on_3 = pass_on 3 (lit≤ tt, lit≤ tt)

abbrev pub pass_on_8 : PassRow
pass_on_8 = pass_on 8 (lit≤ tt, lit≤ tt)

abbrev pub tuning_below : TuningRow
tuning_below = tuning_by (negsuc 9499) (record { le = tt }, record { le = tt })

abbrev pub tuning_widest : TuningRow
tuning_widest = tuning_by (negsuc 199999) (record { le = tt }, record { le = tt })

abbrev pub table : List Case
table =
    reads (pass_bytes 3) (Ok (Pass pass_on_3)) ∷
    writes (Pass pass_on_3) (pass_bytes 3) ∷
    reads (tuning_bytes (0xff ∷ 0xff ∷ 0xda ∷ 0xe4 ∷ [])) (Ok (Tuning tuning_below)) ∷
    writes (Tuning tuning_below) (tuning_bytes (0xff ∷ 0xff ∷ 0xda ∷ 0xe4 ∷ [])) ∷
    reads (pass_bytes 8) (Ok (Pass pass_on_8)) ∷
    reads (pass_bytes 9) (Err (unlawful_at 3)) ∷
    tells (unlawful_at 3) 11 3 2 ∷
    reads (tuning_bytes (0xff ∷ 0xfc ∷ 0xf2 ∷ 0xc0 ∷ [])) (Ok (Tuning tuning_widest)) ∷
    reads (tuning_bytes (0xff ∷ 0xfc ∷ 0xf2 ∷ 0xbf ∷ [])) (Err (unlawful_at 7)) ∷
    tells (unlawful_at 7) 11 7 2 ∷ []
