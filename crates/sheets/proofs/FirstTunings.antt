-- Noting one row more keeps each satellite's first tuning row. Assumes nothing.
use Rattle.std.proofs.Common.{◌≡◌, ℕ, ◌+◌, ◌<◌, Bool, true, false, cond, eqb, ◌≢◌, ◌⊎◌, List, length, get_or, set, replicate, is_some, Some, None, Ok, Err, Option, Result, sym, refl, ap, ◌∙◌, subst, inl, inr, ⊎_elim, arith, get_or-set_other, get_or-set_same, below_more}
use Rattle.std.proofs.lemmas.List.{get_or-replicate}
use Rattle.std.proofs.lemmas.Bool.Decides.{nat_tests, eqb_tells}
use Rattle.faults.specs.declared.fault.Fault.{Fault}
use Rattle.rows.specs.declared.row.Row.{Row}
use Rattle.rows.specs.declared.row.Row.TheVariants.{Empty, Pass, Tuning}
use Rattle.rows.specs.declared.tuning.TuningRow.{TuningRow}
use Rattle.rows.specs.Rows.{RowRead}
use Rattle.sheets.specs.Sheet.{row_bytes, tunes, FirstTuning, FirstTunings, noted}

-- which satellite a row that was read tunes
abbrev tuned : Result Row Fault → ℕ → Bool
tuned (Ok Empty) satellite = false
tuned (Ok (Pass row)) satellite = false
tuned (Ok (Tuning row)) satellite = eqb row.satellite satellite
tuned (Err fault) satellite = false

tunes_read : (bs : List ℕ) (r : Result Row Fault) (satellite : ℕ) → RowRead bs r → tunes bs satellite ≡ tuned r satellite
tunes_read bs (Ok Empty) satellite (none, kind) = rw (none, kind) refl
tunes_read bs (Ok (Pass row)) satellite (none, is) = rw (none, is.0) refl
tunes_read bs (Ok (Tuning row)) satellite (none, is) = rw (none, is.0, is.1.satellite_is) refl
tunes_read bs (Err fault) satellite (place, wrong, told) = rw wrong refl

-- a row that doesn't tune the satellite, or comes after its first tuning row, leaves that as it is
first_stays : (sheet : List ℕ) (rows satellite : ℕ) (o : Option ℕ) → (is_some o ≡ true) ⊎ (tunes (row_bytes sheet rows) satellite ≡ false) → FirstTuning sheet rows satellite o → FirstTuning sheet (rows + 1) satellite o
first_stays sheet rows satellite None (inl some) first = absurd (grind (arith, nat_tests))
first_stays sheet rows satellite None (inr other) first = below_more _ _ first other
first_stays sheet rows satellite (Some number) _ (index, numbered, below, here, before) = (index, numbered, omega arith, here, before)

-- the same where the row tunes a satellite whose place holds o
tuning_more : (sheet : List ℕ) (rows : ℕ) (first : List (Option ℕ)) (row : TuningRow) (o : Option ℕ) → length first ≡ 65536 → RowRead (row_bytes sheet rows) (Ok (Tuning row)) → FirstTunings sheet rows first → get_or first row.satellite None ≡ o → FirstTunings sheet (rows + 1) (cond (is_some o) first (set first row.satellite (Some (rows + 1))))
tuning_more sheet rows first row (Some number) long read notes there s lt =
    let here : tunes (row_bytes sheet rows) s ≡ eqb row.satellite s = tunes_read (row_bytes sheet rows) (Ok (Tuning row)) s read in
    first_stays sheet rows s (get_or first s None)
    (⊎_elim (λ same. inl (ap (λ (n : ℕ). is_some (get_or first n None)) (sym same.1) ∙ ap is_some there)) (λ other. inr (here ∙ other.0)) (eqb_tells row.satellite s))
    (notes s lt)
tuning_more sheet rows first row None long read notes there s lt =
    let here : tunes (row_bytes sheet rows) s ≡ eqb row.satellite s = tunes_read (row_bytes sheet rows) (Ok (Tuning row)) s read in
    let known : row.satellite < length first = omega arith in
    ⊎_elim
    (λ same.
    subst (λ (o : Option ℕ). FirstTuning sheet (rows + 1) s o)
    (sym (ap (λ (n : ℕ). get_or (set first row.satellite (Some (rows + 1))) n None) (sym same.1) ∙ get_or-set_same first row.satellite (Some (rows + 1)) None known))
    (rows, refl, omega arith, here ∙ same.0, subst (λ (o : Option ℕ). FirstTuning sheet rows s o) (ap (λ (n : ℕ). get_or first n None) (sym same.1) ∙ there) (notes s lt)))
    (λ other.
    let apart : s ≢ row.satellite = λ e. other.1 (sym e) in
    rw get_or-set_other (first_stays sheet rows s (get_or first s None) (inr (here ∙ other.0)) (notes s lt)))
    (eqb_tells row.satellite s)

pub notes_more : (sheet : List ℕ) (rows : ℕ) (first : List (Option ℕ)) (r : Result Row Fault) → length first ≡ 65536 → RowRead (row_bytes sheet rows) r → FirstTunings sheet rows first → FirstTunings sheet (rows + 1) (noted first (rows + 1) r)
notes_more sheet rows first (Ok Empty) long read notes s lt = first_stays sheet rows s _ (inr (tunes_read (row_bytes sheet rows) (Ok Empty) s read)) (notes s lt)
notes_more sheet rows first (Ok (Pass row)) long read notes s lt = first_stays sheet rows s _ (inr (tunes_read (row_bytes sheet rows) (Ok (Pass row)) s read)) (notes s lt)
notes_more sheet rows first (Ok (Tuning row)) long read notes s lt = tuning_more sheet rows first row (get_or first row.satellite None) long read notes refl s lt
notes_more sheet rows first (Err fault) long read notes s lt = first_stays sheet rows s _ (inr (tunes_read (row_bytes sheet rows) (Err fault) s read)) (notes s lt)

-- a relation that None has to no Some relates it to itself alone
pub only_none : (R : Option ℕ → Type 0) → ((n : ℕ) → R (Some n) → ⊥) → (o : Option ℕ) → R o → o ≡ None
only_none R apart None r = refl
only_none R apart (Some n) r = absurd (apart n r)

pub notes_none : (sheet : List ℕ) (first : List (Option ℕ)) → first ≡ replicate 65536 None → FirstTunings sheet 0 first
notes_none sheet first empty s lt = rw (empty, get_or-replicate {A = Option ℕ} 65536 s None None lt) (λ i below. absurd (omega arith))
