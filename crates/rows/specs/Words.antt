-- Rows in words, as the bytes of their texts. Assumes nothing.
use Rattle.std.specs.Prelude.{ℕ, List, ◌++◌, codes, decimal}
use Rattle.std.specs.Fmt.{signed_decimal}
use Rattle.rows.specs.declared.pass.PassRow.{PassRow}
use Rattle.rows.specs.declared.tuning.TuningRow.{TuningRow}
use Rattle.rows.specs.declared.row.Row.{Row}
use Rattle.rows.specs.declared.row.Row.TheVariants.{Empty, Pass, Tuning}

abbrev pub pass_words : PassRow → List ℕ
pass_words row =
    codes "pass of satellite " ++ (decimal row.satellite ++
    (codes " on antenna " ++ (decimal row.antenna ++
    (codes ", start " ++ (decimal row.start ++
    (codes " s, length " ++ (decimal row.seconds ++ codes " s")))))))

abbrev pub tuning_words : TuningRow → List ℕ
tuning_words row =
    codes "tuning of satellite " ++ (decimal row.satellite ++
    (codes ", downlink " ++ (decimal row.downlink ++
    (codes " Hz, offset " ++ (signed_decimal row.offset ++ codes " Hz")))))

abbrev pub row_words : Row → List ℕ
row_words Empty = codes "empty"
row_words (Pass row) = pass_words row
row_words (Tuning row) = tuning_words row
