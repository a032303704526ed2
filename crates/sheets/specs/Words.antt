-- The texts of what is found in a row and of a report, as their bytes. Assumes nothing.
use Rattle.std.specs.Prelude.{ℕ, List, ◌++◌, Some, None, Option, codes, decimal}
use Rattle.std.specs.Fmt.{◌++?◌, with_newline}
use Rattle.rows.specs.Words.{pass_words, tuning_words}
use Rattle.sheets.specs.declared.finding.Finding.{Finding}
use Rattle.sheets.specs.declared.finding.Finding.TheVariants.{Empty, Pass, Tuning}
use Rattle.sheets.specs.declared.report.Report.{Report}
use Rattle.lists.specs.Words.{open_words}

abbrev pub finding_words : Finding → List ℕ
finding_words Empty = codes "empty"
finding_words (Pass row (Some number)) = pass_words row ++ (codes ", tuning in row " ++ decimal number)
finding_words (Pass row None) = pass_words row ++ codes ", no tuning row"
finding_words (Tuning row) = tuning_words row

-- the rows as they are listed, and the count that closes a report
abbrev pub report_words : Report → Option (List ℕ)
report_words report =
    open_words (codes "row") (codes "sheet") (λ finding. Some (finding_words finding)) report.rows
    ++? with_newline (Some (codes ", passes without a tuning row " ++ decimal report.untuned))
