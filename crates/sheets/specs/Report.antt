-- What a checked sheet says. Assumes nothing.
use Rattle.std.specs.Prelude.{◌≡◌, ℕ, Bool, true, false, List, Some, None, Ok, Err, Result, vec_items, count_by}
use Rattle.faults.specs.declared.fault.Fault.{Fault}
use Rattle.lists.specs.declared.line.Line.{Line}
use Rattle.lists.specs.Lists.{Listed}
use Rattle.sheets.specs.declared.finding.Finding.{Finding}
use Rattle.sheets.specs.declared.finding.Finding.TheVariants.{Empty, Pass, Tuning}
use Rattle.sheets.specs.declared.report.Report.{Report}
use Rattle.sheets.specs.Sheet.{FindingIs}

-- whether a row is a pass row without a tuning row
abbrev pub untuned_finding : Result Finding Fault → Bool
untuned_finding (Ok Empty) = false
untuned_finding (Ok (Pass p None)) = true
untuned_finding (Ok (Pass p (Some number))) = false
untuned_finding (Ok (Tuning t)) = false
untuned_finding (Err fault) = false

abbrev pub untuned : {R : Type 0} → Line R Finding → Bool
untuned line = untuned_finding line.found

-- a line for each whole row, in order; the counts are the lines'; the bytes after the last row are told
pub record Checked (sheet : List ℕ) (report : Report) : Type 0 where
  pub listed : Listed (FindingIs sheet) 16 sheet report.rows
  pub untuned_are : report.untuned ≡ count_by untuned (vec_items report.rows.lines)
