use Rattle.sheets.proofs.finding.FindingDisplay.fmt.Goals as goal

pub returns-in-Pass-default-Some-clause-writes : goal.returns-in-Pass-default-Some-clause-writes
returns-in-Pass-default-Some-clause-writes g c =
    let pass = c.in-Pass-default-Some in
    let tuning = rw pass.is at pass.field-1-is in
    rw (pass.is, tuning) c.write-in-Pass-default-Some.ensures.writes

pub returns-in-Pass-default-None-clause-writes : goal.returns-in-Pass-default-None-clause-writes
returns-in-Pass-default-None-clause-writes g c =
    let pass = c.in-Pass-default-None in
    let tuning = rw pass.is at pass.field-1-is in
    rw (pass.is, tuning) c.write-in-Pass-default-None.ensures.writes
