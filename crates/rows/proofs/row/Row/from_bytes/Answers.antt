use Rattle.std.proofs.Common.{◌≡◌, ℕ, List, length, subst}
use Rattle.rows.specs.Rows.{FieldsRead}
use Rattle.rows.proofs.RoundTrip.{sixteen_long, fields_answer, made_back, read_forth}
use Rattle.rows.proofs.row.Row.from_bytes.Goals as goal

pub returns : goal.returns
returns c =
    let bs = c.args.bytes.now in
    let r = c.by_kind.result in
    let held = c.in_ok-sixteen.ensures in
    let long : length bs ≡ 16 = sixteen_long bs held.0 in
    let fields : FieldsRead bs r = subst (λ (xs : List ℕ). FieldsRead xs r) held.1 c.by_kind.ensures in
    let exact = fields_answer bs r long fields in
    record { exact = exact; back = made_back bs long (λ i. (c.type_inv.bytes i).fits) r fields; forth = λ row e. read_forth bs row r e exact }
