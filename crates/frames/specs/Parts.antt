-- A message laid out flat, with all the fields that a frame has. Assumes nothing.
use Rattle.std.specs.Prelude.{ℕ}
use Rattle.rows.specs.declared.row.Row.{Row}
use Rattle.rows.specs.declared.row.Row.TheVariants.{Empty}
use Rattle.messages.specs.declared.body.Body.{Body}
use Rattle.messages.specs.declared.body.Body.TheVariants.{Ask, Grant, Recall, Approve, Write, Done}
use Rattle.messages.specs.declared.kind.Kind.{Kind}
use Rattle.messages.specs.declared.kind.Kind.TheVariants as kind
use Rattle.messages.specs.declared.message.Message.{Message}
use Rattle.frames.specs.declared.parts.Parts.{Parts}
use Rattle.messages.specs.Kinds.{kind_of}

-- number, version, term and row of a body; one that its kind doesn't use is 0, and a row empty
abbrev pub says : Body → ℕ × ℕ × ℕ × Row
says (Ask number) = (number, 0, 0, Empty)
says (Grant number version term row) = (number, version, term, row)
says (Recall version) = (0, version, 0, Empty)
says (Approve version) = (0, version, 0, Empty)
says (Write number row) = (number, 0, 0, row)
says (Done number) = (number, 0, 0, Empty)

abbrev pub flat : (from to file : ℕ) → Body → Parts
flat from to file body =
    record {
      kind = kind_of body;
      from = from;
      to = to;
      file = file;
      number = (says body).0;
      version = (says body).1;
      term = (says body).2;
      row = (says body).3;
    }

abbrev pub parts : Message → Parts
parts m = flat m.from m.to m.file m.body

-- what the fields say, by the kind
abbrev pub body_by : Kind → (number version term : ℕ) → Row → Body
body_by kind.Ask number version term row = Ask number
body_by kind.Grant number version term row = Grant number version term row
body_by kind.Recall number version term row = Recall version
body_by kind.Approve number version term row = Approve version
body_by kind.Write number version term row = Write number row
body_by kind.Done number version term row = Done number

abbrev pub body_of : Parts → Body
body_of p = body_by p.kind p.number p.version p.term p.row
