-- A body and its flat fields tell one another, and are lawful together. Assumes nothing.
use Rattle.std.proofs.Common.{rules, ◌≡◌, ℕ, true, List, refl, arith}
use Rattle.std.proofs.lemmas.Bool.Decides.{nat_tests}
use Rattle.rows.specs.declared.row.Row.{Row}
use Rattle.rows.specs.declared.row.Row.TheVariants.{Empty}
use Rattle.rows.specs.Rows.{RowIs, written}
use Rattle.rows.proofs.RoundTrip.{read_written}
use Rattle.messages.specs.declared.body.Body.{Body}
use Rattle.messages.specs.declared.kind.Kind.{Kind}
use Rattle.frames.specs.declared.parts.Parts.{Parts}
use Rattle.frames.specs.Accepts.{Zero, Uses}
use Rattle.messages.specs.Bounds.{lawful_body}
use Rattle.messages.specs.Kinds.{kind_of}
use Rattle.frames.specs.Parts.{says, flat, body_by, body_of}
use Rattle.frames.proofs.Zeros.{each_zero}

pub body_again : (from to file : ℕ) (b : Body) → body_of (flat from to file b) ≡ b
body_again from to file b = grind arith

kind_again : (number version term : ℕ) (row : Row) (kind : Kind) → kind_of (body_by kind number version term row) ≡ kind
kind_again number version term row kind = grind arith

pub empty_row : (bytes : List ℕ) (row : Row) → Zero bytes → RowIs bytes row → row ≡ Empty
empty_row bytes row zero is = grind (arith, zero 0)

module _ (number version term : ℕ) (bytes : List ℕ) (row : Row) (is : RowIs bytes row) where
  -- a field that the kind leaves out is zero
  says_again : (kind : Kind) → Uses kind number version term bytes → says (body_by kind number version term row) ≡ (number, version, term, row)
  says_again kind u = grind (arith, empty_row bytes row)

  pub body_lawful : (kind : Kind) → Uses kind number version term bytes → lawful_body (body_by kind number version term row) ≡ true
  body_lawful kind u = grind (arith, nat_tests)

pub parts_again : (p : Parts) (bytes : List ℕ) → RowIs bytes p.row → Uses p.kind p.number p.version p.term bytes → flat p.from p.to p.file (body_of p) ≡ p
parts_again p bytes is u =
    let kind = kind_again p.number p.version p.term p.row p.kind in
    let all = says_again p.number p.version p.term bytes p.row is p.kind u in
    grind arith

zero_row : Zero (written Empty)
zero_row = each_zero (written Empty) refl

pub lawful_uses : (b : Body) → lawful_body b ≡ true → Uses (kind_of b) (says b).0 (says b).1 (says b).2 (written (says b).3)
lawful_uses b e = search (rules, nat_tests, zero_row, read_written)
