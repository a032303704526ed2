-- What 32 bytes say: the faults of a frame, its message and the bytes of a message. Assumes nothing.
use Rattle.std.specs.Borrow.{Bor}
use Rattle.std.specs.List.{list_all}
use Rattle.std.specs.Prelude.{◌≡◌, ℕ, Bool, cond, ◌||◌, List, ◌∷◌, length, take, drop, Some, None, Ok, Err, Option, Result, ◌==◌, nat_le}
use Rattle.faults.specs.declared.fault.Fault.{Fault}
use Rattle.faults.specs.Refusals.{unlawful_at, unknown_frame, wrong_at}
use Rattle.rows.specs.declared.row.Row.{Row}
use Rattle.rows.specs.declared.row.Row.TheVariants.{Empty}
use Rattle.rows.specs.Rows.{within, field, row_wrong, RowIs, two, four, written}
use Rattle.messages.specs.declared.kind.Kind.{Kind}
use Rattle.messages.specs.declared.marks.Form.{Form}
use Rattle.messages.specs.declared.limits.Span.{Span}
use Rattle.messages.specs.declared.message.Message.{Message}
use Rattle.messages.specs.Marks.{form, kind_marked}
use Rattle.frames.specs.declared.head.Head.{Head}
use Rattle.frames.specs.declared.parts.Parts.{Parts}
use Rattle.frames.specs.Heads.{head_in}
use Rattle.frames.specs.Parts.{parts}

abbrev pub fault_at : (ℕ → Fault) → Option ℕ → Option Fault
fault_at fault None = None
fault_at fault (Some place) = Some (fault place)

abbrev pub first_fault : Option Fault → Option Fault → Option Fault
first_fault None later = later
first_fault (Some fault) later = Some fault

-- a value within the span of its field
abbrev pub holds : Span → ℕ → Bool
holds span = within span.low span.high

-- the first wrong field of a frame with this form, head and row
abbrev pub fields_wrong : Form → Head → List ℕ → Option ℕ
fields_wrong form head row =
    field 2 (nat_le head.from 15)
    (field 3 (nat_le head.to 15)
    (field 4 (nat_le head.file 31)
    (field 5 (head.gap == 0)
    (field 6 (holds form.numbers head.number)
    (field 10 (holds form.versions head.version)
    (field 14 (holds form.terms head.term)
    (field 16 (form.has_row || list_all (λ b. b == 0) row) None)))))))

-- the fault of a row that the form uses
abbrev pub row_fault : Form → List ℕ → Option Fault
row_fault form row = cond form.has_row (fault_at unlawful_at (row_wrong row)) None

-- an unknown mark answers first, then an unlawful row that is used, then the first wrong field
abbrev pub marked_fault : Option Kind → Head → List ℕ → Option Fault
marked_fault None head row = Some unknown_frame
marked_fault (Some kind) head row =
    first_fault (row_fault (form kind) row) (fault_at wrong_at (fields_wrong (form kind) head row))

abbrev pub halves_fault : Head → List ℕ → Option Fault
halves_fault head row = marked_fault (kind_marked head.mark) head row

abbrev pub frame_fault : List ℕ → Option Fault
frame_fault bs = cond (length bs == 32) (halves_fault (head_in (take 16 bs)) (drop 16 bs)) (Some unknown_frame)

-- the parts that a frame holds; an unused row is zero, so it holds the empty row
pub record FrameHas (head : Head) (row : List ℕ) (p : Parts) : Type 0 where
  pub mark_is : head.mark ≡ (form p.kind).mark
  pub from_is : p.from ≡ head.from
  pub to_is : p.to ≡ head.to
  pub file_is : p.file ≡ head.file
  pub number_is : p.number ≡ head.number
  pub version_is : p.version ≡ head.version
  pub term_is : p.term ≡ head.term
  pub row_is : RowIs row p.row

abbrev pub FrameIs : List ℕ → Parts → Type 0
FrameIs bs = FrameHas (head_in (take 16 bs)) (drop 16 bs)

-- an answer that is right where `wrong` is the first fault
abbrev pub Finds : {R : Type 0} → Option Fault → (R → Type 0) → Result R Fault → Type 0
Finds wrong Has (Ok found) = (wrong ≡ None) × Has found
Finds wrong Has (Err fault) = wrong ≡ Some fault

-- any bytes read as a frame
abbrev pub PartsRead : List ℕ → Result Parts Fault → Type 0
PartsRead bs = Finds (frame_fault bs) (FrameIs bs)

abbrev pub FrameRead : List ℕ → Result Message Fault → Type 0
FrameRead bs = Finds (frame_fault bs) (λ message. FrameIs bs (parts message))

-- the steps of reading
abbrev pub Halved : List ℕ → Result (Head × Bor (List ℕ)) Fault → Type 0
Halved bs =
    Finds (cond (length bs == 32) None (Some unknown_frame))
    (λ halves. (halves.0 ≡ head_in (take 16 bs)) × (halves.1.now ≡ drop 16 bs))

abbrev pub FieldsPass : Form → Head → List ℕ → Result Unit Fault → Type 0
FieldsPass form head row = Finds (fault_at wrong_at (fields_wrong form head row)) (λ _. Unit {0})

abbrev pub UsedRow : Form → List ℕ → Result Row Fault → Type 0
UsedRow form row = Finds (row_fault form row) (λ found. cond form.has_row (RowIs row found) (found ≡ Empty))

-- the bytes of a message
abbrev pub laid_out : Parts → List ℕ
laid_out p =
    two (form p.kind).mark
    (p.from ∷ p.to ∷ p.file ∷ 0 ∷ four p.number (four p.version (two p.term (written p.row))))

abbrev pub framed : Message → List ℕ
framed message = laid_out (parts message)
