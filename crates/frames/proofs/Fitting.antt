-- A frame has no fault exactly where it is lawful by its mark. Assumes nothing.
use Rattle.std.proofs.Common.{rules, ◌≡◌, ℕ, ◌≤◌, Bool, true, cond, ◌||◌, eqb, List, length, take, drop, is_ok, Some, None, Ok, Err, Decides, Option, Result, refl, ap, ◌∙◌, arith, eq-eqb, eqb-true}
use Rattle.std.specs.List.{list_all}
use Rattle.std.proofs.lemmas.Bool.Decides.{nat_tests}
use Rattle.faults.specs.declared.fault.Fault.{Fault}
use Rattle.faults.specs.Refusals.{unknown_frame, wrong_at}
use Rattle.messages.specs.declared.kind.Kind.{Kind}
use Rattle.messages.specs.declared.marks.Form.{Form}
use Rattle.messages.specs.declared.message.Message.{Message}
use Rattle.messages.specs.Marks.{form, kind_marked}
use Rattle.frames.specs.declared.head.Head.{Head}
use Rattle.frames.specs.Heads.{head_in}
use Rattle.frames.specs.Accepts.{mark, In, Fits, LawfulFrame}
use Rattle.frames.specs.Frames.{fault_at, first_fault, fields_wrong, row_fault, marked_fault, halves_fault, frame_fault, FrameRead}
use Rattle.frames.proofs.OneMark.{kind_found, mark_found}
use Rattle.frames.proofs.Zeros.{each_zero, zero_all}

first_none : (a b : Option Fault) → first_fault a b ≡ None → (a ≡ None) × (b ≡ None)
first_none a b e = grind arith

pub nowhere : (fault : ℕ → Fault) (place : Option ℕ) → fault_at fault place ≡ None → place ≡ None
nowhere fault place e = grind arith

not_unknown : (ok : Bool) (rest : Option Fault) → cond ok rest (Some unknown_frame) ≡ None → (ok ≡ true) × (rest ≡ None)
not_unknown ok rest e = grind arith

unused : {n : ℕ} → n ≡ 0 → In 0 0 n
unused e = grind arith

-- what the fields keep to where a form finds none of them wrong
pub record Keeps (f : Form) (head : Head) (row : List ℕ) : Type 0 where
  pub from : head.from ≤ 15
  pub to : head.to ≤ 15
  pub file : head.file ≤ 31
  pub gap : head.gap ≡ 0
  pub number : In f.numbers.low f.numbers.high head.number
  pub version : In f.versions.low f.versions.high head.version
  pub term : In f.terms.low f.terms.high head.term
  pub used : (f.has_row || list_all (λ b. eqb b 0) row) ≡ true

module _ (head : Head) (row : List ℕ) where
  pub keeps : (f : Form) → fields_wrong f head row ≡ None → Keeps f head row
  keeps f e = search (rules, nat_tests)

  none_wrong : (f : Form) → Keeps f head row → fields_wrong f head row ≡ None
  none_wrong f k = search (rules, nat_tests)

  keeps_fitting : (kind : Kind) → Fits kind head row → Keeps (form kind) head row
  keeps_fitting kind fits = search (rules, zero_all, unused)

  used_fitting : (kind : Kind) → Fits kind head row → row_fault (form kind) row ≡ None
  used_fitting kind fits = search rules

  no_halves_fault : (kind : Kind) → Fits kind head row → halves_fault head row ≡ None
  no_halves_fault kind fits =
      let known = ap kind_marked fits.marked ∙ kind_found kind in
      let wrong = none_wrong (form kind) (keeps_fitting kind fits) in
      let used = used_fitting kind fits in
      grind arith

  fits_kind : (kind : Kind) → head.mark ≡ mark kind → halves_fault head row ≡ None → Fits kind head row
  fits_kind kind marked none =
      let known = ap kind_marked marked ∙ kind_found kind in
      let whole : marked_fault (Some kind) head row ≡ None = cc in
      let both = first_none (row_fault (form kind) row) (fault_at wrong_at (fields_wrong (form kind) head row)) whole in
      let used = both.0 in
      let k = keeps (form kind) (nowhere wrong_at (fields_wrong (form kind) head row) both.1) in
      search (rules, each_zero, nowhere)

  fits_some : (o : Option Kind) → kind_marked head.mark ≡ o → marked_fault o head row ≡ None → (kind : Kind) × Fits kind head row
  fits_some None is e = absurd (grind arith)
  fits_some (Some kind) is e = (kind, fits_kind kind (mark_found head.mark kind is) (grind arith))

module _ (bs : List ℕ) where
  halves_part : frame_fault bs ≡ None → (eqb (length bs) 32 ≡ true) × (halves_fault (head_in (take 16 bs)) (drop 16 bs) ≡ None)
  halves_part = not_unknown (eqb (length bs) 32) (halves_fault (head_in (take 16 bs)) (drop 16 bs))

  pub whole_length : frame_fault bs ≡ None → length bs ≡ 32
  whole_length e = eqb-true (length bs) 32 (halves_part e).0

  pub fits_marked : frame_fault bs ≡ None → (kind : Kind) → (head_in (take 16 bs)).mark ≡ mark kind → Fits kind (head_in (take 16 bs)) (drop 16 bs)
  fits_marked e kind marked = fits_kind (head_in (take 16 bs)) (drop 16 bs) kind marked (halves_part e).1

  pub lawful : frame_fault bs ≡ None → LawfulFrame bs
  lawful e =
      let some = fits_some (head_in (take 16 bs)) (drop 16 bs) (kind_marked (head_in (take 16 bs)).mark) refl (halves_part e).1 in
      record { long = whole_length e; kind = some.0; fits = some.1 }

  pub no_fault : LawfulFrame bs → frame_fault bs ≡ None
  no_fault l =
      let long = eq-eqb (length bs) 32 l.long in
      let none = no_halves_fault (head_in (take 16 bs)) (drop 16 bs) l.kind l.fits in
      cc

-- reading a frame decides whether it is lawful
pub decides : (bs : List ℕ) (r : Result Message Fault) → FrameRead bs r → Decides (is_ok r) (LawfulFrame bs)
decides bs (Ok message) (none, is) = (λ _. lawful bs none, λ _. refl)
decides bs (Err fault) wrong =
    (λ e. absurd (grind arith), λ l. let none = no_fault bs l in absurd (grind arith))
