-- What is framed reads back the same, and what is read was framed so. Assumes nothing.
use Rattle.std.proofs.Common.{rules, ◌≡◌, ℕ, zero, suc, ◌+◌, ◌-◌, ◌*◌, ◌/◌, ◌%◌, ◌^◌, ◌<◌, ◌≤◌, List, [], ◌∷◌, ◌++◌, length, get_or, replicate, take, drop, IfOk, None, Ok, Err, Result, sym, refl, ap, ◌∙◌, subst, arith, lit<, length-drop, take-append-drop, length-take-le, get_or-drop, eq-eqb}
use Rattle.faults.specs.declared.fault.Fault.{Fault}
use Rattle.rows.specs.declared.row.Row.{Row}
use Rattle.rows.specs.Rows.{RowIs, row_wrong, two, four, written}
use Rattle.rows.proofs.RoundTrip.{whole2, whole4, read_written, reads_one, pair, quad, same, made_back}
use Rattle.messages.specs.declared.kind.Kind.{Kind}
use Rattle.messages.specs.declared.message.Message.{Message}
use Rattle.frames.specs.declared.parts.Parts.{Parts}
use Rattle.frames.specs.Accepts.{Zero, Uses, Fits}
use Rattle.frames.specs.Frames.{frame_fault, FrameHas, FrameIs, FrameRead, laid_out, framed}
use Rattle.messages.specs.Kinds.{kind_of}
use Rattle.messages.specs.Marks.{form}
use Rattle.frames.specs.Parts.{says, parts, body_of}
use Rattle.frames.proofs.Fitting.{whole_length, fits_marked, no_fault}
use Rattle.frames.proofs.Flat.{body_again, empty_row, lawful_uses}
use Rattle.frames.proofs.OneMark.{mark_is, same_mark}
use Rattle.messages.specs.EqualityLaws.{same_message}
use Rattle.frames.specs.Heads.{head_in}
use Rattle.std.proofs.lemmas.Grind.{same_number_lists}
use Rattle.std.proofs.lemmas.List.{get_or-replicate}

mark_whole : (kind : Kind) → (form kind).mark / 256 % 256 * 256 + (form kind).mark % 256 ≡ (form kind).mark
mark_whole kind = grind arith

row_long : (row : Row) → length (written row) ≡ 16
row_long row = grind arith

-- fields that are used lawfully have room in their bytes
module _ (number version term : ℕ) (row : List ℕ) where
  room : (kind : Kind) → Uses kind number version term row → (number < 2 ^ 32) × (version < 2 ^ 32) × (term ≤ 65535)
  room kind u = grind arith

pub read_framed : (m : Message) → FrameRead (framed m) (Ok m)
read_framed m =
    let b = m.body in
    let kind = kind_of b in
    let uses = lawful_uses b m.lawful in
    let fit = room (says b).0 (says b).1 (says b).2 (written (says b).3) kind uses in
    let n = whole4 (says b).0 fit.0 in
    let v = whole4 (says b).1 fit.1 in
    let t = whole2 (says b).2 fit.2 in
    let long : length (framed m) ≡ 32 = omega (arith, row_long (says b).3) in
    let mark = mark_whole kind in
    let fits : Fits kind (head_in (take 16 (framed m))) (drop 16 (framed m)) =
    record {
      marked = mark ∙ mark_is kind;
      from_fits = m.nodes.0;
      to_fits = m.nodes.1;
      file_fits = m.files;
      gap_is = refl;
      uses = rw (n, v, t) uses;
    } in
    (no_fault (framed m) (record { long = long; kind = kind; fits = fits }), search (rules, mark, read_written (says b).3))

-- bytes that hold two messages hold one
holds_one : (bs : List ℕ) (m other : Message) → FrameIs bs (parts m) → FrameIs bs (parts other) → m ≡ other
holds_one bs m other is also =
    let kind = same_mark (kind_of m.body) (kind_of other.body) (sym is.mark_is ∙ also.mark_is) in
    let row = reads_one (drop 16 bs) (says m.body).3 (says other.body).3 is.row_is also.row_is in
    let all : parts m ≡ parts other = cc in
    let here = body_again m.from m.to m.file m.body in
    let there = body_again other.from other.to other.file other.body in
    same_message m other (cc) (cc) (cc) (sym here ∙ ap body_of all ∙ there)

-- what reading a message's bytes answers is that message
pub read_forth : (bs : List ℕ) (m : Message) (r : Result Message Fault) → framed m ≡ bs → FrameRead bs r → r ≡ Ok m
read_forth bs m (Ok other) e (none, is) =
    ap Ok (holds_one bs other m is (subst (λ (xs : List ℕ). FrameIs xs (parts m)) e (read_framed m).1))
read_forth bs m (Err fault) e wrong =
    let none = (read_framed m).0 in absurd (grind arith)

module _ (row : List ℕ) (long : length row ≡ 16) (fit : (i : ℕ) → get_or row i 0 < 256) where
  lawful_back : (r : Row) → row_wrong row ≡ None → RowIs row r → written r ≡ row
  lawful_back r none is = let fields = rw (eq-eqb (length row) 16 long) at none in made_back row long fit (Ok r) (fields, is)

  zero_back : (r : Row) → Zero row → RowIs row r → written r ≡ row
  zero_back r zeros is = ap written (empty_row row r zeros is) ∙ same_number_lists (replicate 16 0) row (sym long) (λ k h. get_or-replicate 16 k 0 0 h ∙ sym (zeros k))

  row_back : (number version term : ℕ) (r : Row) → RowIs row r → (kind : Kind) → Uses kind number version term row → written r ≡ row
  row_back number version term r is kind u = search (rules, zero_back, lawful_back)

abbrev head_of : Parts → List ℕ
head_of p =
    two (form p.kind).mark (p.from ∷ p.to ∷ p.file ∷ 0 ∷ four p.number (four p.version (two p.term [])))

module _ (head : List ℕ) (long : length head ≡ 16) (fit : (i : ℕ) → get_or head i 0 < 256) where
  head_back : (p : Parts) (row : List ℕ) → FrameHas (head_in head) row p → get_or head 5 0 ≡ 0 → head_of p ≡ head
  head_back p row is gap =
      let m = pair head long fit 0 (form p.kind).mark (sym is.mark_is) in
      let n = quad head long fit 6 p.number is.number_is in
      let v = quad head long fit 10 p.version is.version_is in
      let t = pair head long fit 14 p.term is.term_is in
      same head long fit (head_of p) (cc)

take_fits : (n : ℕ) (bs : List ℕ) → ((i : ℕ) → get_or bs i 0 < 256) → (i : ℕ) → get_or (take n bs) i 0 < 256
take_fits zero bs fit i = lit< tt
take_fits (suc n) [] fit i = lit< tt
take_fits (suc n) (b ∷ bs) fit zero = fit 0
take_fits (suc n) (b ∷ bs) fit (suc i) = take_fits n bs (λ k. fit (suc k)) i

module _ (bs : List ℕ) (fit : (i : ℕ) → get_or bs i 0 < 256) where
  row_fit : (i : ℕ) → get_or (drop 16 bs) i 0 < 256
  row_fit i = rw get_or-drop (fit (16 + i))

  laid_back : (p : Parts) → frame_fault bs ≡ None → FrameIs bs p → laid_out p ≡ bs
  laid_back p none is =
      let long = whole_length bs none in
      let fits = fits_marked bs none p.kind (is.mark_is ∙ mark_is p.kind) in
      let head_long : length (take 16 bs) ≡ 16 = length-take-le 16 bs (omega arith) in
      let row_long : length (drop 16 bs) ≡ 16 = length-drop 16 bs ∙ ap (λ n. n - 16) long in
      let head = head_back (take 16 bs) head_long (take_fits 16 bs fit) p (drop 16 bs) is fits.gap_is in
      let row = row_back (drop 16 bs) row_long row_fit _ _ _ p.row is.row_is p.kind fits.uses in
      (λ i. head i ++ row i) ∙ take-append-drop 16 bs

  pub framed_back : (r : Result Message Fault) → FrameRead bs r → IfOk r (λ m. framed m ≡ bs)
  framed_back (Ok m) (none, is) = laid_back (parts m) none is
  framed_back (Err fault) read = tt
