-- The six marks, and how the frames of each kind look. Assumes nothing.
use Rattle.std.specs.Prelude.{ℕ, Bool, true, false, List, [], ◌∷◌, Option, ◌==◌}
use Rattle.std.specs.List.{find}
use Rattle.std.specs.Option.{option_map}
use Rattle.messages.specs.declared.kind.Kind.{Kind}
use Rattle.messages.specs.declared.kind.Kind.TheVariants.{Ask, Grant, Recall, Approve, Write, Done}
use Rattle.messages.specs.declared.marks.Form.{Form}
use Rattle.messages.specs.declared.limits.Span.{Span}

infixl 20 ◌to◌
abbrev ◌to◌ : ℕ → ℕ → Span
low to high = record { low = low; high = high }

abbrev unused : Span
unused = 0 to 0

abbrev numbers : Span
numbers = 1 to 1000000

abbrev frames_of : Kind → (mark : ℕ) (numbers versions terms : Span) (has_row : Bool) → Form
frames_of kind mark numbers versions terms has_row =
    record {
      kind = kind;
      mark = mark;
      numbers = numbers;
      versions = versions;
      terms = terms;
      has_row = has_row;
    }

abbrev pub form : Kind → Form
form Ask = frames_of Ask 0x4153 numbers unused unused false
form Grant = frames_of Grant 0x4752 numbers (1 to 15000001) (0 to 60000) true
form Recall = frames_of Recall 0x5243 unused (2 to 15000001) unused false
form Approve = frames_of Approve 0x4150 unused (2 to 15000001) unused false
form Write = frames_of Write 0x5752 numbers unused unused true
form Done = frames_of Done 0x444e numbers unused unused false

abbrev pub forms : List Form
forms = form Ask ∷ form Grant ∷ form Recall ∷ form Approve ∷ form Write ∷ form Done ∷ []

-- the kind of the first form with the mark
abbrev pub kind_marked : ℕ → Option Kind
kind_marked mark = option_map (λ f. f.kind) (find (λ f. f.mark == mark) forms)
