-- The texts of a line and of a listing, as their bytes. Assumes nothing.
use Rattle.std.specs.Prelude.{ℕ, List, [], ◌∷◌, ◌++◌, length, Some, Ok, Err, Option, Result, cond, nat_lt, vec_items, codes, decimal}
use Rattle.std.specs.Fmt.{◌++?◌, with_newline}
use Rattle.faults.specs.declared.fault.Fault.{Fault}
use Rattle.faults.specs.Refusals.{told}
use Rattle.lists.specs.declared.line.Line.{Line}
use Rattle.lists.specs.declared.listing.Listing.{Listing}

-- the text of what reading a record answered, where `words` has the record's
abbrev pub found_words : {T : Type 0} → (words : T → Option (List ℕ)) → Result T Fault → Option (List ℕ)
found_words words (Ok found) = words found
found_words words (Err fault) = Some (told fault)

abbrev pub line_words : {R T : Type 0} → (noun : List ℕ) (words : T → Option (List ℕ)) → Line R T → Option (List ℕ)
line_words noun words line = Some (noun ++ (codes " " ++ (decimal line.number ++ codes ": "))) ++? found_words words line.found

-- the lines, each with its end
abbrev pub lines_words : {R T : Type 0} → (noun : List ℕ) (words : T → Option (List ℕ)) → List (Line R T) → Option (List ℕ)
lines_words noun words [] = Some []
lines_words noun words (line ∷ lines) = with_newline (line_words noun words line) ++? lines_words noun words lines

abbrev pub counts_words : (noun : List ℕ) (records faults : ℕ) → List ℕ
counts_words noun records faults = noun ++ (codes "s " ++ (decimal records ++ (codes ", faults " ++ decimal faults)))

-- where bytes are left over, a line that says so
abbrev pub left_over_words : (noun list : List ℕ) (records left_over : ℕ) → List ℕ
left_over_words noun list records left_over =
    cond (nat_lt 0 left_over)
    (codes "the " ++ (list ++ (codes " ends in the middle of a " ++ (noun ++ (codes ", " ++ (decimal left_over ++
    (codes " bytes after " ++ (noun ++ (codes " " ++ (decimal records ++ (10 ∷ [])))))))))))
    []

-- a listing whose last line is left open
abbrev pub open_words : {R T : Type 0} → (noun list : List ℕ) (words : T → Option (List ℕ)) → Listing R T → Option (List ℕ)
open_words noun list words listing =
    let records = length (vec_items listing.lines) in
    lines_words noun words (vec_items listing.lines)
    ++? Some (left_over_words noun list records listing.left_over ++ counts_words noun records listing.faults)
