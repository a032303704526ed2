-- The text of a message, as its bytes. Assumes nothing.
use Rattle.std.specs.Prelude.{ℕ, List, ◌++◌, codes, decimal}
use Rattle.rows.specs.Words.{row_words}
use Rattle.messages.specs.declared.body.Body.{Body}
use Rattle.messages.specs.declared.body.Body.TheVariants.{Ask, Grant, Recall, Approve, Write, Done}
use Rattle.messages.specs.declared.kind.Kind.{Kind}
use Rattle.messages.specs.declared.kind.Kind.TheVariants as kind
use Rattle.messages.specs.declared.message.Message.{Message}
use Rattle.messages.specs.Kinds.{kind_of}

abbrev pub kind_word : Kind → List ℕ
kind_word kind.Ask = codes "ask"
kind_word kind.Grant = codes "grant"
kind_word kind.Recall = codes "recall"
kind_word kind.Approve = codes "approve"
kind_word kind.Write = codes "write"
kind_word kind.Done = codes "done"

abbrev pub body_words : Body → List ℕ
body_words (Ask number) = codes "number " ++ decimal number
body_words (Grant number version term row) =
    codes "number " ++ (decimal number ++
    (codes ", version " ++ (decimal version ++
    (codes ", term " ++ (decimal term ++ (codes ", row: " ++ row_words row))))))
body_words (Recall version) = codes "version " ++ decimal version
body_words (Approve version) = codes "version " ++ decimal version
body_words (Write number row) = codes "number " ++ (decimal number ++ (codes ", row: " ++ row_words row))
body_words (Done number) = codes "number " ++ decimal number

-- between which nodes a message goes, and about which file
abbrev pub way_words : Message → List ℕ
way_words m = codes "from " ++ (decimal m.from ++ (codes " to " ++ (decimal m.to ++ (codes ", file " ++ decimal m.file))))

abbrev pub message_words : Message → List ℕ
message_words m = kind_word (kind_of m.body) ++ (codes " " ++ (way_words m ++ (codes ", " ++ body_words m.body)))
