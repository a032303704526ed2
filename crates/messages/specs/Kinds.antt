-- The kinds of message and their numbers. Assumes nothing.
use Rattle.std.specs.Prelude.{ℕ}
use Rattle.messages.specs.declared.body.Body.{Body}
use Rattle.messages.specs.declared.body.Body.TheVariants as body
use Rattle.messages.specs.declared.kind.Kind.{Kind}
use Rattle.messages.specs.declared.kind.Kind.TheVariants.{Ask, Grant, Recall, Approve, Write, Done}

abbrev pub number_of_kind : Kind → ℕ
number_of_kind Ask = 1
number_of_kind Grant = 2
number_of_kind Recall = 3
number_of_kind Approve = 4
number_of_kind Write = 5
number_of_kind Done = 6

abbrev pub kind_of : Body → Kind
kind_of (body.Ask number) = Ask
kind_of (body.Grant number version term row) = Grant
kind_of (body.Recall version) = Recall
kind_of (body.Approve version) = Approve
kind_of (body.Write number row) = Write
kind_of (body.Done number) = Done
