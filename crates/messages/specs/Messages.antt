-- A message made of its fields. Assumes nothing.
use Rattle.std.specs.Prelude.{◌≡◌, ℕ, Bool, true, false, ◌&&◌, Some, None, Option, nat_le}
use Rattle.messages.specs.declared.body.Body.{Body}
use Rattle.messages.specs.declared.message.Message.{Message}
use Rattle.messages.specs.Bounds.{lawful_body}

abbrev pub in_bounds : (from to file : ℕ) → Body → Bool
in_bounds from to file body = nat_le from 15 && (nat_le to 15 && (nat_le file 31 && lawful_body body))

pub record MessageHas (from to file : ℕ) (body : Body) (message : Message) : Type 0 where
  pub from_is : message.from ≡ from
  pub to_is : message.to ≡ to
  pub file_is : message.file ≡ file
  pub body_is : message.body ≡ body

-- exactly within the bounds there is a message, and it has these fields
abbrev pub MessageMade : (from to file : ℕ) → Body → Option Message → Type 0
MessageMade from to file body (Some message) =
    (in_bounds from to file body ≡ true) × MessageHas from to file body message
MessageMade from to file body None = in_bounds from to file body ≡ false
