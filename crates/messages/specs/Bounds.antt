-- The bounds of what a message says. Assumes nothing.
use Rattle.std.specs.Prelude.{Bool, ◌&&◌, nat_le}
use Rattle.rows.specs.Rows.{within}
use Rattle.messages.specs.declared.body.Body.{Body}
use Rattle.messages.specs.declared.body.Body.TheVariants.{Ask, Grant, Recall, Approve, Write, Done}

-- the first version is 1, so a version that a write will make, which is what a recall names, is at least 2
abbrev pub lawful_body : Body → Bool
lawful_body (Ask number) = within 1 1000000 number
lawful_body (Grant number version term row) =
    within 1 1000000 number && (within 1 15000001 version && nat_le term 60000)
lawful_body (Recall version) = within 2 15000001 version
lawful_body (Approve version) = within 2 15000001 version
lawful_body (Write number row) = within 1 1000000 number
lawful_body (Done number) = within 1 1000000 number
