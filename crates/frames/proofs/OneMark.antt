-- A kind has one mark, and a mark one kind. Assumes nothing.
use Rattle.std.proofs.Common.{◌≡◌, ℕ, Some, sym, ◌∙◌, arith}
use Rattle.std.proofs.lemmas.Bool.Decides.{nat_tests}
use Rattle.messages.specs.declared.kind.Kind.{Kind}
use Rattle.frames.specs.Accepts.{mark}
use Rattle.messages.specs.Marks.{form, kind_marked}

-- the table has each kind's mark
pub mark_is : (kind : Kind) → (form kind).mark ≡ mark kind
mark_is kind = grind arith

pub kind_found : (kind : Kind) → kind_marked (mark kind) ≡ Some kind
kind_found kind = grind arith

pub mark_found : (n : ℕ) (kind : Kind) → kind_marked n ≡ Some kind → n ≡ mark kind
mark_found n kind e = grind (arith, nat_tests)

pub same_mark : (kind other : Kind) → (form kind).mark ≡ (form other).mark → kind ≡ other
same_mark kind other e =
    let here = kind_found kind in
    let there = kind_found other in
    let marks : mark kind ≡ mark other = sym (mark_is kind) ∙ e ∙ mark_is other in
    cc
