use Rattle.std.proofs.Common.{◌≡◌, ◌==◌, ◌&&◌, ℕ, List, [], ◌∷◌, length, replicate, refl, ap, ◌∙◌}
use Rattle.std.specs.Cmp.Lexicographic.{pointwise}
use Rattle.std.specs.List.{list_all}
use Rattle.frames.proofs.fields.is_zero.Goals as goal

as_zeros : (bs : List ℕ) → pointwise (λ a b. a == b) bs (replicate (length bs) 0) ≡ list_all (λ b. b == 0) bs
as_zeros [] = refl
as_zeros (b ∷ bs) = ap (λ rest. (b == 0) && rest) (as_zeros bs)

pub returns : goal.returns
returns c = let zeros = rw c.told-row at (as_zeros c.args.row.now) in c.eq.ensures ∙ zeros
