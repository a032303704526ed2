-- When the bytes of a row are all zero. Assumes nothing.
use Rattle.std.proofs.Common.{◌≡◌, ℕ, zero, suc, true, eqb, List, [], ◌∷◌, refl, arith}
use Rattle.std.specs.List.{list_all}
use Rattle.std.proofs.lemmas.Bool.Decides.{nat_tests}
use Rattle.frames.specs.Accepts.{Zero}

pub each_zero : (bs : List ℕ) → list_all (λ b. eqb b 0) bs ≡ true → Zero bs
each_zero [] e i = refl
each_zero (b ∷ bs) e zero = grind (arith, nat_tests)
each_zero (b ∷ bs) e (suc i) = each_zero bs (grind (arith, nat_tests)) i

pub zero_all : (bs : List ℕ) → Zero bs → list_all (λ b. eqb b 0) bs ≡ true
zero_all [] z = refl
zero_all (b ∷ bs) z = let rest = zero_all bs (λ i. z (suc i)) in grind (arith, nat_tests, z 0)
