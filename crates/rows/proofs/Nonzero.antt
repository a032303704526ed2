-- Where the first byte that isn't zero stands, and what it means to find none. Assumes nothing.
use Rattle.std.proofs.Common.{◌≡◌, ℕ, zero, suc, ◌+◌, Bool, true, false, cond, not, eqb, List, [], ◌∷◌, length, get_or, drop, replicate, Some, None, Option, sym, refl, ap, ◌∙◌, arith, get_or-drop}
use Rattle.std.specs.Option.{option_map}
use Rattle.std.proofs.lemmas.List.{ext_get_or, length-replicate, get_or-replicate}
use Rattle.std.proofs.lemmas.Bool.Decides.{nat_tests}
use Rattle.rows.specs.Bytes.{first_nonzero}

-- bytes that begin n places later
later : (n i : ℕ) (bs : List ℕ) → first_nonzero (n + i) bs ≡ option_map (λ place. n + place) (first_nonzero i bs)
later n i [] = refl
later n i (b ∷ bs) =
    let next : n + i + 1 ≡ n + (i + 1) = omega arith in
    here (not (eqb b 0)) (ap (λ k. first_nonzero k bs) next ∙ later n (i + 1) bs)
  where
    here : (found : Bool) → first_nonzero (n + i + 1) bs ≡ option_map (λ place. n + place) (first_nonzero (i + 1) bs) → cond found (Some (n + i)) (first_nonzero (n + i + 1) bs) ≡ option_map (λ place. n + place) (cond found (Some i) (first_nonzero (i + 1) bs))
    here true rest = refl
    here false rest = rest

-- the place that is found from n on, by the place that is found from 0 on
pub found : (n : ℕ) (bs rest : List ℕ) (here place : Option ℕ) → rest ≡ bs → here ≡ first_nonzero 0 rest → here ≡ place → first_nonzero n bs ≡ option_map (λ place. n + place) place
found n bs rest here place same told is =
    let none : n ≡ n + 0 = omega arith in
    ap (λ k. first_nonzero k bs) none ∙ later n 0 bs ∙ ap (λ xs. option_map (λ place. n + place) (first_nonzero 0 xs)) (sym same) ∙ ap (option_map (λ place. n + place)) (sym told ∙ is)

all_zero : (i : ℕ) (bs : List ℕ) → first_nonzero i bs ≡ None → (k : ℕ) → get_or bs k 0 ≡ 0
all_zero i [] e k = refl
all_zero i (b ∷ bs) e zero = grind (arith, nat_tests)
all_zero i (b ∷ bs) e (suc k) =
    let rest : first_nonzero (i + 1) bs ≡ None = grind (arith, nat_tests) in
    all_zero (i + 1) bs rest k

-- where none is found from n on, all from n on are zero
pub zero_from : (n : ℕ) (bs : List ℕ) → first_nonzero n (drop n bs) ≡ None → (k : ℕ) → get_or bs (n + k) 0 ≡ 0
zero_from n bs e k = sym (get_or-drop n bs k 0) ∙ all_zero n (drop n bs) e k

pub zeros_are : (n : ℕ) (bs : List ℕ) → length bs ≡ n → ((i : ℕ) → get_or bs i 0 ≡ 0) → replicate n 0 ≡ bs
zeros_are n bs long zeros =
    let as_long : length (replicate n 0) ≡ n = length-replicate {A = ℕ} n 0 in
    ext_get_or 0 (replicate n 0) bs (as_long ∙ sym long) (λ i below. get_or-replicate n i 0 0 (omega (arith, below, as_long)) ∙ sym (zeros i))
