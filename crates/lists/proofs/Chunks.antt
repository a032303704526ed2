-- Where a run of bytes is cut into records, and what is left of it. Assumes nothing.
use Rattle.std.proofs.Common.{◌≡◌, ℕ, ◌+◌, ◌-◌, ◌*◌, ◌<◌, ◌≤◌, List, ◌++◌, length, take, drop, refl, sym, ap, ◌∙◌, arith, length-append, length-drop}
use Rattle.std.proofs.lemmas.List.{drop-drop}
use Rattle.std.proofs.Math.Seq.{take-append_seam, drop-append_seam}
use Rattle.std.proofs.Math.Nat.{div-eq_of_lt-le}
use Rattle.lists.specs.Lists.{record_count, record_bytes}

-- `rest` is what follows the first records
pub record After (size : ℕ) (bytes : List ℕ) (index : ℕ) (rest : List ℕ) : Type 0 where
  pub rest_is : rest ≡ drop (index * size) bytes
  pub within : index * size ≤ length bytes

pub after_none : (size : ℕ) (bytes : List ℕ) → After size bytes 0 bytes
after_none size bytes =
    let none : 0 * size ≡ 0 = omega arith in
    record { rest_is = rw none refl; within = omega (arith, none) }

-- the front of what is left is the next record
pub front_is_next : (size : ℕ) (bytes : List ℕ) (index : ℕ) (rest front back : List ℕ) → After size bytes index rest → rest ≡ front ++ back → length front ≡ size → front ≡ record_bytes size bytes index
front_is_next size bytes index rest front back so_far cut long =
    sym (take-append_seam front back) ∙ ap (λ (bs : List ℕ). take (length front) bs) (sym cut ∙ so_far.rest_is) ∙ ap (λ n. take n (drop (index * size) bytes)) long

pub after_more : (size : ℕ) (bytes : List ℕ) (index : ℕ) (rest front back : List ℕ) → After size bytes index rest → rest ≡ front ++ back → length front ≡ size → After size bytes (index + 1) back
after_more size bytes index rest front back so_far cut long =
    let cut_here : drop (index * size) bytes ≡ front ++ back = sym so_far.rest_is ∙ cut in
    let next : index * size + size ≡ (index + 1) * size = omega arith in
    let left : length bytes - index * size ≡ size + length back =
    sym (length-drop (index * size) bytes) ∙ ap length cut_here ∙ length-append front back ∙ ap (λ n. n + length back) long in
    record {
      rest_is = sym (drop-append_seam front back) ∙ ap (λ (bs : List ℕ). drop (length front) bs) (sym cut_here) ∙ ap (λ n. drop n (drop (index * size) bytes)) long
          ∙ drop-drop size (index * size) bytes ∙ ap (λ n. drop n bytes) next;
      within = omega (arith, left, so_far.within, next);
    }

-- where the rest is too short for a record, all whole records lie before it
pub all_cut : (size : ℕ) (bytes : List ℕ) (index : ℕ) (rest : List ℕ) → After size bytes index rest → length rest < size → record_count size bytes ≡ index
all_cut size bytes index rest so_far short =
    let left : length rest ≡ length bytes - index * size = ap length so_far.rest_is ∙ length-drop (index * size) bytes in
    div-eq_of_lt-le {k = index} size so_far.within (omega (arith, left, so_far.within))
