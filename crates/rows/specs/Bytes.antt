-- Numbers in bytes, and bytes that must be zero. Assumes nothing.
use Rattle.std.specs.Prelude.{ℕ, ◌+◌, ◌*◌, not, List, Option, ◌==◌, slice_index}
use Rattle.std.specs.List.{position_from}

-- the big-endian number in two bytes from i on
abbrev pub be2 : List ℕ → ℕ → ℕ
be2 bs i = slice_index bs i * 256 + slice_index bs (i + 1)

-- the big-endian number in four bytes from i on
abbrev pub be4 : List ℕ → ℕ → ℕ
be4 bs i = slice_index bs i * 16777216 + slice_index bs (i + 1) * 65536 + slice_index bs (i + 2) * 256 + slice_index bs (i + 3)

-- the place of the first byte that isn't zero, where the list's first byte has the place i
abbrev pub first_nonzero : ℕ → List ℕ → Option ℕ
first_nonzero = position_from (λ b. not (b == 0))
