-- Numbers in bytes, lowest byte first.
use Rattle.std.specs.Prelude.{ℕ, ◌+◌, ◌*◌, ◌/◌, ◌%◌, List, ◌∷◌, slice_index}

-- the number in the two bytes from place i on
abbrev pub two_bytes : List ℕ → ℕ → ℕ
two_bytes bs i = slice_index bs i + 256 * slice_index bs (i + 1)

-- the number in the first four bytes
abbrev pub four_bytes : List ℕ → ℕ
four_bytes bs = slice_index bs 0 + 256 * slice_index bs 1 + 65536 * slice_index bs 2 + 16777216 * slice_index bs 3

-- a number below 65,536 as two bytes, and then more
abbrev pub in_two : ℕ → List ℕ → List ℕ
in_two n more = (n % 256) ∷ (n / 256 % 256) ∷ more

-- a number below 4,294,967,296 as four bytes, and then more
abbrev pub in_four : ℕ → List ℕ → List ℕ
in_four n more = (n % 256) ∷ (n / 256 % 256) ∷ (n / 65536 % 256) ∷ (n / 16777216 % 256) ∷ more
