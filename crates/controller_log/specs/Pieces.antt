-- A file cut into pieces of 8 bytes: the records of a log, the rows of a table.
use Rattle.std.specs.Prelude.{◌≡◌, ℕ, zero, suc, pred, ◌+◌, ◌/◌, ◌<◌, ◌≤◌, List, [], ◌∷◌, length, take, drop}
use Rattle.std.specs.List.{flat_map}
use Rattle.controller_log.specs.Limits.{record_size}

-- the first n pieces of 8 bytes
abbrev pub cut : ℕ → List ℕ → List (List ℕ)
cut zero bs = []
cut (suc n) bs = take record_size bs ∷ cut n (drop record_size bs)

-- a file as its records or rows: pieces of 8 bytes, of which the last may be short
abbrev pub pieces : List ℕ → List (List ℕ)
pieces bs = cut ((length bs + pred record_size) / record_size) bs

-- every piece has 8 bytes, but the last, which has 1 to 8
abbrev pub Sizes : List (List ℕ) → Type 0
Sizes [] = Unit {0}
Sizes (p ∷ []) = (0 < length p) × (length p ≤ record_size)
Sizes (p ∷ q ∷ ps) = (length p ≡ record_size) × Sizes (q ∷ ps)

-- pieces of these sizes that make up a file
abbrev pub Cuts : List ℕ → List (List ℕ) → Type 0
Cuts bs ps = (flat_map (λ p. p) ps ≡ bs) × Sizes ps
