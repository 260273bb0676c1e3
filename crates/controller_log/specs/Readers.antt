-- A log read record by record.
use Rattle.std.specs.Prelude.{◌≡◌, ℕ, ◌+◌, List, [], ◌∷◌, Some, None, Option}
use Rattle.std.specs.Borrow.{Bor}
use Rattle.std.specs.Iterator.Adapters.{enumerate_source, enumerate_count}
use Rattle.std.specs.Slice.Iter.{chunks_rest}
use Rattle.controller_log.specs.Pieces.{pieces}
use Rattle.controller_log.specs.declared.reader.LogReader.{LogReader}

-- the records' bytes that a reader has yet to yield, in the log's order
abbrev pub yet_to_come : LogReader → List (List ℕ)
yet_to_come s = pieces (chunks_rest (enumerate_source s.chunks))

-- the number of the last record that it yielded, 0 before the first
abbrev pub last_number : LogReader → ℕ
last_number s = enumerate_count s.chunks

-- a call yields the next record with its number, until none is to come
abbrev pub Yields : LogReader → Option (ℕ × Bor (List ℕ)) → LogReader → Type 0
Yields s None t = (yet_to_come s ≡ []) × (t ≡ s)
Yields s (Some p) t = (yet_to_come s ≡ p.1.now ∷ yet_to_come t) × (p.0 ≡ last_number s + 1) × (last_number t ≡ last_number s + 1)
