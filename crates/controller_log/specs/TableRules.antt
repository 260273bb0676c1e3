-- The rules of a detector table in plain words: what an answer to a file says of its rows.
use Rattle.std.specs.Prelude.{◌≡◌, ℕ, ◌+◌, ◌%◌, ◌≤◌, ◌⊎◌, List, [], ◌∷◌, ◌++◌, length, Some, None, Ok, Err, Result}
use Rattle.controller_log.specs.Detectors.{read_row}
use Rattle.controller_log.specs.Limits.{record_size, max_table_size}
use Rattle.controller_log.specs.Pieces.{pieces}
use Rattle.controller_log.specs.Refusals.{Told, told}
use Rattle.controller_log.specs.Tables.{lookup}
use Rattle.controller_log.specs.declared.detector.DetectorRow.{DetectorRow}
use Rattle.controller_log.specs.declared.refusal.Refusal.TheVariants.{TableLength, RowOutOfRange, ChannelRepeated}
use Rattle.controller_log.specs.declared.table.DetectorTable.{DetectorTable}

-- one of the rows keeps its ranges and is d, for a channel
abbrev pub Lists : List (List ℕ) → ℕ → DetectorRow → Type 0
Lists [] channel d = ⊥
Lists (row ∷ rows) channel d = (read_row row ≡ Some (channel, d)) ⊎ Lists rows channel d

-- each row keeps its ranges, and no channel comes twice
abbrev pub Sound : List (List ℕ) → Type 0
Sound [] = Unit {0}
Sound (row ∷ rows) = (channel : ℕ) × (d : DetectorRow) × (read_row row ≡ Some (channel, d)) × ((e : DetectorRow) → Lists rows channel e → ⊥) × Sound rows

-- the table holds the rows of the file, each at its channel, and no other
pub record Holds (rows : List (List ℕ)) (t : DetectorTable) : Type 0 where
  pub sound : Sound rows
  pub listed : (channel : ℕ) (d : DetectorRow) → lookup t channel ≡ Some d → Lists rows channel d
  pub held : (channel : ℕ) (d : DetectorRow) → Lists rows channel d → lookup t channel ≡ Some d

-- the k-th row is the first that is not as it should be
pub record FirstFault (rows : List (List ℕ)) (k : ℕ) : Type 0 where
  pub before : List (List ℕ)
  pub row : List ℕ
  pub after : List (List ℕ)
  pub cut : rows ≡ before ++ row ∷ after
  pub place : k ≡ length before + 1
  pub sound : Sound before

-- an accepted file has whole rows, at most 64, and its table holds them;
-- a refused one has a wrong length, or its first fault at the row that is told: out of range, or a channel that came before
abbrev pub TableRules : List ℕ → Result DetectorTable Told → Type 0
TableRules bs (Ok t) = (length bs % record_size ≡ 0) × (length bs ≤ max_table_size) × Holds (pieces bs) t
TableRules bs (Err e) =
    ((e ≡ told TableLength) × (length bs % record_size ≡ 0 → length bs ≤ max_table_size → ⊥))
    ⊎ ((k : ℕ) × (f : FirstFault (pieces bs) k) × (e ≡ told (RowOutOfRange k)) × (read_row f.row ≡ None))
    ⊎ ((k : ℕ) × (f : FirstFault (pieces bs) k) × (e ≡ told (ChannelRepeated k)) × ((channel : ℕ) × (c d : DetectorRow) × (read_row f.row ≡ Some (channel, d)) × Lists f.before channel c))
