-- A detector table: a place for each channel, filled from the rows of a file.
use Rattle.std.specs.Prelude.{ℕ, ◌+◌, ◌-◌, ◌%◌, Bool, cond, ◌&&◌, List, [], ◌∷◌, length, replicate, is_some, Some, None, Ok, Err, Option, Result, ◌==◌, nat_le, slice_index_or, slice_set}
use Rattle.controller_log.specs.Detectors.{within, read_row}
use Rattle.controller_log.specs.Limits.{record_size, channels, max_table_size}
use Rattle.controller_log.specs.Pieces.{pieces}
use Rattle.controller_log.specs.Refusals.{Told, told, then}
use Rattle.controller_log.specs.declared.detector.DetectorRow.{DetectorRow}
use Rattle.controller_log.specs.declared.refusal.Refusal.TheVariants.{TableLength, RowOutOfRange, ChannelRepeated}
use Rattle.controller_log.specs.declared.table.DetectorTable.{DetectorTable}

-- the row of a channel, if it has one
abbrev pub lookup : DetectorTable → ℕ → Option DetectorRow
lookup t channel = cond (within 1 channels channel) (slice_index_or t.places (channel - 1) None) None

-- the table without rows
abbrev pub no_rows : DetectorTable
no_rows = record { places = replicate channels None }

-- the table with a row put at a channel
abbrev pub with_row : DetectorTable → ℕ → DetectorRow → DetectorTable
with_row t channel d = record { places = slice_set t.places (channel - 1) (Some d) }

-- the k-th row of a file is put at its channel: refused out of range, and where the channel has a row
abbrev pub enter : ℕ → DetectorTable → Option (ℕ × DetectorRow) → Result DetectorTable Told
enter k t None = Err (told (RowOutOfRange k))
enter k t (Some w) = cond (is_some (lookup t w.0)) (Err (told (ChannelRepeated k))) (Ok (with_row t w.0 w.1))

-- rows of a file enter one after another, the first of them as the k-th
abbrev pub entered : ℕ → DetectorTable → List (List ℕ) → Result DetectorTable Told
entered k t [] = Ok t
entered k t (row ∷ rows) = then (enter k t (read_row row)) (λ u. entered (k + 1) u rows)

-- a whole number of rows, at most one for each channel
abbrev pub table_length : List ℕ → Bool
table_length bs = length bs % record_size == 0 && nat_le (length bs) max_table_size

-- the table in a file, or the first refusal that meets it
abbrev pub read_table : List ℕ → Result DetectorTable Told
read_table bs = cond (table_length bs) (entered 1 no_rows (pieces bs)) (Err (told TableLength))
