-- The rows of a table that are wanted, and the lead row among them.
use Rattle.std.specs.Prelude.{◌≡◌, ℕ, ◌<◌, true, false, cond, List, [], ◌∷◌, map, length, Some, None, Option, slice_index_or}
use Rattle.controller_log.specs.Detectors.{names}
use Rattle.controller_log.specs.declared.detector.DetectorRow.{DetectorRow}
use Rattle.controller_log.specs.declared.detector.Wanted.{Wanted}
use Rattle.controller_log.specs.declared.table.DetectorTable.{DetectorTable}

-- a place of the table, if its row is wanted
abbrev pub if_named : Wanted → Option DetectorRow → Option DetectorRow
if_named wanted None = None
if_named wanted (Some d) = cond (names wanted d) (Some d) None

-- the rows that are wanted, each at its channel's place
abbrev pub rows_naming : Wanted → DetectorTable → DetectorTable
rows_naming wanted t = record { places = map (if_named wanted) t.places }

-- the row of the lowest place that has one
abbrev pub first_row : List (Option DetectorRow) → Option DetectorRow
first_row [] = None
first_row (None ∷ places) = first_row places
first_row (Some d ∷ places) = Some d

-- the lead row: that of the lowest channel among the rows that are wanted
abbrev pub lead_row : Wanted → DetectorTable → Option DetectorRow
lead_row wanted t = first_row (rows_naming wanted t).places

-- the places below k have no row that is wanted
abbrev pub NoneBelow : ℕ → Wanted → List (Option DetectorRow) → Type 0
NoneBelow k wanted places = (j : ℕ) (d : DetectorRow) → j < k → slice_index_or places j None ≡ Some d → names wanted d ≡ false

-- the row of the lowest place that is wanted, or that no place is
abbrev pub Lowest : Wanted → List (Option DetectorRow) → Option DetectorRow → Type 0
Lowest wanted places None = NoneBelow (length places) wanted places
Lowest wanted places (Some d) = (k : ℕ) × (slice_index_or places k None ≡ Some d) × (names wanted d ≡ true) × NoneBelow k wanted places
