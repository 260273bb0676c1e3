-- The limits of the measures. Times are in tenths of a second.
use Rattle.std.specs.Prelude.{ℕ}
use Rattle.controller_log.specs.Limits.{max_travel}

-- a cycle lasts at most this long
abbrev pub longest_cycle : ℕ
longest_cycle = 36000

-- at most so many own records come between opening and close
abbrev pub most_records : ℕ
most_records = 60000

-- the figures that a measure answers for a cycle
abbrev pub figures : ℕ
figures = 8

-- a shift is at most this; it is at least minus the longest latency
abbrev pub max_shift : ℕ
max_shift = max_travel

-- the longest severity setting of the red-light measure
abbrev pub max_severity : ℕ
max_severity = 200

-- a split fails where its green was occupied for so many of a hundred tenths, and the red window for so many tenths
abbrev pub failed_green_percent : ℕ
failed_green_percent = 80

abbrev pub failed_red : ℕ
failed_red = 40

-- the red window: so long after yellow ends
abbrev pub red_window : ℕ
red_window = 50
