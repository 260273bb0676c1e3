-- The limits of the formats. Times are in tenths of a second.
use Rattle.std.specs.Prelude.{ℕ, ◌*◌}

-- the latest moment, counted from 1 January 2020, 00:00
abbrev pub max_moment : ℕ
max_moment = 4000000000

-- bytes of a log record, and of a row of a detector table
abbrev pub record_size : ℕ
record_size = 8

-- detector channels count from 1 to this; a table has a place for each
abbrev pub channels : ℕ
channels = 64

-- signal phases count from 1 to this
abbrev pub phases : ℕ
phases = 16

-- all uses of a detector, added
abbrev pub all_uses : ℕ
all_uses = 7

-- the longest travel from a loop to the stop line
abbrev pub max_travel : ℕ
max_travel = 200

-- the longest latency of a detector
abbrev pub max_latency : ℕ
max_latency = 50

-- the longest file of a detector table, in bytes
abbrev pub max_table_size : ℕ
max_table_size = channels * record_size
