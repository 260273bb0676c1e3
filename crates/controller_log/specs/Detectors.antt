-- A row of a detector table: what one detector channel is for, and its 8 bytes.
use Rattle.std.specs.Prelude.{◌≡◌, ℕ, ◌<◌, ◌≤◌, Ok, Err, Result, ◌+◌, ◌/◌, ◌%◌, Bool, true, false, cond, ◌&&◌, ◌||◌, List, [], ◌∷◌, length, Some, None, codes, Option, ◌==◌, nat_le, slice_index}
use Rattle.controller_log.specs.Bytes.{two_bytes, in_two}
use Rattle.controller_log.specs.Limits.{record_size, channels, phases, all_uses, max_travel, max_latency}
use Rattle.controller_log.specs.declared.detector.DetectorRow.{DetectorRow}
use Rattle.controller_log.specs.declared.detector.UnknownUses.{UnknownUses}
use Rattle.controller_log.specs.declared.detector.Uses.{Uses}
use Rattle.controller_log.specs.declared.detector.Wanted.{Wanted}

-- the uses that a byte adds up: 1 arrivals, 2 presence, 4 red-light
abbrev pub uses_of : ℕ → Uses
uses_of b = record { arrivals = (b % 2 == 1); presence = (b / 2 % 2 == 1); red_light = (b / 4 % 2 == 1) }

-- the byte that adds them up
abbrev pub uses_byte : Uses → ℕ
uses_byte u = cond u.arrivals 1 0 + cond u.presence 2 0 + cond u.red_light 4 0

-- a byte is turned into the uses that it adds up, or is handed back where it adds up more than there are
abbrev pub AddsUp : ℕ → Result Uses UnknownUses → Type 0
AddsUp b (Ok u) = (b ≤ all_uses) × (u ≡ uses_of b)
AddsUp b (Err e) = (all_uses < b) × (e.0 ≡ b)

-- some use is in both
abbrev pub share : Uses → Uses → Bool
share u v = (u.arrivals && v.arrivals) || ((u.presence && v.presence) || (u.red_light && v.red_light))

-- arrivals, presence and red-light by name
abbrev pub named : Bool → Bool → Bool → List ℕ
named false false false = codes "no use"
named true false false = codes "arrivals"
named false true false = codes "presence"
named true true false = codes "arrivals and presence"
named false false true = codes "red-light"
named true false true = codes "arrivals and red-light"
named false true true = codes "presence and red-light"
named true true true = codes "arrivals, presence and red-light"

-- the uses by name
abbrev pub uses_named : Uses → List ℕ
uses_named u = named u.arrivals u.presence u.red_light

-- a number from low to high
abbrev pub within : ℕ → ℕ → ℕ → Bool
within low high n = nat_le low n && nat_le n high

-- the ranges of a row
abbrev pub in_range : ℕ → DetectorRow → Bool
in_range channel d = within 1 channels channel && (within 1 phases d.phase && (nat_le d.travel max_travel && nat_le d.latency max_latency))

-- the row in 8 bytes: channel, phase, uses, a zero, travel, latency
abbrev pub row_fields : List ℕ → DetectorRow
row_fields bs = record { phase = slice_index bs 1; uses = uses_of (slice_index bs 2); travel = two_bytes bs 4; latency = two_bytes bs 6 }

-- 8 bytes as a channel and its row, if they keep the ranges
abbrev pub read_row : List ℕ → Option (ℕ × DetectorRow)
read_row bs =
    cond (length bs == record_size && (nat_le (slice_index bs 2) all_uses && (slice_index bs 3 == 0 && in_range (slice_index bs 0) (row_fields bs))))
    (Some (slice_index bs 0, row_fields bs))
    None

-- a row as 8 bytes
abbrev pub row_bytes : ℕ → DetectorRow → List ℕ
row_bytes channel d = channel ∷ d.phase ∷ uses_byte d.uses ∷ 0 ∷ in_two d.travel (in_two d.latency [])

-- a row names the phase that is wanted, and one of the uses
abbrev pub names : Wanted → DetectorRow → Bool
names wanted d = d.phase == wanted.phase && share d.uses wanted.uses
