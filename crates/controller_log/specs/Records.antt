-- A log record and its 8 bytes.
use Rattle.std.specs.Prelude.{ℕ, cond, ◌&&◌, List, [], ◌∷◌, length, Ok, Err, Result, ◌==◌, nat_le, slice_index}
use Rattle.controller_log.specs.Bytes.{four_bytes, in_four}
use Rattle.controller_log.specs.Limits.{max_moment, record_size}
use Rattle.controller_log.specs.Refusals.{Told, told}
use Rattle.controller_log.specs.declared.record.Record.{Record}
use Rattle.controller_log.specs.declared.refusal.Refusal.TheVariants.{RecordLength, RecordPadding, MomentTooLate}

-- the fields of a record: the moment in four bytes, the code, the parameter
abbrev pub fields : List ℕ → Record
fields bs = record { moment = four_bytes bs; code = slice_index bs 4; parameter = slice_index bs 5 }

-- bytes as a record, or the first refusal that meets them
abbrev pub read_record : List ℕ → Result Record Told
read_record bs =
    cond (length bs == record_size)
    (cond (slice_index bs 6 == 0 && slice_index bs 7 == 0) (cond (nat_le (four_bytes bs) max_moment) (Ok (fields bs)) (Err (told MomentTooLate))) (Err (told RecordPadding)))
    (Err (told RecordLength))

-- a record as bytes
abbrev pub record_bytes : Record → List ℕ
record_bytes r = in_four r.moment (r.code ∷ r.parameter ∷ 0 ∷ 0 ∷ [])
