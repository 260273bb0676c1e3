-- A detector table and a log as text: a line for each row and each record, up to the first refusal.
use Rattle.std.specs.Prelude.{ℕ, zero, suc, ◌+◌, cond, List, [], ◌∷◌, ◌++◌, is_some, Some, None, Ok, Err, codes, decimal, Option, Result}
use Rattle.controller_log.specs.Pieces.{pieces}
use Rattle.controller_log.specs.Detectors.{uses_named}
use Rattle.controller_log.specs.Events.{event, event_name}
use Rattle.controller_log.specs.Limits.{channels}
use Rattle.controller_log.specs.Records.{read_record}
use Rattle.controller_log.specs.Refusals.{Told, wording}
use Rattle.controller_log.specs.Tables.{lookup, read_table}
use Rattle.controller_log.specs.declared.detector.DetectorRow.{DetectorRow}
use Rattle.controller_log.specs.declared.event.Event.{Event}
use Rattle.controller_log.specs.declared.record.Record.{Record}
use Rattle.controller_log.specs.declared.table.DetectorTable.{DetectorTable}

-- parts of a text, one after another
abbrev pub text : List (List ℕ) → List ℕ
text [] = []
text (p ∷ []) = p
text (p ∷ q ∷ ps) = p ++ text (q ∷ ps)

-- the end of a line
abbrev pub line_feed : List ℕ
line_feed = 10 ∷ []

-- the line of a detector row
abbrev pub row_line : ℕ → DetectorRow → List ℕ
row_line channel d =
    text
    (codes "detector " ∷ decimal channel ∷ codes ": phase " ∷ decimal d.phase ∷ codes ", " ∷ uses_named d.uses ∷ codes ", travel " ∷ decimal d.travel
    ∷ codes ", latency " ∷ decimal d.latency ∷ line_feed ∷ [])

-- a record's number and fields, and then more
abbrev pub record_start : ℕ → Record → List ℕ → List ℕ
record_start number r more =
    text
    (codes "record " ∷ decimal number ∷ codes ": moment " ∷ decimal r.moment ∷ codes ", code " ∷ decimal r.code ∷ codes ", parameter " ∷ decimal r.parameter
    ∷ more ∷ [])

-- the end of a record's line: the event's name, where it has one
abbrev pub event_end : Option Event → List ℕ
event_end None = line_feed
event_end (Some e) = text (codes ", " ∷ event_name e ∷ line_feed ∷ [])

-- the line of a record
abbrev pub record_line : ℕ → Record → List ℕ
record_line number r = record_start number r (event_end (event r.code))

-- the number of a refusal with its place, 0 for the table, and its words
abbrev pub refused_lines : ℕ → Told → List ℕ
refused_lines number e = text (codes "refused " ∷ decimal e.number ∷ codes " at record " ∷ decimal number ∷ line_feed ∷ wording e ∷ line_feed ∷ [])

-- the line that sums up
abbrev pub summary : ℕ → ℕ → List ℕ
summary rows records = text (codes "detector rows: " ∷ decimal rows ∷ codes ", records: " ∷ decimal records ∷ line_feed ∷ [])

-- the line of a channel, if it has a row
abbrev pub row_lines : ℕ → Option DetectorRow → List ℕ
row_lines channel None = []
row_lines channel (Some d) = row_line channel d

-- the rows of the channels 1 to n, in their order
unfoldable pub rows_text : DetectorTable → ℕ → List ℕ
rows_text t zero = []
rows_text t (suc n) = rows_text t n ++ row_lines (suc n) (lookup t (suc n))

-- how many of the channels 1 to n have a row
unfoldable pub rows_count : DetectorTable → ℕ → ℕ
rows_count t zero = 0
rows_count t (suc n) = rows_count t n + cond (is_some (lookup t (suc n))) 1 0

-- the next record's line and then more, or its refusal
abbrev pub record_lines : ℕ → Result Record Told → List ℕ → List ℕ
record_lines number (Ok r) more = record_line number r ++ more
record_lines number (Err e) more = refused_lines number e

-- the records of a log after the first n, and the summary
abbrev pub log_text : ℕ → ℕ → List (List ℕ) → List ℕ
log_text rows n [] = summary rows n
log_text rows n (bs ∷ more) = record_lines (n + 1) (read_record bs) (log_text rows (n + 1) more)

-- the rows and then the log, or the refusal of the table
abbrev pub table_text : Result DetectorTable Told → List (List ℕ) → List ℕ
table_text (Ok t) records = rows_text t channels ++ log_text (rows_count t channels) 0 records
table_text (Err e) records = refused_lines 0 e

-- the whole text of a table's and a log's bytes
abbrev pub listing : List ℕ → List ℕ → List ℕ
listing table log = table_text (read_table table) (pieces log)
