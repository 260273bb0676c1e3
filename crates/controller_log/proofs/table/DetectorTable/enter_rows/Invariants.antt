use Rattle.std.proofs.Common.{◌≡◌, ◌+◌, ◌%◌, length}
use Rattle.std.specs.Slice.Iter.{chunks_exact_rest, chunks_exact_size}
use Rattle.std.specs.Iterator.Adapters.{enumerate_source, enumerate_count}
use Rattle.controller_log.specs.Pieces.{pieces}
use Rattle.controller_log.specs.Limits.{record_size}
use Rattle.controller_log.specs.Tables.{entered, no_rows}
use Rattle.controller_log.proofs.table.DetectorTable.enter_rows.Given as goal

abbrev pub invariant-loop-i : goal.invariant-loop-i
invariant-loop-i l =
    let rest = chunks_exact_rest (enumerate_source l.i-iterator) in
    (chunks_exact_size (enumerate_source l.i-iterator) ≡ record_size) × (length rest % record_size ≡ 0)
    × (entered (enumerate_count l.i-iterator + 1) l.table (pieces rest) ≡ entered 1 no_rows (pieces l.bytes))
