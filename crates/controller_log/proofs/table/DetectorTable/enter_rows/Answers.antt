use Rattle.std.proofs.Common.{◌≡◌, ◌+◌, ◌∷◌, length, Err, sym, ap, ◌∙◌, arith, length-append}
use Rattle.std.proofs.lemmas.Result.{err_from_is_err_and}
use Rattle.std.specs.Slice.Iter.{chunks_exact_rest}
use Rattle.std.specs.Iterator.Adapters.{enumerate_source, enumerate_count}
use Rattle.controller_log.specs.Pieces.{pieces}
use Rattle.controller_log.specs.Refusals.{told, answer}
use Rattle.controller_log.specs.Tables.{entered}
use Rattle.controller_log.proofs.Entering.{entered_goes, entered_stops}
use Rattle.controller_log.proofs.Pieces.{pieces_whole}
use Rattle.controller_log.proofs.table.DetectorTable.enter_rows.Goals as goal
use Rattle.controller_log.proofs.table.DetectorTable.enter_rows.Goals.{In-Some}

-- the row that came is the next piece of what was left
next_row : (c : In-Some) → pieces (chunks_exact_rest (enumerate_source c.loop-i.i-iterator)) ≡ c.in-Some.row.now ∷ pieces (chunks_exact_rest (enumerate_source c.next.new.self))
next_row c =
    let s = c.in-Some.ensures.steps in
    pieces_whole (chunks_exact_rest (enumerate_source c.loop-i.i-iterator)) c.in-Some.row.now (chunks_exact_rest (enumerate_source c.next.new.self)) s.0.1.0 (s.0.1.1 ∙ c.loop-i.invariant.0)

pub loop-i-preserved : goal.loop-i-preserved
loop-i-preserved c =
    let s = c.in-Some.ensures.steps in
    let rest = chunks_exact_rest (enumerate_source c.next.new.self) in
    let i = c.in-Some.i in
    let u = c.enter.new.self in
    let goes = entered_goes (i + 1) c.loop-i.table c.in-Some.row.now (pieces (chunks_exact_rest (enumerate_source c.loop-i.i-iterator))) (pieces rest) (next_row (goal.at.loop-i-preserved c).In-Some) u c.in_ok-enter.ensures in
    let count : enumerate_count c.next.new.self + 1 ≡ i + 1 + 1 = omega (arith, s.1, s.2) in (
      s.0.0 ∙ c.loop-i.invariant.0,
      omega (arith, ap length s.0.1.0 ∙ length-append c.in-Some.row.now rest),
      ap (λ n. entered n u (pieces rest)) count ∙ sym goes ∙ ap (λ n. entered (n + 1) c.loop-i.table (pieces (chunks_exact_rest (enumerate_source c.loop-i.i-iterator)))) s.1 ∙ c.loop-i.invariant.2,
    )

pub returns-in_err-enter : goal.returns-in_err-enter
returns-in_err-enter c =
    let s = c.in-Some.ensures.steps in
    let p = err_from_is_err_and c.from_residual.result c.from_residual.ensures.1 in
    let stops = entered_stops (c.in-Some.i + 1) c.loop-i.table c.in-Some.row.now (pieces (chunks_exact_rest (enumerate_source c.loop-i.i-iterator))) (pieces (chunks_exact_rest (enumerate_source c.next.new.self))) (next_row (goal.at.returns-in_err-enter c).In-Some) (told c.in_err-enter.field-0.0) c.in_err-enter.ensures in
    ap answer p.1 ∙ ap (λ e. Err (told e)) p.2 ∙ sym stops
    ∙ ap (λ n. entered (n + 1) c.loop-i.table (pieces (chunks_exact_rest (enumerate_source c.loop-i.i-iterator)))) s.1 ∙ c.loop-i.invariant.2
