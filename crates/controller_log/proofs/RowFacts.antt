-- What is known of 8 bytes that read as a row.
use Rattle.std.proofs.Common.{◌≡◌, ℕ, ◌≤◌, true, ◌&&◌, eqb, leb, List, length, get_or, Some, subst}
use Rattle.std.proofs.lemmas.Option.{cond_some}
use Rattle.std.proofs.lemmas.Bool.{and_parts, eqb-true, leb-true}
use Rattle.controller_log.specs.Detectors.{within, in_range, row_fields, read_row}
use Rattle.controller_log.specs.Limits.{record_size, channels, all_uses}
use Rattle.controller_log.specs.declared.detector.DetectorRow.{DetectorRow}

pub record RowFacts (bs : List ℕ) (w : ℕ × DetectorRow) : Type 0 where
  pub size : length bs ≡ record_size
  pub uses : get_or bs 2 0 ≤ all_uses
  pub zero_byte : get_or bs 3 0 ≡ 0
  pub channel : within 1 channels w.0 ≡ true
  pub same : ◌≡◌ {A = ℕ × DetectorRow} (get_or bs 0 0, row_fields bs) w

pub row_facts : (bs : List ℕ) (w : ℕ × DetectorRow) → read_row bs ≡ Some w → RowFacts bs w
row_facts bs w e =
    let k = cond_some (eqb (length bs) record_size && (leb (get_or bs 2 0) all_uses && (eqb (get_or bs 3 0) 0 && in_range (get_or bs 0 0) (row_fields bs)))) (get_or bs 0 0, row_fields bs) w e in
    let size = and_parts (eqb (length bs) record_size) _ k.0 in
    let uses = and_parts (leb (get_or bs 2 0) all_uses) _ size.1 in
    let zeros = and_parts (eqb (get_or bs 3 0) 0) _ uses.1 in
    let range = and_parts (within 1 channels (get_or bs 0 0)) _ zeros.1 in
    record {
      size = eqb-true _ _ size.0;
      uses = leb-true _ _ uses.0;
      zero_byte = eqb-true _ _ zeros.0;
      channel = subst (λ v. within 1 channels v.0 ≡ true) k.1 range.0;
      same = k.1;
    }
