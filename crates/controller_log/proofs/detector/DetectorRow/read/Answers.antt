use Rattle.std.proofs.Common.{◌≡◌, rules}
use Rattle.controller_log.specs.Detectors.{read_row}
use Rattle.controller_log.proofs.WrittenBack.{row_kept}
use Rattle.controller_log.proofs.detector.DetectorRow.read.Goals as goal

pub returns-clause-written_back : goal.returns-clause-written_back
returns-clause-written_back c =
    let value : c.then_some.result ≡ read_row c.args.bytes.now = search rules in
    row_kept c.args.bytes.now (λ i. (c.type_inv.bytes i).fits) c.then_some.result value
