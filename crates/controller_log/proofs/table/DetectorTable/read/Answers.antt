use Rattle.std.proofs.Common.{◌≡◌, sym, subst, rules}
use Rattle.controller_log.specs.Refusals.{answer}
use Rattle.controller_log.specs.TableRules.{TableRules}
use Rattle.controller_log.specs.Tables.{read_table}
use Rattle.controller_log.proofs.Rules.{rules_kept}
use Rattle.controller_log.proofs.table.DetectorTable.read.Goals as goal

pub returns : goal.returns
returns c =
    let bs = c.args.bytes.now in
    let value : answer c.enter_rows.result ≡ read_table bs = search rules in
    record { value = value; rules = subst (TableRules bs) (sym value) (rules_kept bs) }
