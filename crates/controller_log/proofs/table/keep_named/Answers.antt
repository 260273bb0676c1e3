use Rattle.std.proofs.Common.{rules}
use Rattle.std.proofs.lemmas.List.Edits.{map_over_more}
use Rattle.std.proofs.lemmas.List.{take_all, drop_all, append-nil}
use Rattle.controller_log.specs.LeadRows.{if_named}
use Rattle.controller_log.proofs.table.keep_named.Goals as goal

pub loop-place-preserved : goal.loop-place-preserved
loop-place-preserved c = search (rules, map_over_more (if_named c.args.wanted))

pub returns : goal.returns
returns c = search (rules, take_all, drop_all, append-nil)
