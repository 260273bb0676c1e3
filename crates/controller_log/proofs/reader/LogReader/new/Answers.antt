use Rattle.std.proofs.Common.{sym, subst, rules}
use Rattle.std.proofs.lemmas.List.{take_all}
use Rattle.controller_log.specs.Pieces.{Cuts}
use Rattle.controller_log.proofs.Pieces.{pieces_cut}
use Rattle.controller_log.proofs.reader.LogReader.new.Goals as goal

pub returns-clause-whole : goal.returns-clause-whole
returns-clause-whole c = subst (Cuts c.args.log.now) (sym (search (rules, take_all))) (pieces_cut c.args.log.now)
