use Rattle.std.proofs.Common.{◌^◌, arith, rules}
use Rattle.std.proofs.lemmas.Nat.{mul-le}
use Rattle.measures.specs.Arrivals.{arrivals, ArrivalFigures}
use Rattle.measures.specs.Limits.{most_records}
use Rattle.measures.proofs.ArrivalsKeep.{figures_of_cycle, room_to_close}
use Rattle.measures.proofs.Marks.{of_answer}
use Rattle.measures.proofs.arrivals.ArrivalsMeasure.close.Goals as goal

pub returns-clause-figures : goal.returns-clause-figures
returns-clause-figures c h =
    let r = room_to_close _ _ h in
    let p = mul-le c.args.self.now.on_red c.from-red.result most_records (2 ^ 32) r.on_red (omega arith) in
    record { value = search rules; bound = search (rules, r, p) }

pub returns-clause-whole_cycle : goal.returns-clause-whole_cycle
returns-clause-whole_cycle c d w e =
    of_answer arrivals d c.args.moment w _ _ (ArrivalFigures d c.args.moment) (returns-clause-figures c) e (figures_of_cycle d c.args.moment w)
