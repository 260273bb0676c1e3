use Rattle.std.proofs.Common.{◌^◌, ◌<◌, arith, rules}
use Rattle.std.proofs.lemmas.Bool.Decides.{nat_tests}
use Rattle.measures.specs.SplitFailures.{split_failures, SplitFigures}
use Rattle.measures.proofs.Marks.{of_answer}
use Rattle.measures.proofs.SplitKeep.{figures_of_cycle, room_to_close}
use Rattle.measures.proofs.split_failures.SplitFailuresMeasure.close.Goals as goal

pub returns-clause-figures : goal.returns-clause-figures
returns-clause-figures c h =
    let r = room_to_close _ _ h in
    let f3 = c.red_until-red_occupied.ensures r.red_occupied in
    let f5 = c.split_failed.ensures (omega arith) r.green_occupied in
    let low : c.red_until-red_occupied.result < 2 ^ 63 = (let k = r.red_occupied in rw f3 (grind (arith, nat_tests))) in
    record { value = search rules; bound = search (rules, r, low) }

pub returns-clause-whole_cycle : goal.returns-clause-whole_cycle
returns-clause-whole_cycle c d w e =
    of_answer split_failures d c.args.moment w _ _ (SplitFigures d c.args.moment) (returns-clause-figures c) e (figures_of_cycle d c.args.moment w)
