use Rattle.std.proofs.Common.{rules}
use Rattle.interval_lengths.specs.IntervalLengths.{interval_lengths, Lengths}
use Rattle.interval_lengths.proofs.LengthsKeep.{lengths_of_cycle}
use Rattle.measures.proofs.Marks.{of_answer}
use Rattle.interval_lengths.proofs.IntervalLengthsMeasure.close.Goals as goal

pub returns-clause-whole_cycle : goal.returns-clause-whole_cycle
returns-clause-whole_cycle c d w e =
    of_answer interval_lengths d c.args.moment w _ _ (Lengths d c.args.moment) (λ h. record { value = search rules; bound = search rules }) e (lengths_of_cycle d c.args.moment w)
