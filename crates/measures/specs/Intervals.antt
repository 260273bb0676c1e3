-- What a signal shows, as a number in a tally.
use Rattle.std.specs.Prelude.{ℕ}
use Rattle.measures.specs.declared.interval.Interval.{Interval}
use Rattle.measures.specs.declared.interval.Interval.TheVariants.{Green, Yellow, RedClearance, Red}

abbrev pub shown : Interval → ℕ
shown Green = 0
shown Yellow = 1
shown RedClearance = 2
shown Red = 3
