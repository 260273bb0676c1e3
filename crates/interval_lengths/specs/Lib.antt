pub mod IntervalLengths
