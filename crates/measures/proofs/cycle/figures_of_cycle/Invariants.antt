use Rattle.std.proofs.Common.{◌≡◌, ℕ, take}
use Rattle.measures.specs.Meanings.{Admissible, calls, tallied}
use Rattle.measures.proofs.cycle.figures_of_cycle.Given as goal

-- the settings stay, and the records so far lead from the opening's tally to this one, where they are admissible
abbrev pub invariant-loop-own : goal.invariant-loop-own
invariant-loop-own g l =
    let m = g.M.Measure in
    let means = m.meaning (m.settings l.initial.measure) in
    (m.settings l.measure ≡ m.settings l.initial.measure)
    × ((q : ℕ) → m.tally l.initial.measure ≡ means.opened l.opened q → Admissible means (calls l.opened q (take l.own-index l.between))
    → m.tally l.measure ≡ tallied means (calls l.opened q (take l.own-index l.between)))
