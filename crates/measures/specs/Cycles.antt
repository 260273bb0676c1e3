-- A measure at hand.
use Rattle.measures.specs.Meanings.{Meaning}
use Rattle.measures.specs.declared.measure.Measure.{Ghosts}

-- what it means, by its settings
abbrev pub meaning_of : {M S : Type 0} → Ghosts M S → M → Meaning
meaning_of g m = g.meaning (g.settings m)
