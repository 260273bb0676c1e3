-- The debouncing layer over a measure: which records it hands down, and its tally step by step.
use Rattle.std.specs.Prelude.{◌≡◌, ℕ, Bool, true, cond, ◌&&◌, List, [], ◌∷◌, ◌++◌}
use Rattle.measures.specs.Channels.{channel, holds}
use Rattle.measures.specs.Meanings.{Meaning, Calls, ◌▹◌, tallied, Admissible, Whole, Lawful}
use Rattle.measures.specs.Records.{activation, occupied_after, changed}
use Rattle.measures.specs.declared.debounced.Debounced.{Debounced}
use Rattle.measures.specs.declared.measure.Measure.{Ghosts}
use Rattle.measures.specs.declared.own.OwnRecord.{OwnRecord}

-- an activation of a channel that was occupied already, by the records before it
abbrev pub repeats : ℕ → List OwnRecord → OwnRecord → Bool
repeats q before s = activation s && occupied_after q before s.parameter

-- of the records behind some others, all but the repeated activations
abbrev pub handed_behind : ℕ → List OwnRecord → List OwnRecord → List OwnRecord
handed_behind q before [] = []
handed_behind q before (s ∷ xs) =
    cond (repeats q before s) (handed_behind q (before ++ s ∷ []) xs) (s ∷ handed_behind q (before ++ s ∷ []) xs)

-- the calls that the layer makes of the measure below
abbrev pub handed_down : Calls → Calls
handed_down c = record { from = c.from; occupied = c.occupied; between = handed_behind c.occupied [] c.between }

-- what calls of the layer come to: its set is that of the channels whose latest record is an activation,
-- and the tally below is that of the records handed down
pub record Debounces (m : Meaning) (c : Calls) (set : ℕ) (below : List ℕ) : Type 0 where
  pub on : (d : ℕ) → channel d ≡ true → holds set d ≡ occupied_after c.occupied c.between d
  pub handed : below ≡ tallied m (handed_down c)

-- what is answered for a whole cycle: the figures of the measure below, over the records handed down, which are a whole cycle for it,
-- and what these are in words
pub record DebouncedFigures (m : Meaning) (words : Calls → ℕ → List ℕ → Type 0) (c : Calls) (e : ℕ) (r : List ℕ) : Type 0 where
  pub whole_below : Whole m (handed_down c) e
  pub figures_are : r ≡ m.closed (tallied m (handed_down c)) e
  pub words_below : words (handed_down c) e r

-- the first number of a tally, and those behind it
abbrev pub front : List ℕ → ℕ
front [] = 0
front (n ∷ ns) = n

abbrev pub rest : List ℕ → List ℕ
rest [] = []
rest (n ∷ ns) = ns

-- an activation of a channel in the set
abbrev pub dropped : ℕ → OwnRecord → Bool
dropped q s = activation s && holds q s.parameter

abbrev pub next : Meaning → ℕ → List ℕ → OwnRecord → List ℕ
next m q t s = cond (dropped q s) (q ∷ t) (changed q s ∷ m.stepped t s)

-- the tally is the set, and then the tally below; all else is that of the measure below
abbrev pub debounced : Meaning → Meaning
debounced m = record {
  opening = m.opening;
  further = m.further;
  uses = m.uses;
  presence = m.presence;
  shift = m.shift;
  opened = λ o q. q ∷ m.opened o q;
  stepped = λ t s. next m (front t) (rest t) s;
  closed = λ t e. m.closed (rest t) e;
}

pub debounced_lawful : (m : Meaning) → Lawful m → Lawful (debounced m)
debounced_lawful m l = record { codes = l.codes; different = l.different; one_to_three = l.one_to_three; shift_low = l.shift_low; shift_high = l.shift_high }

-- the meaning of the measure below a layer, and the layer's tally
abbrev pub meant : {M S : Type 0} → Ghosts M S → Debounced M S → Meaning
meant g s = g.meaning (g.settings s.below)

abbrev pub tally : {M S : Type 0} → Ghosts M S → Debounced M S → List ℕ
tally g s = s.on.mask ∷ g.tally s.below

-- a step of the layer: whichever calls led to its tally, it comes to what these and the step should come to
abbrev pub Steps : {M S : Type 0} → Ghosts M S → Debounced M S → OwnRecord → Debounced M S → Type 0
Steps g s own s' = (c : Calls) → Admissible (debounced (meant g s)) (c ▹ own) → tally g s ≡ tallied (debounced (meant g s)) c → Debounces (meant g s) (c ▹ own) s'.on.mask (g.tally s'.below)
