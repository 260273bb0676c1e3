-- What a measure means, and the lists of calls that are made of it.
use Rattle.std.specs.Prelude.{◌≡◌, ℕ, ◌+◌, ◌^◌, ◌<◌, ◌≤◌, Bool, true, false, not, ◌&&◌, ◌||◌, List, [], ◌∷◌, ◌++◌, map, length, ℤ, pos, neg_ℤ, ◌≤ℤ◌, fold, filter}
use Rattle.std.specs.List.{AllByRecursion}
use Rattle.controller_log.specs.Detectors.{within}
use Rattle.controller_log.specs.Events.{code_of}
use Rattle.controller_log.specs.Limits.{channels, max_moment, max_travel, max_latency}
use Rattle.controller_log.specs.declared.detector.DetectorRow.{DetectorRow}
use Rattle.controller_log.specs.declared.detector.Uses.{Uses}
use Rattle.controller_log.specs.declared.event.Event.TheVariants.{GreenBegins, YellowBegins, YellowEnds, RedClearanceEnds}
use Rattle.measures.specs.Channels.{channel}
use Rattle.measures.specs.Limits.{longest_cycle, most_records, max_shift}
use Rattle.measures.specs.Records.{among, phase_codes, detector}
use Rattle.measures.specs.declared.own.OwnRecord.{OwnRecord}

-- a measure with its settings: its cycle codes, what it takes from a detector table,
-- and how its tally follows from an opening (a moment and a set of occupied channels) and a step, and the figures from a close
pub record Meaning : Type 0 where
  pub opening : ℕ
  pub further : List ℕ
  pub uses : Uses
  pub presence : Bool
  pub shift : DetectorRow → ℤ
  pub opened : ℕ → ℕ → List ℕ
  pub stepped : List ℕ → OwnRecord → List ℕ
  pub closed : List ℕ → ℕ → List ℕ

-- the calls made of a measure in one cycle so far: its opening with the occupied channels, and the own records after it
pub record Calls : Type 0 where
  pub from : ℕ
  pub occupied : ℕ
  pub between : List OwnRecord

abbrev pub calls : ℕ → ℕ → List OwnRecord → Calls
calls o q xs = record { from = o; occupied = q; between = xs }

-- an opening, before any step
abbrev pub opening_at : ℕ → ℕ → Calls
opening_at o q = calls o q []

-- one step more
infixl 45 ◌▹◌
abbrev pub ◌▹◌ : Calls → OwnRecord → Calls
c ▹ s = record { from = c.from; occupied = c.occupied; between = c.between ++ s ∷ [] }

-- the tally that these calls lead to
abbrev pub tallied : Meaning → Calls → List ℕ
tallied m c = fold m.stepped (m.opened c.from c.occupied) c.between

-- the further codes among those of some records
abbrev pub further_codes : Meaning → List OwnRecord → List ℕ
further_codes m xs = filter (among m.further) (map (λ s. s.code) xs)

-- a record may come between the opening, at o, and the close: an own record in the cycle's longest time, with another code than the opening's
pub record Fits (m : Meaning) (o : ℕ) (s : OwnRecord) : Type 0 where
  pub after : o ≤ s.adjusted
  pub near : s.adjusted ≤ o + longest_cycle
  pub kind : (detector s || among phase_codes s.code) ≡ true
  pub place : detector s ≡ true → channel s.parameter ≡ true
  pub inner : s.code ≡ m.opening → ⊥

-- working order: adjusted moments never fall, and at one adjusted moment a phase record comes before a detector record
pub record Before (x y : OwnRecord) : Type 0 where
  pub rises : x.adjusted ≤ y.adjusted
  pub phase_first : detector x ≡ true → detector y ≡ false → x.adjusted < y.adjusted

-- each record comes before each that is behind it
abbrev pub Ordered : List OwnRecord → Type 0
Ordered [] = Unit {0}
Ordered (x ∷ xs) = AllByRecursion (Before x) xs × Ordered xs

-- a list that goes on to another
abbrev pub Front : List ℕ → List ℕ → Type 0
Front xs ys = (rest : List ℕ) × (xs ++ rest ≡ ys)

-- the calls that a watch makes, up to any place in a cycle; nothing is asked of a measure elsewhere
pub record Admissible (m : Meaning) (c : Calls) : Type 0 where
  pub moment : c.from ≤ max_moment
  pub set : c.occupied < 2 ^ channels
  pub unread : m.presence ≡ false → c.occupied ≡ 0
  pub few : length c.between ≤ most_records
  pub each : AllByRecursion (Fits m c.from) c.between
  pub ordered : Ordered c.between
  pub turns : Front (further_codes m c.between) m.further

-- the calls may be closed at e: each further code came once, in order, and the close comes behind every record
pub record Closes (m : Meaning) (c : Calls) (e : ℕ) : Type 0 where
  pub all : further_codes m c.between ≡ m.further
  pub later : c.from < e
  pub near : e ≤ c.from + longest_cycle
  pub behind : AllByRecursion (λ s. (s.adjusted ≤ e) × (detector s ≡ true → s.adjusted < e)) c.between

-- a whole clean cycle, from its opening to its close at e
pub record Whole (m : Meaning) (c : Calls) (e : ℕ) : Type 0 where
  pub admissible : Admissible m c
  pub closes : Closes m c e

-- a tally to which admissible calls lead, and which a step, or a close, may follow
unfoldable pub MayStep : Meaning → List ℕ → OwnRecord → Type 0
MayStep m t s = (c : Calls) × (t ≡ tallied m c) × Admissible m (c ▹ s)

unfoldable pub MayClose : Meaning → List ℕ → ℕ → Type 0
MayClose m t e = (c : Calls) × (t ≡ tallied m c) × Whole m c e

-- what a close at e answers: the figures that follow from the tally and e, each below 2^63
pub record Answers (m : Meaning) (t : List ℕ) (e : ℕ) (r : List ℕ) : Type 0 where
  pub value : r ≡ m.closed t e
  pub bound : AllByRecursion (λ f. f < 2 ^ 63) r

-- each of some numbers passes a test; they are all different
abbrev pub each_is : (ℕ → Bool) → List ℕ → Bool
each_is p [] = true
each_is p (c ∷ cs) = p c && each_is p cs

abbrev pub all_different : List ℕ → Bool
all_different [] = true
all_different (c ∷ cs) = not (among cs c) && all_different cs

-- the codes that can open and cut a cycle
abbrev pub cycle_codes : List ℕ
cycle_codes = map code_of (GreenBegins ∷ YellowBegins ∷ YellowEnds ∷ RedClearanceEnds ∷ [])

-- what may be counted on of every measure: its codes, and its shift for a row that a table can have
pub record Lawful (m : Meaning) : Type 0 where
  pub codes : each_is (among cycle_codes) (m.opening ∷ m.further) ≡ true
  pub different : all_different (m.opening ∷ m.further) ≡ true
  pub one_to_three : within 1 3 (length m.further) ≡ true
  pub shift_low : (d : DetectorRow) → d.travel ≤ max_travel → d.latency ≤ max_latency → neg_ℤ (pos max_latency) ≤ℤ m.shift d
  pub shift_high : (d : DetectorRow) → d.travel ≤ max_travel → d.latency ≤ max_latency → m.shift d ≤ℤ pos max_shift
