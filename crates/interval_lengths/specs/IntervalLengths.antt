-- How long each interval of a phase lasts: the figures in words, and the tally step by step.
use Rattle.std.specs.Prelude.{◌≡◌, ℕ, ◌-◌, ◌≤◌, false, cond, List, [], ◌∷◌, pos, ◌==◌, slice_index, refl}
use Rattle.std.proofs.Common.{arith}
use Rattle.std.proofs.lemmas.Int.{ints}
use Rattle.controller_log.specs.Events.{code_of}
use Rattle.controller_log.specs.declared.event.Event.TheVariants.{GreenBegins, YellowBegins, YellowEnds, RedClearanceEnds}
use Rattle.interval_lengths.specs.declared.IntervalLengths.{IntervalLengths}
use Rattle.measures.specs.Meanings.{Meaning, Calls, Lawful}
use Rattle.measures.specs.Records.{moment_of}
use Rattle.measures.specs.declared.own.OwnRecord.{OwnRecord}

-- the moments at which yellow, red clearance and red begin
abbrev pub yellow_at : Calls → ℕ
yellow_at c = moment_of (code_of YellowBegins) c.between

abbrev pub clearance_at : Calls → ℕ
clearance_at c = moment_of (code_of YellowEnds) c.between

abbrev pub red_at : Calls → ℕ
red_at c = moment_of (code_of RedClearanceEnds) c.between

-- what is answered for a whole cycle: the lengths of green, yellow, red clearance and red
pub record Lengths (c : Calls) (e : ℕ) (r : List ℕ) : Type 0 where
  pub green_first : c.from ≤ yellow_at c
  pub yellow_next : yellow_at c ≤ clearance_at c
  pub clearance_next : clearance_at c ≤ red_at c
  pub red_last : red_at c ≤ e
  pub figures_are : r ≡ (yellow_at c - c.from) ∷ (clearance_at c - yellow_at c) ∷ (red_at c - clearance_at c) ∷ (e - red_at c) ∷ 0 ∷ 0 ∷ 0 ∷ 0 ∷ []

-- the tally: the moments at which green, yellow, red clearance and red begin
abbrev pub tally : IntervalLengths → List ℕ
tally s = s.green ∷ s.yellow ∷ s.clearance ∷ s.red ∷ []

-- a number, or another where a code is met
abbrev pub unless_met : ℕ → OwnRecord → ℕ → ℕ
unless_met k s n = cond (s.code == k) s.adjusted n

abbrev pub interval_lengths : Meaning
interval_lengths = record {
  opening = code_of GreenBegins;
  further = code_of YellowBegins ∷ code_of YellowEnds ∷ code_of RedClearanceEnds ∷ [];
  uses = record { arrivals = false; presence = false; red_light = false };
  presence = false;
  shift = λ d. pos 0;
  opened = λ o q. o ∷ 0 ∷ 0 ∷ 0 ∷ [];
  stepped = λ t s.
      slice_index t 0
      ∷ unless_met (code_of YellowBegins) s (slice_index t 1)
      ∷ unless_met (code_of YellowEnds) s (slice_index t 2)
      ∷ unless_met (code_of RedClearanceEnds) s (slice_index t 3)
      ∷ [];
  closed = λ t e. (slice_index t 1 - slice_index t 0) ∷ (slice_index t 2 - slice_index t 1) ∷ (slice_index t 3 - slice_index t 2) ∷ (e - slice_index t 3) ∷ 0 ∷ 0 ∷ 0 ∷ 0 ∷ [];
}

pub lengths_lawful : Lawful interval_lengths
lengths_lawful = record { codes = refl; different = refl; one_to_three = refl; shift_low = λ d t l. omega (arith, ints); shift_high = λ d t l. omega (arith, ints) }
