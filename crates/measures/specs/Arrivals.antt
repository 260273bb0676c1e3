-- The arrivals measure: its figures in words, and its tally step by step.
use Rattle.std.specs.Prelude.{◌≡◌, ℕ, ◌+◌, ◌-◌, ◌*◌, ◌≤◌, true, false, cond, ◌&&◌, nat_lt, nat_le, List, [], ◌∷◌, pos, ◌-ℤ◌, ◌==◌, slice_index, refl}
use Rattle.std.proofs.Common.{arith}
use Rattle.std.proofs.lemmas.Int.{ints}
use Rattle.controller_log.specs.Events.{code_of}
use Rattle.controller_log.specs.declared.event.Event.TheVariants.{GreenBegins, YellowBegins, YellowEnds}
use Rattle.measures.specs.Intervals.{shown}
use Rattle.measures.specs.Meanings.{Meaning, Calls, Lawful}
use Rattle.measures.specs.Records.{activation, moment_of, count, total}
use Rattle.measures.specs.declared.arrivals.Arrivals.{Arrivals}
use Rattle.measures.specs.declared.interval.Interval.TheVariants.{Green, Yellow, Red}
use Rattle.measures.specs.declared.own.OwnRecord.{OwnRecord}

-- the figures of a cycle whose green begins at g and whose yellow begins at y: the lengths of red, green and yellow,
-- the activations in each, and over those on red the sum of their waits until g
abbrev pub figures_at : ℕ → ℕ → Calls → ℕ → List ℕ
figures_at g y c e =
    (g - c.from) ∷ (y - g) ∷ (e - y)
    ∷ count (λ a. nat_lt a g) c.between
    ∷ count (λ a. nat_le g a && nat_lt a y) c.between
    ∷ count (λ a. nat_le y a) c.between
    ∷ total (λ a. nat_lt a g) (λ a. g - a) c.between
    ∷ 0 ∷ []

-- the moments at which green and yellow begin
abbrev pub green_at : Calls → ℕ
green_at c = moment_of (code_of GreenBegins) c.between

abbrev pub yellow_at : Calls → ℕ
yellow_at c = moment_of (code_of YellowBegins) c.between

-- what is answered for a whole cycle
pub record ArrivalFigures (c : Calls) (e : ℕ) (r : List ℕ) : Type 0 where
  pub red_first : c.from ≤ green_at c
  pub green_next : green_at c ≤ yellow_at c
  pub yellow_last : yellow_at c ≤ e
  pub figures_are : r ≡ figures_at (green_at c) (yellow_at c) c e

-- the tally: what the signal shows, the moments of the opening, of green and of yellow, the activations on red, green and yellow,
-- and over those on red the sum of their times after the opening
pub record Tally : Type 0 where
  pub shows : ℕ
  pub opened : ℕ
  pub green : ℕ
  pub yellow : ℕ
  pub on_red : ℕ
  pub on_green : ℕ
  pub on_yellow : ℕ
  pub red_times : ℕ

abbrev pub listed : Tally → List ℕ
listed t = t.shows ∷ t.opened ∷ t.green ∷ t.yellow ∷ t.on_red ∷ t.on_green ∷ t.on_yellow ∷ t.red_times ∷ []

abbrev pub tally : Arrivals → List ℕ
tally s = shown s.shows ∷ s.opened ∷ s.green ∷ s.yellow ∷ s.on_red ∷ s.on_green ∷ s.on_yellow ∷ s.red_times ∷ []

abbrev pub unlisted : List ℕ → Tally
unlisted l = record { shows = slice_index l 0; opened = slice_index l 1; green = slice_index l 2; yellow = slice_index l 3; on_red = slice_index l 4; on_green = slice_index l 5; on_yellow = slice_index l 6; red_times = slice_index l 7 }

abbrev pub first : ℕ → Tally
first o = record { shows = shown Red; opened = o; green = 0; yellow = 0; on_red = 0; on_green = 0; on_yellow = 0; red_times = 0 }

-- an activation
abbrev pub counted : Tally → ℕ → Tally
counted t a = record {
  shows = t.shows;
  opened = t.opened;
  green = t.green;
  yellow = t.yellow;
  on_red = t.on_red + cond (t.shows == shown Red) 1 0;
  on_green = t.on_green + cond (t.shows == shown Green) 1 0;
  on_yellow = t.on_yellow + cond (t.shows == shown Yellow) 1 0;
  red_times = t.red_times + cond (t.shows == shown Red) (a - t.opened) 0;
}

abbrev pub to_green : Tally → ℕ → Tally
to_green t a = record { shows = shown Green; opened = t.opened; green = a; yellow = t.yellow; on_red = t.on_red; on_green = t.on_green; on_yellow = t.on_yellow; red_times = t.red_times }

abbrev pub to_yellow : Tally → ℕ → Tally
to_yellow t a = record { shows = shown Yellow; opened = t.opened; green = t.green; yellow = a; on_red = t.on_red; on_green = t.on_green; on_yellow = t.on_yellow; red_times = t.red_times }

abbrev pub next : Tally → OwnRecord → Tally
next t s =
    cond (activation s) (counted t s.adjusted)
    (cond (s.code == code_of GreenBegins) (to_green t s.adjusted)
    (cond (s.code == code_of YellowBegins) (to_yellow t s.adjusted) t))

abbrev pub figures : Tally → ℕ → List ℕ
figures t e =
    (t.green - t.opened) ∷ (t.yellow - t.green) ∷ (e - t.yellow) ∷ t.on_red ∷ t.on_green ∷ t.on_yellow
    ∷ (t.on_red * (t.green - t.opened) - t.red_times) ∷ 0 ∷ []

abbrev pub arrivals : Meaning
arrivals = record {
  opening = code_of YellowEnds;
  further = code_of GreenBegins ∷ code_of YellowBegins ∷ [];
  uses = record { arrivals = true; presence = false; red_light = false };
  presence = false;
  shift = λ d. pos d.travel -ℤ pos d.latency;
  opened = λ o occupied. listed (first o);
  stepped = λ l s. listed (next (unlisted l) s);
  closed = λ l e. figures (unlisted l) e;
}

pub arrivals_lawful : Lawful arrivals
arrivals_lawful = record { codes = refl; different = refl; one_to_three = refl; shift_low = λ d t l. omega (arith, ints); shift_high = λ d t l. omega (arith, ints) }
