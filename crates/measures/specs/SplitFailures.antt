-- The split-failure measure: its figures in words, and its tally step by step.
use Rattle.std.specs.Prelude.{◌≡◌, ℕ, zero, suc, ◌+◌, ◌-◌, ◌*◌, ◌≤◌, min, Bool, true, false, cond, ◌&&◌, nat_le, List, [], ◌∷◌, map, Some, None, Option, pos, filter, ◌==◌, slice_index, refl}
use Rattle.std.proofs.Common.{arith}
use Rattle.std.proofs.lemmas.Int.{ints}
use Rattle.controller_log.specs.Events.{code_of}
use Rattle.controller_log.specs.declared.event.Event.{Event}
use Rattle.controller_log.specs.declared.event.Event.TheVariants.{GreenBegins, GapOut, MaxOut, ForceOff, YellowBegins, YellowEnds}
use Rattle.measures.specs.Channels.{holds, some_channel}
use Rattle.measures.specs.Intervals.{shown}
use Rattle.measures.specs.Limits.{failed_green_percent, failed_red, red_window}
use Rattle.measures.specs.Meanings.{Meaning, Calls, Lawful}
use Rattle.measures.specs.Records.{among, occupied_after, changed, moment_of}
use Rattle.measures.specs.declared.interval.Interval.TheVariants.{Green, Yellow, Red}
use Rattle.measures.specs.declared.own.OwnRecord.{OwnRecord}
use Rattle.measures.specs.declared.split_failures.SplitFailures.{SplitFailures}

-- the records up to a tenth
abbrev pub upto : ℕ → List OwnRecord → List OwnRecord
upto t xs = filter (λ s. nat_le s.adjusted t) xs

-- at a tenth at least one channel is occupied, by its latest record up to there or by the set at the opening
unfoldable pub occupied_at : ℕ → List OwnRecord → ℕ → Bool
occupied_at q xs t = some_channel (occupied_after q (upto t xs))

-- how many of the n tenths from a on pass a test
abbrev pub tenths : (ℕ → Bool) → ℕ → ℕ → ℕ
tenths p a zero = 0
tenths p a (suc n) = tenths p a n + cond (p (a + n)) 1 0

-- the tenths from a on and before b in which at least one channel is occupied
abbrev pub occupied_tenths : Calls → ℕ → ℕ → ℕ
occupied_tenths c a b = tenths (occupied_at c.occupied c.between) a (b - a)

-- the records before the first with a code
abbrev pub before_code : ℕ → List OwnRecord → List OwnRecord
before_code k [] = []
before_code k (s ∷ xs) = cond (s.code == k) [] (s ∷ before_code k xs)

-- why a green ended: gap-out, max-out or force-off
abbrev pub causes : List ℕ
causes = map code_of (GapOut ∷ MaxOut ∷ ForceOff ∷ [])

-- the first such code, or 0
abbrev pub first_cause : List OwnRecord → ℕ
first_cause [] = 0
first_cause (s ∷ xs) = cond (among causes s.code) s.code (first_cause xs)

-- a split failed: it had a green, of which enough was occupied, and enough of the red window was
abbrev pub failed : ℕ → ℕ → ℕ → Bool
failed green green_occupied red_occupied = nat_le 1 green && (nat_le (failed_green_percent * green) (100 * green_occupied) && nat_le failed_red red_occupied)

-- the figures of a cycle whose yellow begins at y and ends at r: the length of green, its occupied tenths, the occupied tenths
-- of the red window, the first cause before yellow, and 1 if the split failed
abbrev pub figures_of : ℕ → ℕ → ℕ → ℕ → List ℕ
figures_of green green_occupied red_occupied cause =
    green ∷ green_occupied ∷ red_occupied ∷ cause ∷ cond (failed green green_occupied red_occupied) 1 0 ∷ 0 ∷ 0 ∷ 0 ∷ []

abbrev pub figures_at : ℕ → ℕ → Calls → ℕ → List ℕ
figures_at y r c e =
    figures_of (y - c.from) (occupied_tenths c c.from y) (occupied_tenths c r (min (r + red_window) e))
    (first_cause (before_code (code_of YellowBegins) c.between))

-- the moments at which yellow begins and ends
abbrev pub yellow_at : Calls → ℕ
yellow_at c = moment_of (code_of YellowBegins) c.between

abbrev pub red_at : Calls → ℕ
red_at c = moment_of (code_of YellowEnds) c.between

-- what is answered for a whole cycle
pub record SplitFigures (c : Calls) (e : ℕ) (r : List ℕ) : Type 0 where
  pub green_first : c.from ≤ yellow_at c
  pub yellow_next : yellow_at c ≤ red_at c
  pub red_last : red_at c ≤ e
  pub figures_are : r ≡ figures_at (yellow_at c) (red_at c) c e

-- the tally: what the signal shows, the moments of the opening, of yellow, of red and of the latest record,
-- the set of occupied channels, the occupied tenths of green and of the red window so far, and the first cause or 0
pub record Tally : Type 0 where
  pub shows : ℕ
  pub opened : ℕ
  pub yellow : ℕ
  pub red : ℕ
  pub last : ℕ
  pub occupied : ℕ
  pub green_occupied : ℕ
  pub red_occupied : ℕ
  pub cause : ℕ

abbrev pub listed : Tally → List ℕ
listed t = t.shows ∷ t.opened ∷ t.yellow ∷ t.red ∷ t.last ∷ t.occupied ∷ t.green_occupied ∷ t.red_occupied ∷ t.cause ∷ []

-- the code of a cause, or 0
abbrev pub cause_number : Option Event → ℕ
cause_number None = 0
cause_number (Some e) = code_of e

abbrev pub kept : SplitFailures → Tally
kept s = record { shows = shown s.shows; opened = s.opened; yellow = s.yellow; red = s.red; last = s.last; occupied = s.occupied.mask; green_occupied = s.green_occupied; red_occupied = s.red_occupied; cause = cause_number s.cause }

abbrev pub tally : SplitFailures → List ℕ
tally s = listed (kept s)

abbrev pub unlisted : List ℕ → Tally
unlisted l = record { shows = slice_index l 0; opened = slice_index l 1; yellow = slice_index l 2; red = slice_index l 3; last = slice_index l 4; occupied = slice_index l 5; green_occupied = slice_index l 6; red_occupied = slice_index l 7; cause = slice_index l 8 }

abbrev pub first : ℕ → ℕ → Tally
first o q = record { shows = shown Green; opened = o; yellow = 0; red = 0; last = o; occupied = q; green_occupied = 0; red_occupied = 0; cause = 0 }

-- the occupied tenths from the latest record up to an end, if the signal shows an interval
abbrev pub occupied_in : Tally → ℕ → ℕ → ℕ
occupied_in t n b = cond (t.shows == n && some_channel (holds t.occupied)) (b - t.last) 0

-- the occupied tenths of green, and of the red window, up to a moment
abbrev pub green_until : Tally → ℕ → ℕ
green_until t a = t.green_occupied + occupied_in t (shown Green) a

abbrev pub red_until : Tally → ℕ → ℕ
red_until t a = t.red_occupied + occupied_in t (shown Red) (min (t.red + red_window) a)

-- the cause with one more code
abbrev pub cause_after : Tally → ℕ → ℕ
cause_after t k = cond (t.shows == shown Green && (t.cause == 0 && among causes k)) k t.cause

abbrev pub next : Tally → OwnRecord → Tally
next t s = record {
  shows = cond (s.code == code_of YellowBegins) (shown Yellow) (cond (s.code == code_of YellowEnds) (shown Red) t.shows);
  opened = t.opened;
  yellow = cond (s.code == code_of YellowBegins) s.adjusted t.yellow;
  red = cond (s.code == code_of YellowEnds) s.adjusted t.red;
  last = s.adjusted;
  occupied = changed t.occupied s;
  green_occupied = green_until t s.adjusted;
  red_occupied = red_until t s.adjusted;
  cause = cause_after t s.code;
}

abbrev pub figures : Tally → ℕ → List ℕ
figures t e = figures_of (t.yellow - t.opened) t.green_occupied (red_until t e) t.cause

abbrev pub split_failures : Meaning
split_failures = record {
  opening = code_of GreenBegins;
  further = code_of YellowBegins ∷ code_of YellowEnds ∷ [];
  uses = record { arrivals = false; presence = true; red_light = false };
  presence = true;
  shift = λ d. pos 0;
  opened = λ o q. listed (first o q);
  stepped = λ l s. listed (next (unlisted l) s);
  closed = λ l e. figures (unlisted l) e;
}

pub split_lawful : Lawful split_failures
split_lawful = record { codes = refl; different = refl; one_to_three = refl; shift_low = λ d t l. omega (arith, ints); shift_high = λ d t l. omega (arith, ints) }
