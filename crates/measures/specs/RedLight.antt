-- The red-light measure: its figures in words, and its tally step by step.
use Rattle.std.specs.Prelude.{◌≡◌, ℕ, ◌+◌, ◌-◌, ◌≤◌, Bool, true, false, cond, ◌&&◌, ◌||◌, nat_lt, nat_le, List, [], ◌∷◌, pos, neg_ℤ, ◌==◌, slice_index, refl}
use Rattle.std.proofs.Common.{arith}
use Rattle.std.proofs.lemmas.Int.{ints}
use Rattle.controller_log.specs.Events.{code_of}
use Rattle.controller_log.specs.declared.event.Event.TheVariants.{GreenBegins, YellowBegins, YellowEnds, RedClearanceEnds}
use Rattle.measures.specs.Intervals.{shown}
use Rattle.measures.specs.Meanings.{Meaning, Calls, Lawful}
use Rattle.measures.specs.Records.{activation, moment_of, count, total}
use Rattle.measures.specs.declared.interval.Interval.TheVariants.{Green, Yellow, RedClearance, Red}
use Rattle.measures.specs.declared.own.OwnRecord.{OwnRecord}
use Rattle.measures.specs.declared.red_light.RedLight.{RedLight}

-- the figures of a cycle whose yellow ends at r, whose red clearance ends at k and whose green begins at g:
-- the activations on yellow, on red clearance and on red, those on either red at least S after r, those on green,
-- over those on yellow the sum of their times after the opening, and over those on either red the sum of their times after r
abbrev pub figures_at : ℕ → ℕ → ℕ → ℕ → Calls → List ℕ
figures_at S r k g c =
    count (λ a. nat_lt a r) c.between
    ∷ count (λ a. nat_le r a && nat_lt a k) c.between
    ∷ count (λ a. nat_le k a && nat_lt a g) c.between
    ∷ count (λ a. nat_le r a && (nat_lt a g && nat_le (r + S) a)) c.between
    ∷ count (λ a. nat_le g a) c.between
    ∷ total (λ a. nat_lt a r) (λ a. a - c.from) c.between
    ∷ total (λ a. nat_le r a && nat_lt a g) (λ a. a - r) c.between
    ∷ 0 ∷ []

-- the moments at which yellow ends, red clearance ends and green begins
abbrev pub red_at : Calls → ℕ
red_at c = moment_of (code_of YellowEnds) c.between

abbrev pub clear_at : Calls → ℕ
clear_at c = moment_of (code_of RedClearanceEnds) c.between

abbrev pub green_at : Calls → ℕ
green_at c = moment_of (code_of GreenBegins) c.between

-- what is answered for a whole cycle
pub record RedLightFigures (S : ℕ) (c : Calls) (e : ℕ) (r : List ℕ) : Type 0 where
  pub yellow_first : c.from ≤ red_at c
  pub clearance_next : red_at c ≤ clear_at c
  pub red_next : clear_at c ≤ green_at c
  pub green_last : green_at c ≤ e
  pub figures_are : r ≡ figures_at S (red_at c) (clear_at c) (green_at c) c

-- the tally: what the signal shows, the moments of the opening and of the end of yellow,
-- the activations on yellow, red clearance and red, the severe ones, those on green, and the two sums of times
pub record Tally : Type 0 where
  pub shows : ℕ
  pub opened : ℕ
  pub red : ℕ
  pub on_yellow : ℕ
  pub on_clearance : ℕ
  pub on_red : ℕ
  pub severe : ℕ
  pub on_green : ℕ
  pub yellow_times : ℕ
  pub red_times : ℕ

abbrev pub listed : Tally → List ℕ
listed t = t.shows ∷ t.opened ∷ t.red ∷ t.on_yellow ∷ t.on_clearance ∷ t.on_red ∷ t.severe ∷ t.on_green ∷ t.yellow_times ∷ t.red_times ∷ []

abbrev pub tally : RedLight → List ℕ
tally s = shown s.shows ∷ s.opened ∷ s.red ∷ s.on_yellow ∷ s.on_clearance ∷ s.on_red ∷ s.severe ∷ s.on_green ∷ s.yellow_times ∷ s.red_times ∷ []

abbrev pub unlisted : List ℕ → Tally
unlisted l = record { shows = slice_index l 0; opened = slice_index l 1; red = slice_index l 2; on_yellow = slice_index l 3; on_clearance = slice_index l 4; on_red = slice_index l 5; severe = slice_index l 6; on_green = slice_index l 7; yellow_times = slice_index l 8; red_times = slice_index l 9 }

abbrev pub first : ℕ → Tally
first o = record { shows = shown Yellow; opened = o; red = 0; on_yellow = 0; on_clearance = 0; on_red = 0; severe = 0; on_green = 0; yellow_times = 0; red_times = 0 }

-- the signal shows red clearance or red
abbrev pub either_red : ℕ → Bool
either_red n = n == shown RedClearance || n == shown Red

-- an activation
abbrev pub counted : ℕ → Tally → ℕ → Tally
counted S t a = record {
  shows = t.shows;
  opened = t.opened;
  red = t.red;
  on_yellow = t.on_yellow + cond (t.shows == shown Yellow) 1 0;
  on_clearance = t.on_clearance + cond (t.shows == shown RedClearance) 1 0;
  on_red = t.on_red + cond (t.shows == shown Red) 1 0;
  severe = t.severe + cond (either_red t.shows && nat_le (t.red + S) a) 1 0;
  on_green = t.on_green + cond (t.shows == shown Green) 1 0;
  yellow_times = t.yellow_times + cond (t.shows == shown Yellow) (a - t.opened) 0;
  red_times = t.red_times + cond (either_red t.shows) (a - t.red) 0;
}

-- the signal changes; at the end of yellow, red begins
abbrev pub to_show : ℕ → ℕ → Tally → Tally
to_show n r t = record { shows = n; opened = t.opened; red = r; on_yellow = t.on_yellow; on_clearance = t.on_clearance; on_red = t.on_red; severe = t.severe; on_green = t.on_green; yellow_times = t.yellow_times; red_times = t.red_times }

abbrev pub next : ℕ → Tally → OwnRecord → Tally
next S t s =
    cond (activation s) (counted S t s.adjusted)
    (cond (s.code == code_of YellowEnds) (to_show (shown RedClearance) s.adjusted t)
    (cond (s.code == code_of RedClearanceEnds) (to_show (shown Red) t.red t)
    (cond (s.code == code_of GreenBegins) (to_show (shown Green) t.red t) t)))

abbrev pub figures : Tally → List ℕ
figures t = t.on_yellow ∷ t.on_clearance ∷ t.on_red ∷ t.severe ∷ t.on_green ∷ t.yellow_times ∷ t.red_times ∷ 0 ∷ []

-- with the severity setting S
abbrev pub red_light : ℕ → Meaning
red_light S = record {
  opening = code_of YellowBegins;
  further = code_of YellowEnds ∷ code_of RedClearanceEnds ∷ code_of GreenBegins ∷ [];
  uses = record { arrivals = false; presence = false; red_light = true };
  presence = false;
  shift = λ d. neg_ℤ (pos d.latency);
  opened = λ o occupied. listed (first o);
  stepped = λ l s. listed (next S (unlisted l) s);
  closed = λ l e. figures (unlisted l);
}

pub red_light_lawful : (S : ℕ) → Lawful (red_light S)
red_light_lawful S = record { codes = refl; different = refl; one_to_three = refl; shift_low = λ d t l. omega (arith, ints); shift_high = λ d t l. omega (arith, ints) }
