-- What the split-failure tally keeps along admissible calls, and its figures at the close of a whole cycle.
use Rattle.std.proofs.Common.{◌≡◌, ℕ, ◌+◌, ◌-◌, ◌<◌, ◌≤◌, min, Bool, true, false, cond, not, ◌&&◌, ◌||◌, eqb, List, [], ◌∷◌, ◌++◌, length, get_or, sym, refl, ap, ◌∙◌, subst, arith}
use Rattle.std.specs.List.{AllByRecursion}
use Rattle.std.proofs.ByRecursion.{All-weaker, All-push}
use Rattle.std.proofs.lemmas.Bool.Decides.{nat_tests}
use Rattle.measures.specs.Channels.{channel, holds, some_channel}
use Rattle.measures.specs.Intervals.{shown}
use Rattle.measures.specs.Limits.{longest_cycle, red_window}
use Rattle.measures.specs.Meanings.{Calls, ◌▹◌, tallied, Before, Admissible, Whole, MayStep, MayClose}
use Rattle.measures.specs.Records.{among, activation, of_channel, occupied_after}
use Rattle.measures.specs.SplitFailures.{occupied_at, before_code, causes, first_cause, Tally, unlisted, first, green_until, red_until, next, figures, split_failures, split_lawful, yellow_at, red_at, SplitFigures}
use Rattle.measures.specs.declared.interval.Interval.TheVariants.{Green, Yellow, Red}
use Rattle.measures.specs.declared.own.OwnRecord.{OwnRecord}
use Rattle.measures.proofs.Along.{marks, Next, all_pop, at_step, at_close}
use Rattle.measures.proofs.Handing.{occupied_push}
use Rattle.measures.proofs.Marks.{kept_along, Rises, marks_are, in_order}
use Rattle.measures.proofs.Sets.{holds_changed, some_same}
use Rattle.measures.proofs.Spans.{span, span_none, span_before, span_on, span_capped, tenths_le}

-- the first cause before yellow, one record on
abbrev has : ℕ → List OwnRecord → Bool
has k [] = false
has k (x ∷ xs) = eqb x.code k || has k xs

has_push : (k : ℕ) (xs : List OwnRecord) (s : OwnRecord) → has k (xs ++ s ∷ []) ≡ (has k xs || eqb s.code k)
has_push k [] s = grind (arith, nat_tests)
has_push k (x ∷ xs) s = let h = has_push k xs s in rw h (grind (arith, nat_tests))

abbrev cause_of : List OwnRecord → ℕ
cause_of xs = first_cause (before_code 8 xs)

cause_push : (xs : List OwnRecord) (s : OwnRecord) → cause_of (xs ++ s ∷ []) ≡ cond (not (has 8 xs) && (eqb (cause_of xs) 0 && among causes s.code)) s.code (cause_of xs)
cause_push [] s = grind (arith, nat_tests)
cause_push (x ∷ xs) s = let h = cause_push xs s in grind (arith, nat_tests)

-- once some further codes have come: what the signal shows, and the occupied tenths up to a moment
abbrev showing : List ℕ → ℕ
showing [] = shown Green
showing (y ∷ []) = shown Yellow
showing (y ∷ r ∷ ms) = shown Red

abbrev green_part : (ℕ → Bool) → ℕ → List ℕ → ℕ → ℕ
green_part p o [] last = span p o last
green_part p o (y ∷ ms) last = span p o y

abbrev red_part : (ℕ → Bool) → List ℕ → ℕ → ℕ
red_part p [] last = 0
red_part p (y ∷ []) last = 0
red_part p (y ∷ r ∷ ms) last = span p r (min (r + red_window) last)

pub record Keeps (c : Calls) (ms : List ℕ) (t : Tally) : Type 0 where
  pub shows : t.shows ≡ showing ms
  pub opened : t.opened ≡ c.from
  pub yellow : t.yellow ≡ get_or ms 0 0
  pub red : t.red ≡ get_or ms 1 0
  pub from_low : c.from ≤ t.last
  pub last_least : (b : ℕ) → c.from ≤ b → AllByRecursion (λ x. x.adjusted ≤ b) c.between → t.last ≤ b
  pub last_near : t.last ≤ c.from + longest_cycle
  pub until : AllByRecursion (λ x. x.adjusted ≤ t.last) c.between
  pub marks_until : AllByRecursion (λ m. m ≤ t.last) ms
  pub occupied : (d : ℕ) → channel d ≡ true → holds t.occupied d ≡ occupied_after c.occupied c.between d
  pub green_occupied : t.green_occupied ≡ green_part (occupied_at c.occupied c.between) c.from ms t.last
  pub red_occupied : t.red_occupied ≡ red_part (occupied_at c.occupied c.between) ms t.last
  pub came : has 8 c.between ≡ not (eqb (showing ms) (shown Green))
  pub cause : t.cause ≡ cause_of c.between

starts : (o q : ℕ) → Keeps (record { from = o; occupied = q; between = [] }) [] (first o q)
unfolding occupied_after
starts o q = record {
  shows = refl;
  opened = refl;
  yellow = refl;
  red = refl;
  from_low = omega arith;
  last_least = λ b l a. l;
  last_near = omega arith;
  until = tt;
  marks_until = tt;
  occupied = λ d k. refl;
  green_occupied = sym (span_none (occupied_at q []) o o (omega arith));
  red_occupied = refl;
  came = refl;
  cause = refl;
}

module _ (c : Calls) (s : OwnRecord) (n : Next split_failures c s) (t : Tally) where
  rises : (ms : List ℕ) → Keeps c ms t → t.last ≤ s.adjusted
  rises ms h = h.last_least s.adjusted n.fits.after (All-weaker (λ x. Before x s) (λ x. x.adjusted ≤ s.adjusted) (λ x b. b.rises) c.between n.behind)

  some : (ms : List ℕ) → Keeps c ms t → some_channel (holds t.occupied) ≡ some_channel (occupied_after c.occupied c.between)
  some ms h = some_same (holds t.occupied) (occupied_after c.occupied c.between) h.occupied

  green_over : (y : ℕ) → y ≤ s.adjusted → t.green_occupied ≡ span (occupied_at c.occupied c.between) c.from y → eqb t.shows (shown Green) ≡ false
      → green_until t s.adjusted ≡ span (occupied_at c.occupied (c.between ++ s ∷ [])) c.from y
  green_over y l e z =
      let b = span_before c.occupied c.between s c.from y l in
      rw z (omega (arith, e, b))

  green_step : (ms : List ℕ) → Keeps c ms t → green_until t s.adjusted ≡ green_part (occupied_at c.occupied (c.between ++ s ∷ [])) c.from ms s.adjusted
  green_step [] h =
      let b = span_before c.occupied c.between s c.from s.adjusted (omega arith) in
      let g = span_on c.occupied c.between t.last h.until c.from s.adjusted h.from_low (rises [] h) in
      rw (h.shows, some [] h, h.green_occupied) (sym (b ∙ g))
  green_step (y ∷ []) h = green_over y (let m = h.marks_until.0 in let r = rises (y ∷ []) h in omega arith) h.green_occupied (rw h.shows)
  green_step (y ∷ r ∷ ms) h = green_over y (let m = h.marks_until.0 in let u = rises (y ∷ r ∷ ms) h in omega arith) h.green_occupied (rw h.shows)

  red_step : (ms : List ℕ) → Keeps c ms t → red_until t s.adjusted ≡ red_part (occupied_at c.occupied (c.between ++ s ∷ [])) ms s.adjusted
  red_step [] h = rw (h.shows, h.red_occupied)
  red_step (y ∷ []) h = rw (h.shows, h.red_occupied)
  red_step (y ∷ r ∷ ms) h =
      let b = span_before c.occupied c.between s r (min (r + red_window) s.adjusted) (omega arith) in
      let g = span_capped c.occupied c.between t.last h.until r (r + red_window) s.adjusted h.marks_until.1.0 (omega arith) (rises (y ∷ r ∷ ms) h) in
      rw (h.shows, some (y ∷ r ∷ ms) h, h.red_occupied, h.red) (sym (b ∙ g))

  -- what each record keeps, with its own moments of the further codes
  on_record : (ms ns : List ℕ) → Keeps c ms t → (next t s).shows ≡ showing ns → (next t s).yellow ≡ get_or ns 0 0 → (next t s).red ≡ get_or ns 1 0
      → AllByRecursion (λ m. m ≤ s.adjusted) ns
      → green_part (occupied_at c.occupied (c.between ++ s ∷ [])) c.from ms s.adjusted ≡ green_part (occupied_at c.occupied (c.between ++ s ∷ [])) c.from ns s.adjusted
      → red_part (occupied_at c.occupied (c.between ++ s ∷ [])) ms s.adjusted ≡ red_part (occupied_at c.occupied (c.between ++ s ∷ [])) ns s.adjusted
      → (has 8 c.between || eqb s.code 8) ≡ not (eqb (showing ns) (shown Green))
      → Keeps (c ▹ s) ns (next t s)
  on_record ms ns h shows yellow red until green reds came = record {
    shows = shows;
    opened = h.opened;
    yellow = yellow;
    red = red;
    from_low = n.fits.after;
    last_least = λ b l k. (all_pop (λ x. x.adjusted ≤ b) c.between s k).1;
    last_near = n.fits.near;
    until = All-push (λ x. x.adjusted ≤ s.adjusted) c.between s (All-weaker (λ x. Before x s) (λ x. x.adjusted ≤ s.adjusted) (λ x b. b.rises) c.between n.behind) (omega arith);
    marks_until = until;
    occupied = λ d k. holds_changed t.occupied s d k ∙ ap (λ b. cond (of_channel d s) (activation s) b) (h.occupied d k) ∙ sym (occupied_push c.occupied c.between s d);
    green_occupied = green_step ms h ∙ green;
    red_occupied = red_step ms h ∙ reds;
    came = has_push 8 c.between s ∙ came;
    cause = (let p = cause_push c.between s in let k = h.came in rw (p, h.shows, h.cause, k) (grind (arith, nat_tests)));
  }

  higher : (ms : List ℕ) → Keeps c ms t → AllByRecursion (λ m. m ≤ s.adjusted) ms
  higher ms h = let r = rises ms h in All-weaker (λ m. m ≤ t.last) (λ m. m ≤ s.adjusted) (λ m l. omega arith) ms h.marks_until

  on_same : (ms : List ℕ) → Keeps c ms t → eqb s.code 8 ≡ false → eqb s.code 9 ≡ false → Keeps (c ▹ s) ms (next t s)
  on_same ms h not8 not9 =
      on_record ms ms h (rw (not8, not9) h.shows) (rw not8 h.yellow) (rw not9 h.red) (higher ms h) refl refl (let k = h.came in rw (not8, k) (grind (arith, nat_tests)))

  on_further : (ms : List ℕ) → length ms < 2 → get_or (8 ∷ 9 ∷ []) (length ms) 0 ≡ s.code → Keeps c ms t → Keeps (c ▹ s) (ms ++ s.adjusted ∷ []) (next t s)
  on_further [] short turn h =
      on_record [] (s.adjusted ∷ []) h (rw (← turn)) (rw (← turn)) (rw (← turn) h.red) (omega arith, tt) refl refl (rw (← turn) (grind (arith, nat_tests)))
  on_further (y ∷ []) short turn h =
      on_record (y ∷ []) (y ∷ s.adjusted ∷ []) h (rw (← turn)) (rw (← turn) h.yellow) (rw (← turn)) ((higher (y ∷ []) h).0, (omega arith, tt)) refl
      (sym (span_none (occupied_at c.occupied (c.between ++ s ∷ [])) s.adjusted (min (s.adjusted + red_window) s.adjusted) (omega arith)))
      (let k = h.came in rw (← turn, k) (grind (arith, nat_tests)))
  on_further (y ∷ r ∷ ms) short turn h = absurd (omega arith)

keeps : (c : Calls) → Admissible split_failures c → Keeps c (marks split_failures c.between) (unlisted (tallied split_failures c))
keeps = kept_along split_failures split_lawful (λ c ms t. Keeps c ms (unlisted t)) (record {
  start = starts;
  on = λ c s ms t n e before h. on_same c s n (unlisted t) ms h (grind (arith, nat_tests)) (grind (arith, nat_tests));
  further = λ c s ms t n e late short turn h. on_further c s n (unlisted t) ms short turn h;
  other = λ c s ms t n e no' h. on_same c s n (unlisted t) ms h (grind (arith, nat_tests)) (grind (arith, nat_tests));
})

closes : (c : Calls) (e : ℕ) (t : Tally) → Rises c.from (yellow_at c ∷ red_at c ∷ []) e → c.from ≤ e → AllByRecursion (λ x. x.adjusted ≤ e) c.between
    → Keeps c (yellow_at c ∷ red_at c ∷ []) t → SplitFigures c e (figures t e)
closes c e t b l u h =
    let r = red_at c in
    let some-now = some_same (holds t.occupied) (occupied_after c.occupied c.between) h.occupied in
    let g = span_capped c.occupied c.between t.last h.until r (r + red_window) e h.marks_until.1.0 (omega arith) (h.last_least e l u) in
    let f3 : red_until t e ≡ span (occupied_at c.occupied c.between) r (min (r + red_window) e) = rw (h.shows, some-now, h.red_occupied, h.red) (sym g) in
    record { green_first = b.0; yellow_next = b.1.0; red_last = b.1.1; figures_are = rw (f3, h.yellow, h.opened, h.green_occupied, h.cause) }

pub figures_of_cycle : (c : Calls) (e : ℕ) → Whole split_failures c e → SplitFigures c e (figures (unlisted (tallied split_failures c)) e)
figures_of_cycle c e w =
    closes c e (unlisted (tallied split_failures c)) (in_order split_failures split_lawful c e w)
    (let l = w.closes.later in omega arith) (All-weaker _ (λ x. x.adjusted ≤ e) (λ x b. b.0) c.between w.closes.behind)
    (subst (λ ms. Keeps c ms (unlisted (tallied split_failures c))) (marks_are split_failures split_lawful c e w) (keeps c w.admissible))

-- the tally fits its registers
pub record Room (t : Tally) : Type 0 where
  pub green_occupied : t.green_occupied ≤ longest_cycle
  pub red_occupied : t.red_occupied ≤ longest_cycle

room_by : (c : Calls) (ms : List ℕ) (t : Tally) → Keeps c ms t → Room t
room_by c [] t h =
    let p = occupied_at c.occupied c.between in
    let g = tenths_le p c.from (t.last - c.from) in
    let n = h.last_near in
    record { green_occupied = rw h.green_occupied (omega arith); red_occupied = rw h.red_occupied (omega arith) }
room_by c (y ∷ []) t h =
    let p = occupied_at c.occupied c.between in
    let g = tenths_le p c.from (y - c.from) in
    let n = h.last_near in
    let m = h.marks_until.0 in
    record { green_occupied = rw h.green_occupied (omega arith); red_occupied = rw h.red_occupied (omega arith) }
room_by c (y ∷ r ∷ ms) t h =
    let p = occupied_at c.occupied c.between in
    let g = tenths_le p c.from (y - c.from) in
    let d = tenths_le p r (min (r + red_window) t.last - r) in
    let n = h.last_near in
    let m = h.marks_until.0 in
    record { green_occupied = rw h.green_occupied (omega arith); red_occupied = rw h.red_occupied (omega arith) }

room : (c : Calls) → Admissible split_failures c → Room (unlisted (tallied split_failures c))
room c a = room_by c (marks split_failures c.between) (unlisted (tallied split_failures c)) (keeps c a)

pub room_to_step : (t : List ℕ) (s : OwnRecord) → MayStep split_failures t s → Room (unlisted t)
room_to_step = at_step split_failures (λ l. Room (unlisted l)) room

pub room_to_close : (t : List ℕ) (e : ℕ) → MayClose split_failures t e → Room (unlisted t)
room_to_close = at_close split_failures (λ l. Room (unlisted l)) room
