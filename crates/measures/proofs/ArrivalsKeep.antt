-- What the arrivals tally keeps along admissible calls, and its figures at the close of a whole cycle.
use Rattle.std.proofs.Common.{◌≡◌, ℕ, ◌+◌, ◌-◌, ◌*◌, ◌^◌, ◌<◌, ◌≤◌, true, false, cond, ◌&&◌, eqb, ltb, leb, List, [], ◌∷◌, ◌++◌, length, get_or, sym, refl, ◌∙◌, subst, arith}
use Rattle.std.specs.List.{AllByRecursion}
use Rattle.std.proofs.ByRecursion.{All-weaker}
use Rattle.std.proofs.lemmas.Bool.{cond-true}
use Rattle.std.proofs.lemmas.Bool.Decides.{nat_tests}
use Rattle.measures.specs.Arrivals.{Tally, unlisted, counted, to_green, to_yellow, next, figures, arrivals, arrivals_lawful, green_at, yellow_at, ArrivalFigures}
use Rattle.measures.specs.Intervals.{shown}
use Rattle.measures.specs.Limits.{most_records}
use Rattle.measures.specs.Meanings.{Calls, tallied, Fits, Admissible, Whole, MayStep, MayClose}
use Rattle.measures.specs.Records.{activation, count, total}
use Rattle.measures.specs.declared.interval.Interval.TheVariants.{Green, Yellow, Red}
use Rattle.measures.specs.declared.own.OwnRecord.{OwnRecord}
use Rattle.measures.proofs.Along.{marks, at_step, at_close}
use Rattle.measures.proofs.Marks.{Keeping, kept_along, Rises, marks_are, in_order, from_opening}
use Rattle.measures.proofs.Moments.{weighed, same_sums, counts_on, counts_past, counts_cut, weighed_le, weighed_fits, distances}

-- what the signal shows once some further codes have come
abbrev showing : List ℕ → ℕ
showing [] = shown Red
showing (g ∷ []) = shown Green
showing (g ∷ y ∷ ms) = shown Yellow

-- how an activation is counted
abbrev on : ℕ → List ℕ → ℕ → ℕ
on interval ms a = cond (eqb (showing ms) interval) 1 0

abbrev red_time : ℕ → List ℕ → ℕ → ℕ
red_time o ms a = cond (eqb (showing ms) (shown Red)) (a - o) 0

pub record Keeps (o : ℕ) (xs : List OwnRecord) (ms : List ℕ) (t : Tally) : Type 0 where
  pub shows : t.shows ≡ showing ms
  pub opened : t.opened ≡ o
  pub green : t.green ≡ get_or ms 0 0
  pub yellow : t.yellow ≡ get_or ms 1 0
  pub on_red : t.on_red ≡ weighed (on (shown Red)) ms xs
  pub on_green : t.on_green ≡ weighed (on (shown Green)) ms xs
  pub on_yellow : t.on_yellow ≡ weighed (on (shown Yellow)) ms xs
  pub red_times : t.red_times ≡ weighed (red_time o) ms xs

module _ (o : ℕ) (xs : List OwnRecord) (s : OwnRecord) (t : Tally) (ms : List ℕ) (h : Keeps o xs ms t) where
  on_activation : activation s ≡ true → AllByRecursion (λ m. m ≤ s.adjusted) ms → Keeps o (xs ++ s ∷ []) ms (counted t s.adjusted)
  on_activation e before =
      let more : (w : List ℕ → ℕ → ℕ) (n : ℕ) → n ≡ weighed w ms xs → n + w ms s.adjusted ≡ weighed w ms (xs ++ s ∷ []) = λ w. counts_on w ms xs s e before in
      record {
        shows = h.shows;
        opened = h.opened;
        green = h.green;
        yellow = h.yellow;
        on_red = rw h.shows (more (on (shown Red)) t.on_red h.on_red);
        on_green = rw h.shows (more (on (shown Green)) t.on_green h.on_green);
        on_yellow = rw h.shows (more (on (shown Yellow)) t.on_yellow h.on_yellow);
        red_times = rw (h.shows, h.opened) (more (red_time o) t.red_times h.red_times);
      }

  on_other : activation s ≡ false → Keeps o (xs ++ s ∷ []) ms t
  on_other e =
      let same : (w : List ℕ → ℕ → ℕ) (n : ℕ) → n ≡ weighed w ms xs → n ≡ weighed w ms (xs ++ s ∷ []) = λ w. counts_past w ms xs s e in
      record {
        shows = h.shows;
        opened = h.opened;
        green = h.green;
        yellow = h.yellow;
        on_red = same (on (shown Red)) t.on_red h.on_red;
        on_green = same (on (shown Green)) t.on_green h.on_green;
        on_yellow = same (on (shown Yellow)) t.on_yellow h.on_yellow;
        red_times = same (red_time o) t.red_times h.red_times;
      }

  on_cut : activation s ≡ false → AllByRecursion (λ x. activation x ≡ true → x.adjusted < s.adjusted) xs → (u : Tally)
      → u.shows ≡ showing (ms ++ s.adjusted ∷ []) → u.green ≡ get_or (ms ++ s.adjusted ∷ []) 0 0 → u.yellow ≡ get_or (ms ++ s.adjusted ∷ []) 1 0
      → u.opened ≡ t.opened → u.on_red ≡ t.on_red → u.on_green ≡ t.on_green → u.on_yellow ≡ t.on_yellow → u.red_times ≡ t.red_times
      → Keeps o (xs ++ s ∷ []) (ms ++ s.adjusted ∷ []) u
  on_cut e late u shows green yellow op r g y rt =
      let same : (w : List ℕ → ℕ → ℕ) (n : ℕ) → n ≡ weighed w ms xs → n ≡ weighed w (ms ++ s.adjusted ∷ []) (xs ++ s ∷ []) = λ w. counts_cut w ms xs s e late in
      record {
        shows = shows;
        opened = op ∙ h.opened;
        green = green;
        yellow = yellow;
        on_red = same (on (shown Red)) u.on_red (r ∙ h.on_red);
        on_green = same (on (shown Green)) u.on_green (g ∙ h.on_green);
        on_yellow = same (on (shown Yellow)) u.on_yellow (y ∙ h.on_yellow);
        red_times = same (red_time o) u.red_times (rt ∙ h.red_times);
      }

keeping : Keeping arrivals (λ c ms t. Keeps c.from c.between ms (unlisted t))
keeping = record {
  start = λ o q. record { shows = refl; opened = refl; green = refl; yellow = refl; on_red = refl; on_green = refl; on_yellow = refl; red_times = refl };
  on = λ c s ms t n e before h. subst (Keeps c.from (c.between ++ s ∷ []) ms) (sym (cond-true (activation s) _ _ e)) (on_activation c.from c.between s (unlisted t) ms h e before);
  further = λ c s ms t n e late short turn h. on_further c s (unlisted t) e late ms short turn h;
  other = λ c s ms t n e no' h.
      let not1 : eqb s.code 1 ≡ false = grind (arith, nat_tests) in
      let not8 : eqb s.code 8 ≡ false = grind (arith, nat_tests) in
      let same : unlisted t ≡ next (unlisted t) s = rw (e, not1, not8) in
      subst (Keeps c.from (c.between ++ s ∷ []) ms) same (on_other c.from c.between s (unlisted t) ms h e);
}
  where
    on_further : (c : Calls) (s : OwnRecord) (t : Tally) → activation s ≡ false → AllByRecursion (λ x. activation x ≡ true → x.adjusted < s.adjusted) c.between
        → (ms : List ℕ) → length ms < 2 → get_or (1 ∷ 8 ∷ []) (length ms) 0 ≡ s.code → Keeps c.from c.between ms t → Keeps c.from (c.between ++ s ∷ []) (ms ++ s.adjusted ∷ []) (next t s)
    on_further c s t e late [] short turn h =
        let is1 : to_green t s.adjusted ≡ next t s = rw (← turn) in
        subst (Keeps c.from (c.between ++ s ∷ []) (s.adjusted ∷ [])) is1 (on_cut c.from c.between s t [] h e late (to_green t s.adjusted) refl refl h.yellow refl refl refl refl refl)
    on_further c s t e late (g ∷ []) short turn h =
        let is8 : to_yellow t s.adjusted ≡ next t s = rw (← turn) in
        subst (Keeps c.from (c.between ++ s ∷ []) (g ∷ s.adjusted ∷ [])) is8 (on_cut c.from c.between s t (g ∷ []) h e late (to_yellow t s.adjusted) refl h.green refl refl refl refl refl refl)
    on_further c s t e late (g ∷ y ∷ ms) short turn h = absurd (omega arith)

pub keeps : (c : Calls) → Admissible arrivals c → Keeps c.from c.between (marks arrivals c.between) (unlisted (tallied arrivals c))
keeps = kept_along arrivals arrivals_lawful (λ c ms t. Keeps c.from c.between ms (unlisted t)) keeping

-- by its moment an activation is on red before g, on green from g before y, and on yellow from y
module _ (g y : ℕ) (l : g ≤ y) (xs : List OwnRecord) where
  reds : weighed (on (shown Red)) (g ∷ y ∷ []) xs ≡ count (λ a. ltb a g) xs
  reds = same_sums _ _ (λ s. grind (arith, nat_tests)) xs

  greens : weighed (on (shown Green)) (g ∷ y ∷ []) xs ≡ count (λ a. leb g a && ltb a y) xs
  greens = same_sums _ _ (λ s. grind (arith, nat_tests)) xs

  yellows : weighed (on (shown Yellow)) (g ∷ y ∷ []) xs ≡ count (λ a. leb y a) xs
  yellows = same_sums _ _ (λ s. grind (arith, nat_tests)) xs

  times : (o : ℕ) → weighed (red_time o) (g ∷ y ∷ []) xs ≡ total (λ a. ltb a g) (λ a. a - o) xs
  times o = same_sums _ _ (λ s. grind (arith, nat_tests)) xs

closes : (c : Calls) (e : ℕ) (t : Tally) → Rises c.from (green_at c ∷ yellow_at c ∷ []) e → AllByRecursion (λ s. c.from ≤ s.adjusted) c.between
    → Keeps c.from c.between (green_at c ∷ yellow_at c ∷ []) t → ArrivalFigures c e (figures t e)
closes c e t r a h =
    let g = green_at c in
    let y = yellow_at c in
    let l = r.1.0 in
    let d = distances c.from g c.between a in
    let f4 = h.on_red ∙ reds g y l c.between in
    let f5 = h.on_green ∙ greens g y l c.between in
    let f6 = h.on_yellow ∙ yellows g y l c.between in
    let u = h.red_times ∙ times g y l c.between c.from in
    let f7 : t.on_red * (t.green - t.opened) - t.red_times ≡ total (λ a. ltb a g) (λ a. g - a) c.between = rw (f4, u, h.green, h.opened) (omega (arith, d)) in
    record { red_first = r.0; green_next = l; yellow_last = r.1.1; figures_are = rw (f7, f4, f5, f6, h.green, h.yellow, h.opened) }

pub figures_of_cycle : (c : Calls) (e : ℕ) → Whole arrivals c e → ArrivalFigures c e (figures (unlisted (tallied arrivals c)) e)
figures_of_cycle c e w =
    closes c e (unlisted (tallied arrivals c)) (in_order arrivals arrivals_lawful c e w) (from_opening arrivals c w.admissible)
    (subst (λ ms. Keeps c.from c.between ms (unlisted (tallied arrivals c))) (marks_are arrivals arrivals_lawful c e w) (keeps c w.admissible))

-- the tally fits its registers
pub record Room (t : Tally) : Type 0 where
  pub on_red : t.on_red ≤ most_records
  pub on_green : t.on_green < 2 ^ 63
  pub on_yellow : t.on_yellow < 2 ^ 63
  pub red_times : t.red_times < 2 ^ 63

room : (c : Calls) → Admissible arrivals c → Room (unlisted (tallied arrivals c))
room c a =
    let h = keeps c a in
    let ms = marks arrivals c.between in
    let few = a.few in
    let fits : (w : List ℕ → ℕ → ℕ) → ((l : List ℕ) (a : ℕ) → w l a ≤ a + 1) → weighed w ms c.between < 2 ^ 63 = λ w k. weighed_fits arrivals c a w k ms in
    let r = weighed_le (on (shown Red)) ms c.between 1 (All-weaker (Fits arrivals c.from) _ (λ x f l. grind (arith, nat_tests)) c.between a.each) in
    record {
      on_red = rw h.on_red (omega arith);
      on_green = rw h.on_green (fits (on (shown Green)) (λ l a. grind (arith, nat_tests)));
      on_yellow = rw h.on_yellow (fits (on (shown Yellow)) (λ l a. grind (arith, nat_tests)));
      red_times = rw h.red_times (fits (red_time c.from) (λ l a. grind (arith, nat_tests)));
    }

pub room_to_step : (t : List ℕ) (s : OwnRecord) → MayStep arrivals t s → Room (unlisted t)
room_to_step = at_step arrivals (λ l. Room (unlisted l)) room

pub room_to_close : (t : List ℕ) (e : ℕ) → MayClose arrivals t e → Room (unlisted t)
room_to_close = at_close arrivals (λ l. Room (unlisted l)) room
