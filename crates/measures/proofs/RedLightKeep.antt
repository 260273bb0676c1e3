-- What the red-light tally keeps along admissible calls, and its figures at the close of a whole cycle.
use Rattle.std.proofs.Common.{◌≡◌, ℕ, ◌+◌, ◌-◌, ◌^◌, ◌<◌, ◌≤◌, true, false, cond, ◌&&◌, eqb, ltb, leb, List, [], ◌∷◌, ◌++◌, length, get_or, sym, refl, ◌∙◌, subst, arith}
use Rattle.std.specs.List.{AllByRecursion}
use Rattle.std.proofs.lemmas.Bool.{cond-true}
use Rattle.std.proofs.lemmas.Bool.Decides.{nat_tests}
use Rattle.measures.specs.Intervals.{shown}
use Rattle.measures.specs.Meanings.{Calls, tallied, Admissible, Whole, MayStep, MayClose}
use Rattle.measures.specs.Records.{activation, count, total}
use Rattle.measures.specs.RedLight.{Tally, unlisted, either_red, counted, to_show, next, figures, red_light, red_light_lawful, red_at, clear_at, green_at, RedLightFigures}
use Rattle.measures.specs.declared.interval.Interval.TheVariants.{Green, Yellow, RedClearance, Red}
use Rattle.measures.specs.declared.own.OwnRecord.{OwnRecord}
use Rattle.measures.proofs.Along.{marks, at_step, at_close}
use Rattle.measures.proofs.Marks.{Keeping, kept_along, Rises, marks_are, in_order}
use Rattle.measures.proofs.Moments.{weighed, same_sums, counts_on, counts_past, counts_cut, weighed_fits}

-- what the signal shows once some further codes have come
abbrev showing : List ℕ → ℕ
showing [] = shown Yellow
showing (r ∷ []) = shown RedClearance
showing (r ∷ k ∷ []) = shown Red
showing (r ∷ k ∷ g ∷ ms) = shown Green

-- how an activation is counted
abbrev on : ℕ → List ℕ → ℕ → ℕ
on interval ms a = cond (eqb (showing ms) interval) 1 0

abbrev severely : ℕ → List ℕ → ℕ → ℕ
severely S ms a = cond (either_red (showing ms) && leb (get_or ms 0 0 + S) a) 1 0

abbrev yellow_time : ℕ → List ℕ → ℕ → ℕ
yellow_time o ms a = cond (eqb (showing ms) (shown Yellow)) (a - o) 0

abbrev red_time : List ℕ → ℕ → ℕ
red_time ms a = cond (either_red (showing ms)) (a - get_or ms 0 0) 0

module _ (S : ℕ) where
  pub record Keeps (o : ℕ) (xs : List OwnRecord) (ms : List ℕ) (t : Tally) : Type 0 where
    pub shows : t.shows ≡ showing ms
    pub opened : t.opened ≡ o
    pub red : t.red ≡ get_or ms 0 0
    pub on_yellow : t.on_yellow ≡ weighed (on (shown Yellow)) ms xs
    pub on_clearance : t.on_clearance ≡ weighed (on (shown RedClearance)) ms xs
    pub on_red : t.on_red ≡ weighed (on (shown Red)) ms xs
    pub severe : t.severe ≡ weighed (severely S) ms xs
    pub on_green : t.on_green ≡ weighed (on (shown Green)) ms xs
    pub yellow_times : t.yellow_times ≡ weighed (yellow_time o) ms xs
    pub red_times : t.red_times ≡ weighed red_time ms xs

  module _ (o : ℕ) (xs : List OwnRecord) (s : OwnRecord) (t : Tally) (ms : List ℕ) (h : Keeps o xs ms t) where
    on_activation : activation s ≡ true → AllByRecursion (λ m. m ≤ s.adjusted) ms → Keeps o (xs ++ s ∷ []) ms (counted S t s.adjusted)
    on_activation e before =
        let more : (w : List ℕ → ℕ → ℕ) (n : ℕ) → n ≡ weighed w ms xs → n + w ms s.adjusted ≡ weighed w ms (xs ++ s ∷ []) = λ w. counts_on w ms xs s e before in
        record {
          shows = h.shows;
          opened = h.opened;
          red = h.red;
          on_yellow = rw h.shows (more (on (shown Yellow)) t.on_yellow h.on_yellow);
          on_clearance = rw h.shows (more (on (shown RedClearance)) t.on_clearance h.on_clearance);
          on_red = rw h.shows (more (on (shown Red)) t.on_red h.on_red);
          severe = rw (h.shows, h.red) (more (severely S) t.severe h.severe);
          on_green = rw h.shows (more (on (shown Green)) t.on_green h.on_green);
          yellow_times = rw (h.shows, h.opened) (more (yellow_time o) t.yellow_times h.yellow_times);
          red_times = rw (h.shows, h.red) (more red_time t.red_times h.red_times);
        }

    on_other : activation s ≡ false → Keeps o (xs ++ s ∷ []) ms t
    on_other e =
        let same : (w : List ℕ → ℕ → ℕ) (n : ℕ) → n ≡ weighed w ms xs → n ≡ weighed w ms (xs ++ s ∷ []) = λ w. counts_past w ms xs s e in
        record {
          shows = h.shows;
          opened = h.opened;
          red = h.red;
          on_yellow = same (on (shown Yellow)) t.on_yellow h.on_yellow;
          on_clearance = same (on (shown RedClearance)) t.on_clearance h.on_clearance;
          on_red = same (on (shown Red)) t.on_red h.on_red;
          severe = same (severely S) t.severe h.severe;
          on_green = same (on (shown Green)) t.on_green h.on_green;
          yellow_times = same (yellow_time o) t.yellow_times h.yellow_times;
          red_times = same red_time t.red_times h.red_times;
        }

    on_cut : activation s ≡ false → AllByRecursion (λ x. activation x ≡ true → x.adjusted < s.adjusted) xs → (n r : ℕ)
        → n ≡ showing (ms ++ s.adjusted ∷ []) → r ≡ get_or (ms ++ s.adjusted ∷ []) 0 0 → Keeps o (xs ++ s ∷ []) (ms ++ s.adjusted ∷ []) (to_show n r t)
    on_cut e late n r shows red =
        let same : (w : List ℕ → ℕ → ℕ) (n : ℕ) → n ≡ weighed w ms xs → n ≡ weighed w (ms ++ s.adjusted ∷ []) (xs ++ s ∷ []) = λ w. counts_cut w ms xs s e late in
        record {
          shows = shows;
          opened = h.opened;
          red = red;
          on_yellow = same (on (shown Yellow)) t.on_yellow h.on_yellow;
          on_clearance = same (on (shown RedClearance)) t.on_clearance h.on_clearance;
          on_red = same (on (shown Red)) t.on_red h.on_red;
          severe = same (severely S) t.severe h.severe;
          on_green = same (on (shown Green)) t.on_green h.on_green;
          yellow_times = same (yellow_time o) t.yellow_times h.yellow_times;
          red_times = same red_time t.red_times h.red_times;
        }

  keeping : Keeping (red_light S) (λ c ms t. Keeps c.from c.between ms (unlisted t))
  keeping = record {
    start = λ o q. record { shows = refl; opened = refl; red = refl; on_yellow = refl; on_clearance = refl; on_red = refl; severe = refl; on_green = refl; yellow_times = refl; red_times = refl };
    on = λ c s ms t n e before h. subst (Keeps c.from (c.between ++ s ∷ []) ms) (sym (cond-true (activation s) _ _ e)) (on_activation c.from c.between s (unlisted t) ms h e before);
    further = λ c s ms t n e late short turn h. on_further c s (unlisted t) e late ms short turn h;
    other = λ c s ms t n e no' h.
        let not9 : eqb s.code 9 ≡ false = grind (arith, nat_tests) in
        let not11 : eqb s.code 11 ≡ false = grind (arith, nat_tests) in
        let not1 : eqb s.code 1 ≡ false = grind (arith, nat_tests) in
        let same : unlisted t ≡ next S (unlisted t) s = rw (e, not9, not11, not1) in
        subst (Keeps c.from (c.between ++ s ∷ []) ms) same (on_other c.from c.between s (unlisted t) ms h e);
  }
    where
      on_further : (c : Calls) (s : OwnRecord) (t : Tally) → activation s ≡ false → AllByRecursion (λ x. activation x ≡ true → x.adjusted < s.adjusted) c.between
          → (ms : List ℕ) → length ms < 3 → get_or (9 ∷ 11 ∷ 1 ∷ []) (length ms) 0 ≡ s.code → Keeps c.from c.between ms t → Keeps c.from (c.between ++ s ∷ []) (ms ++ s.adjusted ∷ []) (next S t s)
      on_further c s t e late [] short turn h =
          let is9 : to_show (shown RedClearance) s.adjusted t ≡ next S t s = rw (← turn) in
          subst (Keeps c.from (c.between ++ s ∷ []) (s.adjusted ∷ [])) is9 (on_cut c.from c.between s t [] h e late (shown RedClearance) s.adjusted refl refl)
      on_further c s t e late (r ∷ []) short turn h =
          let is11 : to_show (shown Red) t.red t ≡ next S t s = rw (← turn) in
          subst (Keeps c.from (c.between ++ s ∷ []) (r ∷ s.adjusted ∷ [])) is11 (on_cut c.from c.between s t (r ∷ []) h e late (shown Red) t.red refl h.red)
      on_further c s t e late (r ∷ k ∷ []) short turn h =
          let is1 : to_show (shown Green) t.red t ≡ next S t s = rw (← turn) in
          subst (Keeps c.from (c.between ++ s ∷ []) (r ∷ k ∷ s.adjusted ∷ [])) is1 (on_cut c.from c.between s t (r ∷ k ∷ []) h e late (shown Green) t.red refl h.red)
      on_further c s t e late (r ∷ k ∷ g ∷ ms) short turn h = absurd (omega arith)

  keeps : (c : Calls) → Admissible (red_light S) c → Keeps c.from c.between (marks (red_light S) c.between) (unlisted (tallied (red_light S) c))
  keeps = kept_along (red_light S) (red_light_lawful S) (λ c ms t. Keeps c.from c.between ms (unlisted t)) keeping

  -- by its moment an activation is on yellow before r, on red clearance from r before k, on red from k before g, and on green from g
  module _ (r k g : ℕ) (l : r ≤ k) (u : k ≤ g) (xs : List OwnRecord) where
    yellows : weighed (on (shown Yellow)) (r ∷ k ∷ g ∷ []) xs ≡ count (λ a. ltb a r) xs
    yellows = same_sums _ _ (λ s. grind (arith, nat_tests)) xs

    clearances : weighed (on (shown RedClearance)) (r ∷ k ∷ g ∷ []) xs ≡ count (λ a. leb r a && ltb a k) xs
    clearances = same_sums _ _ (λ s. grind (arith, nat_tests)) xs

    reds : weighed (on (shown Red)) (r ∷ k ∷ g ∷ []) xs ≡ count (λ a. leb k a && ltb a g) xs
    reds = same_sums _ _ (λ s. grind (arith, nat_tests)) xs

    severes : weighed (severely S) (r ∷ k ∷ g ∷ []) xs ≡ count (λ a. leb r a && (ltb a g && leb (r + S) a)) xs
    severes = same_sums _ _ (λ s. grind (arith, nat_tests)) xs

    greens : weighed (on (shown Green)) (r ∷ k ∷ g ∷ []) xs ≡ count (λ a. leb g a) xs
    greens = same_sums _ _ (λ s. grind (arith, nat_tests)) xs

    yellow_sums : (o : ℕ) → weighed (yellow_time o) (r ∷ k ∷ g ∷ []) xs ≡ total (λ a. ltb a r) (λ a. a - o) xs
    yellow_sums o = same_sums _ _ (λ s. grind (arith, nat_tests)) xs

    red_sums : weighed red_time (r ∷ k ∷ g ∷ []) xs ≡ total (λ a. leb r a && ltb a g) (λ a. a - r) xs
    red_sums = same_sums _ _ (λ s. grind (arith, nat_tests)) xs

  closes : (c : Calls) (e : ℕ) (t : Tally) → Rises c.from (red_at c ∷ clear_at c ∷ green_at c ∷ []) e
      → Keeps c.from c.between (red_at c ∷ clear_at c ∷ green_at c ∷ []) t → RedLightFigures S c e (figures t)
  closes c e t b h =
      let r = red_at c in
      let k = clear_at c in
      let g = green_at c in
      let l = b.1.0 in
      let u = b.1.1.0 in
      let xs = c.between in
      record {
        yellow_first = b.0;
        clearance_next = l;
        red_next = u;
        green_last = b.1.1.1;
        figures_are = rw (h.on_yellow ∙ yellows r k g l u xs, h.on_clearance ∙ clearances r k g l u xs, h.on_red ∙ reds r k g l u xs, h.severe ∙ severes r k g l u xs, h.on_green ∙ greens r k g l u xs, h.yellow_times ∙ yellow_sums r k g l u xs c.from, h.red_times ∙ red_sums r k g l u xs);
      }

  pub figures_of_cycle : (c : Calls) (e : ℕ) → Whole (red_light S) c e → RedLightFigures S c e (figures (unlisted (tallied (red_light S) c)))
  figures_of_cycle c e w =
      closes c e (unlisted (tallied (red_light S) c)) (in_order (red_light S) (red_light_lawful S) c e w)
      (subst (λ ms. Keeps c.from c.between ms (unlisted (tallied (red_light S) c))) (marks_are (red_light S) (red_light_lawful S) c e w) (keeps c w.admissible))

  -- the tally fits its registers
  pub record Room (t : Tally) : Type 0 where
    pub on_yellow : t.on_yellow < 2 ^ 63
    pub on_clearance : t.on_clearance < 2 ^ 63
    pub on_red : t.on_red < 2 ^ 63
    pub severe : t.severe < 2 ^ 63
    pub on_green : t.on_green < 2 ^ 63
    pub yellow_times : t.yellow_times < 2 ^ 63
    pub red_times : t.red_times < 2 ^ 63

  room : (c : Calls) → Admissible (red_light S) c → Room (unlisted (tallied (red_light S) c))
  room c a =
      let h = keeps c a in
      let ms = marks (red_light S) c.between in
      let fits : (w : List ℕ → ℕ → ℕ) → ((l : List ℕ) (a : ℕ) → w l a ≤ a + 1) → weighed w ms c.between < 2 ^ 63 = λ w k. weighed_fits (red_light S) c a w k ms in
      record {
        on_yellow = rw h.on_yellow (fits (on (shown Yellow)) (λ l a. grind (arith, nat_tests)));
        on_clearance = rw h.on_clearance (fits (on (shown RedClearance)) (λ l a. grind (arith, nat_tests)));
        on_red = rw h.on_red (fits (on (shown Red)) (λ l a. grind (arith, nat_tests)));
        severe = rw h.severe (fits (severely S) (λ l a. grind (arith, nat_tests)));
        on_green = rw h.on_green (fits (on (shown Green)) (λ l a. grind (arith, nat_tests)));
        yellow_times = rw h.yellow_times (fits (yellow_time c.from) (λ l a. grind (arith, nat_tests)));
        red_times = rw h.red_times (fits red_time (λ l a. grind (arith, nat_tests)));
      }

  pub room_to_step : (t : List ℕ) (s : OwnRecord) → MayStep (red_light S) t s → Room (unlisted t)
  room_to_step = at_step (red_light S) (λ l. Room (unlisted l)) room

  pub room_to_close : (t : List ℕ) (e : ℕ) → MayClose (red_light S) t e → Room (unlisted t)
  room_to_close = at_close (red_light S) (λ l. Room (unlisted l)) room
