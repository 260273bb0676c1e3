-- The moments of the further codes: what they are as a cycle goes on, and what is kept with them.
use Rattle.std.proofs.Common.{◌≡◌, ℕ, zero, suc, ◌<◌, ◌≤◌, Bool, true, false, cond, not, ◌||◌, eqb, ◌⊎◌, List, [], ◌∷◌, ◌++◌, map, length, get_or, filter, sym, refl, ap, ◌∙◌, subst, inl, inr, ⊎_elim, arith}
use Rattle.std.specs.List.{AllByRecursion}
use Rattle.std.proofs.ByRecursion.{All-map, all_kept_by, All-weaker}
use Rattle.std.proofs.lemmas.List.{get_or_at, get_or_past, get_or_append_left, get_or-map, ext_get_or, length_push, length-map}
use Rattle.std.proofs.lemmas.List.Sums.{fold_push}
use Rattle.std.proofs.lemmas.Bool.{and_parts, cases_Bool, cases_eq, cases_lt, eqb-true, eq-eqb, or_parts, not-true, cond-true, cond-false}
use Rattle.std.proofs.lemmas.Bool.Decides.{nat_tests}
use Rattle.measures.specs.Meanings.{Meaning, Calls, opening_at, ◌▹◌, tallied, Fits, Before, Ordered, Admissible, Whole, MayClose, Answers, Lawful, each_is, all_different, cycle_codes}
use Rattle.measures.specs.Records.{among, activation, detector, moment_of}
use Rattle.measures.specs.declared.own.OwnRecord.{OwnRecord}
use Rattle.measures.proofs.Along.{marks, marks_length, marks_more, marks_same, Next, along}

-- the moments so far come before a step's
pub marks_before : (m : Meaning) (c : Calls) (s : OwnRecord) → Next m c s → AllByRecursion (λ a. a ≤ s.adjusted) (marks m c.between)
marks_before m c s n =
    All-map (λ a. a ≤ s.adjusted) (λ x. x.adjusted) (filter (λ x. among m.further x.code) c.between)
    (all_kept_by (λ x. among m.further x.code) (λ x. x.adjusted ≤ s.adjusted) c.between
    (All-weaker (λ x. Before x s) (λ x. x.adjusted ≤ s.adjusted) (λ x b. b.rises) c.between n.behind))

-- further codes are codes of phase records
cycle_among : (fs : List ℕ) (k : ℕ) → each_is (among cycle_codes) fs ≡ true → among fs k ≡ true → among cycle_codes k ≡ true
cycle_among [] k e a = let z = a in grind (arith, nat_tests)
cycle_among (f ∷ fs) k e a =
    let p = and_parts (among cycle_codes f) (each_is (among cycle_codes) fs) e in
    let rest : among fs k ≡ true → among cycle_codes k ≡ true = cycle_among fs k p.1 in
    by p rest (eqb k f) refl
  where
    by : (among cycle_codes f ≡ true) × (each_is (among cycle_codes) fs ≡ true) → (among fs k ≡ true → among cycle_codes k ≡ true) → (b : Bool) → eqb k f ≡ b → among cycle_codes k ≡ true
    by p rest true q = ap (among cycle_codes) (eqb-true k f q) ∙ p.0
    by p rest false q = rest (ap (λ b. b || among fs k) (sym q) ∙ a)

module _ (m : Meaning) (l : Lawful m) (s : OwnRecord) where
  further_cycle : among m.further s.code ≡ true → among cycle_codes s.code ≡ true
  further_cycle e = cycle_among m.further s.code (and_parts (among cycle_codes m.opening) (each_is (among cycle_codes) m.further) l.codes).1 e

  pub further_phase : among m.further s.code ≡ true → detector s ≡ false
  further_phase e = let k = further_cycle e in grind (arith, nat_tests)

  pub activation_cuts_nothing : activation s ≡ true → among m.further s.code ≡ false
  activation_cuts_nothing a = by (cases_Bool (among m.further s.code))
    where
      by : (among m.further s.code ≡ true) ⊎ (among m.further s.code ≡ false) → among m.further s.code ≡ false
      by (inl e) = let k = further_cycle e in absurd (grind (arith, nat_tests))
      by (inr e) = e

-- what is kept by an activation, by the further code whose turn it is, and by every other record
pub record Keeping (m : Meaning) (P : Calls → List ℕ → List ℕ → Type 0) : Type 0 where
  pub start : (o q : ℕ) → P (opening_at o q) [] (m.opened o q)
  pub on : (c : Calls) (s : OwnRecord) (ms t : List ℕ) → Next m c s → activation s ≡ true → AllByRecursion (λ a. a ≤ s.adjusted) ms → P c ms t → P (c ▹ s) ms (m.stepped t s)
  pub further : (c : Calls) (s : OwnRecord) (ms t : List ℕ) → Next m c s → activation s ≡ false → AllByRecursion (λ x. activation x ≡ true → x.adjusted < s.adjusted) c.between
      → length ms < length m.further → get_or m.further (length ms) 0 ≡ s.code → P c ms t → P (c ▹ s) (ms ++ s.adjusted ∷ []) (m.stepped t s)
  pub other : (c : Calls) (s : OwnRecord) (ms t : List ℕ) → Next m c s → activation s ≡ false → among m.further s.code ≡ false → P c ms t → P (c ▹ s) ms (m.stepped t s)

-- holds along admissible calls, with the moments of the further codes so far
module _ (m : Meaning) (l : Lawful m) (P : Calls → List ℕ → List ℕ → Type 0) (k : Keeping m P) where
  step_on : (c : Calls) (s : OwnRecord) (t : List ℕ) → Next m c s → P c (marks m c.between) t
      → (activation s ≡ true) ⊎ (activation s ≡ false) → (among m.further s.code ≡ true) ⊎ (among m.further s.code ≡ false)
      → P (c ▹ s) (marks m (c.between ++ s ∷ [])) (m.stepped t s)
  step_on c s t n p (inl a) _ =
      subst (λ ms. P (c ▹ s) ms (m.stepped t s)) (sym (marks_same m c.between s (activation_cuts_nothing m l s a)))
      (k.on c s (marks m c.between) t n a (marks_before m c s n) p)
  step_on c s t n p (inr a) (inl f) =
      let phase = further_phase m l s f in
      let late = All-weaker (λ x. Before x s) (λ x. activation x ≡ true → x.adjusted < s.adjusted) (λ x b e. b.phase_first (grind (arith, nat_tests)) phase) c.between n.behind in
      subst (λ ms. P (c ▹ s) ms (m.stepped t s)) (sym (marks_more m c.between s f))
      (k.further c s (marks m c.between) t n a late (n.turn f).0 (n.turn f).1 p)
  step_on c s t n p (inr a) (inr f) =
      subst (λ ms. P (c ▹ s) ms (m.stepped t s)) (sym (marks_same m c.between s f))
      (k.other c s (marks m c.between) t n a f p)

  pub kept_along : (c : Calls) → Admissible m c → P c (marks m c.between) (tallied m c)
  kept_along = along m (λ c t. P c (marks m c.between) t) (λ o q a. k.start o q)
      (λ c s t a n p. step_on c s t n p (cases_Bool (activation s)) (cases_Bool (among m.further s.code)))

-- a further code stands at the moment that is kept for it
moment_push : (k : ℕ) (xs : List OwnRecord) (s : OwnRecord) → moment_of k (xs ++ s ∷ []) ≡ cond (eqb s.code k) s.adjusted (moment_of k xs)
moment_push k xs s = fold_push (λ a s. cond (eqb s.code k) s.adjusted a) 0 xs s

not_at : (fs : List ℕ) (k i : ℕ) → i < length fs → among fs k ≡ false → eqb k (get_or fs i 0) ≡ false
not_at [] k i l e = absurd (omega arith)
not_at (f ∷ fs) k zero l e = (or_parts (eqb k f) (among fs k) e).0
not_at (f ∷ fs) k (suc i) l e = not_at fs k i (omega arith) (or_parts (eqb k f) (among fs k) e).1

apart : (fs : List ℕ) → all_different fs ≡ true → (i j : ℕ) → i < length fs → j < length fs → (i ≡ j → ⊥) → eqb (get_or fs i 0) (get_or fs j 0) ≡ false
apart [] d i j l k n = absurd (omega arith)
apart (f ∷ fs) d zero zero l k n = absurd (n refl)
apart (f ∷ fs) d zero (suc j) l k n = not_at fs f j (omega arith) (not-true (among fs f) (and_parts (not (among fs f)) (all_different fs) d).0)
apart (f ∷ fs) d (suc i) zero l k n =
    let e = not_at fs f i (omega arith) (not-true (among fs f) (and_parts (not (among fs f)) (all_different fs) d).0) in
    grind (arith, nat_tests)
apart (f ∷ fs) d (suc i) (suc j) l k n = apart fs (and_parts (not (among fs f)) (all_different fs) d).1 i j (omega arith) (omega arith) (λ e. n (ap suc e))

AtMarks : Meaning → Calls → List ℕ → List ℕ → Type 0
AtMarks m c ms t = (i : ℕ) → i < length m.further → moment_of (get_or m.further i 0) c.between ≡ get_or ms i 0

module _ (m : Meaning) (l : Lawful m) where
  passes : (c : Calls) (s : OwnRecord) (ms t u : List ℕ) → among m.further s.code ≡ false → AtMarks m c ms t → AtMarks m (c ▹ s) ms u
  unfolding AtMarks
  passes c s ms t u n h i k =
      moment_push (get_or m.further i 0) c.between s
      ∙ cond-false (eqb s.code (get_or m.further i 0)) s.adjusted (moment_of (get_or m.further i 0) c.between) (not_at m.further s.code i k n) ∙ h i k

  meets : (c : Calls) (s : OwnRecord) (ms t u : List ℕ) → length ms < length m.further → get_or m.further (length ms) 0 ≡ s.code → AtMarks m c ms t → AtMarks m (c ▹ s) (ms ++ s.adjusted ∷ []) u
  unfolding AtMarks
  meets c s ms t u short turn h i k = moment_push (get_or m.further i 0) c.between s ∙ by (cases_eq i (length ms))
    where
      elsewhere : (i ≡ length ms → ⊥) → get_or (ms ++ s.adjusted ∷ []) i 0 ≡ get_or ms i 0
      elsewhere n = ⊎_elim
          (λ (b : i < length ms). get_or_append_left ms (s.adjusted ∷ []) 0 i b)
          (λ (b : length ms ≤ i). let p = length_push ms s.adjusted in get_or_past (ms ++ s.adjusted ∷ []) i 0 (omega arith) ∙ sym (get_or_past ms i 0 b))
          (cases_lt i (length ms))

      by : (i ≡ length ms) ⊎ (i ≡ length ms → ⊥) → cond (eqb s.code (get_or m.further i 0)) s.adjusted (moment_of (get_or m.further i 0) c.between) ≡ get_or (ms ++ s.adjusted ∷ []) i 0
      by (inl e) =
          cond-true (eqb s.code (get_or m.further i 0)) s.adjusted _ (eq-eqb s.code (get_or m.further i 0) (sym turn ∙ ap (λ j. get_or m.further j 0) (sym e)))
          ∙ sym (get_or_at ms s.adjusted [] 0 i (sym e))
      by (inr n) =
          let d : eqb s.code (get_or m.further i 0) ≡ false = subst (λ x. eqb x (get_or m.further i 0) ≡ false) turn (apart m.further (and_parts (not (among m.further m.opening)) (all_different m.further) l.different).1 (length ms) i short k (λ e. n (sym e))) in
          cond-false (eqb s.code (get_or m.further i 0)) s.adjusted (moment_of (get_or m.further i 0) c.between) d ∙ h i k ∙ sym (elsewhere n)

  pub moment_at : (c : Calls) → Admissible m c → (i : ℕ) → i < length m.further → moment_of (get_or m.further i 0) c.between ≡ get_or (marks m c.between) i 0
  unfolding AtMarks
  moment_at c a i k = kept_along m l (AtMarks m) (record {
    start = λ o q j b. refl;
    on = λ c s ms t n e before h. passes c s ms t (m.stepped t s) (activation_cuts_nothing m l s e) h;
    further = λ c s ms t n e late short turn h. meets c s ms t (m.stepped t s) short turn h;
    other = λ c s ms t n e no' h. passes c s ms t (m.stepped t s) no' h;
  }) c a i k

-- numbers from low to high that never fall
abbrev pub Rises : ℕ → List ℕ → ℕ → Type 0
Rises low [] high = low ≤ high
Rises low (n ∷ ns) high = (low ≤ n) × Rises n ns high

marks_rise : (m : Meaning) (xs : List OwnRecord) (low high : ℕ) → low ≤ high → AllByRecursion (λ s. low ≤ s.adjusted) xs → Ordered xs → AllByRecursion (λ s. s.adjusted ≤ high) xs → Rises low (marks m xs) high
marks_rise m [] low high l a o b = l
marks_rise m (x ∷ xs) low high l a o b =
    let here = marks_rise m xs x.adjusted high b.0 (All-weaker (Before x) (λ s. x.adjusted ≤ s.adjusted) (λ s p. p.rises) xs o.0) o.1 b.1 in
    let over = marks_rise m xs low high l a.1 o.1 b.1 in
    elim (among m.further x.code) as (λ t. Rises low (map (λ s. s.adjusted) (cond t (x ∷ filter (λ s. among m.further s.code) xs) (filter (λ s. among m.further s.code) xs))) high)
    [ true ↦ (a.0, here) | false ↦ over ]

-- every record of a cycle comes from its opening on
pub from_opening : (m : Meaning) (c : Calls) → Admissible m c → AllByRecursion (λ s. c.from ≤ s.adjusted) c.between
from_opening m c a = All-weaker (Fits m c.from) (λ s. c.from ≤ s.adjusted) (λ s f. f.after) c.between a.each

-- at the close each further code has come, at its moment, from the opening to the close
module _ (m : Meaning) (l : Lawful m) (c : Calls) (e : ℕ) (w : Whole m c e) where
  pub marks_are : marks m c.between ≡ map (λ k. moment_of k c.between) m.further
  marks_are =
      let long : length (marks m c.between) ≡ length m.further = marks_length m c.between ∙ ap length w.closes.all in
      ext_get_or 0 (marks m c.between) (map (λ k. moment_of k c.between) m.further) (long ∙ sym (length-map m.further (λ k. moment_of k c.between))) (λ i k.
      let h : i < length m.further = omega arith in
      sym (get_or-map (λ k. moment_of k c.between) m.further i 0 0 h ∙ moment_at m l c w.admissible i h))

  pub in_order : Rises c.from (map (λ k. moment_of k c.between) m.further) e
  in_order = subst (λ ms. Rises c.from ms e) marks_are
      (marks_rise m c.between c.from e (let k = w.closes.later in omega arith) (from_opening m c w.admissible) w.admissible.ordered
      (All-weaker _ (λ s. s.adjusted ≤ e) (λ s b. b.0) c.between w.closes.behind))

module _ (m : Meaning) (c : Calls) (e : ℕ) (w : Whole m c e) where
  -- what holds of the figures of its tally holds of what a close answers
  pub of_answer : (t r : List ℕ) → (F : List ℕ → Type 0) → (MayClose m t e → Answers m t e r) → t ≡ tallied m c → F (m.closed (tallied m c) e) → F r
  unfolding MayClose
  of_answer t r F answers q f = subst F (sym ((answers (c, q, w)).value ∙ ap (λ l. m.closed l e) q)) f
