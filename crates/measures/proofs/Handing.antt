-- What the debouncing layer hands down of admissible calls, and that these are admissible for the measure below.
use Rattle.std.proofs.Common.{◌≡◌, ℕ, suc, ◌≤◌, Bool, true, false, cond, ◌&&◌, eqb, List, [], ◌∷◌, ◌++◌, length, Some, None, filter, sym, refl, ap, ◌∙◌, subst, append_assoc, arith}
use Rattle.std.specs.List.{AllByRecursion}
use Rattle.std.proofs.ByRecursion.{All-weaker}
use Rattle.std.proofs.lemmas.List.Elements.{filter-append}
use Rattle.std.proofs.lemmas.List.{append-nil}
use Rattle.std.proofs.lemmas.List.Sums.{fold_push}
use Rattle.std.proofs.lemmas.Bool.{and_parts, cond-false, eqb-true}
use Rattle.std.proofs.lemmas.Bool.Decides.{nat_tests}
use Rattle.measures.specs.Channels.{holds}
use Rattle.measures.specs.Debouncing.{repeats, handed_behind, handed_down, Debounces, DebouncedFigures, front, rest, dropped, next, debounced}
use Rattle.measures.specs.Meanings.{Meaning, Calls, opening_at, ◌▹◌, tallied, further_codes, Fits, Before, Ordered, Admissible, Whole, Lawful, MayStep, MayClose, Answers}
use Rattle.measures.specs.Records.{among, activation, detector, of_channel, latest, on_by, occupied_after, changed}
use Rattle.measures.specs.declared.own.OwnRecord.{OwnRecord}
use Rattle.measures.proofs.Along.{Next, so_far, next_step, along}
use Rattle.measures.proofs.Marks.{activation_cuts_nothing, of_answer}
use Rattle.measures.proofs.Sets.{holds_changed}

-- one record on, a channel is as that record says, if it is the channel's, and else as it was
pub occupied_push : (q : ℕ) (xs : List OwnRecord) (s : OwnRecord) (d : ℕ) → occupied_after q (xs ++ s ∷ []) d ≡ cond (of_channel d s) (activation s) (occupied_after q xs d)
unfolding occupied_after
occupied_push q xs s d =
    ap (λ l. on_by (holds q d) (latest l)) (filter-append (of_channel d) xs (s ∷ [])) ∙ by (of_channel d s)
  where
    by : (b : Bool) → on_by (holds q d) (latest (filter (of_channel d) xs ++ cond b (s ∷ []) [])) ≡ cond b (activation s) (on_by (holds q d) (latest (filter (of_channel d) xs)))
    by true = ap (on_by (holds q d)) (fold_push (λ before s. Some s) None (filter (of_channel d) xs) s)
    by false = ap (λ l. on_by (holds q d) (latest l)) (append-nil (filter (of_channel d) xs))

-- a record is handed down behind the others unless it repeats
handed_push : (q : ℕ) (before xs : List OwnRecord) (s : OwnRecord) → handed_behind q before (xs ++ s ∷ []) ≡ handed_behind q before xs ++ cond (repeats q (before ++ xs) s) [] (s ∷ [])
handed_push q before [] s =
    subst (λ l. cond (repeats q before s) [] (s ∷ []) ≡ cond (repeats q l s) [] (s ∷ [])) (sym (append-nil before)) refl
handed_push q before (x ∷ xs) s =
    let h = handed_push q (before ++ x ∷ []) xs s in
    let e : (before ++ x ∷ []) ++ xs ≡ before ++ x ∷ xs = append_assoc before (x ∷ []) xs in
    let k : handed_behind q (before ++ x ∷ []) (xs ++ s ∷ []) ≡ handed_behind q (before ++ x ∷ []) xs ++ cond (repeats q (before ++ x ∷ xs) s) [] (s ∷ []) = subst (λ l. handed_behind q (before ++ x ∷ []) (xs ++ s ∷ []) ≡ handed_behind q (before ++ x ∷ []) xs ++ cond (repeats q l s) [] (s ∷ [])) e h in
    elim (repeats q before x) as (λ b. cond b (handed_behind q (before ++ x ∷ []) (xs ++ s ∷ [])) (x ∷ handed_behind q (before ++ x ∷ []) (xs ++ s ∷ [])) ≡ cond b (handed_behind q (before ++ x ∷ []) xs) (x ∷ handed_behind q (before ++ x ∷ []) xs) ++ cond (repeats q (before ++ x ∷ xs) s) [] (s ∷ []))
    [ true ↦ k | false ↦ ap (λ l. x ∷ l) k ]

handed_all : (P : OwnRecord → Type 0) (q : ℕ) (before xs : List OwnRecord) → AllByRecursion P xs → AllByRecursion P (handed_behind q before xs)
handed_all P q before [] a = tt
handed_all P q before (x ∷ xs) a =
    let h = handed_all P q (before ++ x ∷ []) xs a.1 in
    elim (repeats q before x) as (λ b. AllByRecursion P (cond b (handed_behind q (before ++ x ∷ []) xs) (x ∷ handed_behind q (before ++ x ∷ []) xs))) [ true ↦ h | false ↦ (a.0, h) ]

handed_ordered : (q : ℕ) (before xs : List OwnRecord) → Ordered xs → Ordered (handed_behind q before xs)
handed_ordered q before [] o = tt
handed_ordered q before (x ∷ xs) o =
    let h = handed_ordered q (before ++ x ∷ []) xs o.1 in
    let a = handed_all (Before x) q (before ++ x ∷ []) xs o.0 in
    elim (repeats q before x) as (λ b. Ordered (cond b (handed_behind q (before ++ x ∷ []) xs) (x ∷ handed_behind q (before ++ x ∷ []) xs))) [ true ↦ h | false ↦ (a, h) ]

handed_few : (q : ℕ) (before xs : List OwnRecord) → length (handed_behind q before xs) ≤ length xs
handed_few q before [] = omega arith
handed_few q before (x ∷ xs) =
    let h = handed_few q (before ++ x ∷ []) xs in
    elim (repeats q before x) as (λ b. length (cond b (handed_behind q (before ++ x ∷ []) xs) (x ∷ handed_behind q (before ++ x ∷ []) xs)) ≤ suc (length xs)) [ true ↦ omega arith | false ↦ omega arith ]

handed_codes : (m : Meaning) → Lawful m → (q : ℕ) (before xs : List OwnRecord) → further_codes m (handed_behind q before xs) ≡ further_codes m xs
handed_codes m l q before [] = refl
handed_codes m l q before (x ∷ xs) =
    let h = handed_codes m l q (before ++ x ∷ []) xs in
    let no' : repeats q before x ≡ true → among m.further x.code ≡ false = λ r. activation_cuts_nothing m l x (and_parts (activation x) (occupied_after q before x.parameter) r).0 in
    elim (repeats q before x) as (λ b. (b ≡ true → among m.further x.code ≡ false) → further_codes m (cond b (handed_behind q (before ++ x ∷ []) xs) (x ∷ handed_behind q (before ++ x ∷ []) xs)) ≡ further_codes m (x ∷ xs))
    [ true ↦ λ n. h ∙ sym (cond-false (among m.further x.code) (x.code ∷ further_codes m xs) (further_codes m xs) (n refl)) | false ↦ λ n. ap (λ ks. cond (among m.further x.code) (x.code ∷ ks) ks) h ] no'

module _ (m : Meaning) (l : Lawful m) (c : Calls) where
  pub admissible_below : Admissible (debounced m) c → Admissible m (handed_down c)
  admissible_below a = record {
    moment = a.moment;
    set = a.set;
    unread = a.unread;
    few = (let f = a.few in let h = handed_few c.occupied [] c.between in omega arith);
    each = handed_all (Fits m c.from) c.occupied [] c.between (All-weaker (Fits (debounced m) c.from) (Fits m c.from) (λ x f. record { after = f.after; near = f.near; kind = f.kind; place = f.place; inner = f.inner }) c.between a.each);
    ordered = handed_ordered c.occupied [] c.between a.ordered;
    turns = (a.turns.0, ap (λ ks. ks ++ a.turns.0) (handed_codes m l c.occupied [] c.between) ∙ a.turns.1);
  }

  pub whole_below : (e : ℕ) → Whole (debounced m) c e → Whole m (handed_down c) e
  whole_below e w = record {
    admissible = admissible_below w.admissible;
    closes = record {
      all = handed_codes m l c.occupied [] c.between ∙ w.closes.all;
      later = w.closes.later;
      near = w.closes.near;
      behind = handed_all _ c.occupied [] c.between w.closes.behind;
    };
  }

-- a repeated activation is not handed down, and every other record is
module _ (c : Calls) (s : OwnRecord) where
  pub handed_not : repeats c.occupied c.between s ≡ true → handed_down (c ▹ s) ≡ handed_down c
  handed_not r =
      let e = handed_push c.occupied [] c.between s ∙ ap (λ b. handed_behind c.occupied [] c.between ++ cond b [] (s ∷ [])) r ∙ append-nil (handed_behind c.occupied [] c.between) in
      ap (λ xs. record { from = c.from; occupied = c.occupied; between = xs }) e

  pub handed_too : repeats c.occupied c.between s ≡ false → handed_down (c ▹ s) ≡ handed_down c ▹ s
  handed_too r =
      let e = handed_push c.occupied [] c.between s ∙ ap (λ b. handed_behind c.occupied [] c.between ++ cond b [] (s ∷ [])) r in
      ap (λ xs. record { from = c.from; occupied = c.occupied; between = xs }) e

-- the set and the tally below, one step on
module _ (m : Meaning) (c : Calls) (s : OwnRecord) (n : Next (debounced m) c s) (q : ℕ) (u : List ℕ) (h : Debounces m c q u) where
  pub drops_repeated : dropped q s ≡ repeats c.occupied c.between s
  drops_repeated = by (activation s) refl
    where
      by : (b : Bool) → activation s ≡ b → (b && holds q s.parameter) ≡ (b && occupied_after c.occupied c.between s.parameter)
      by true e = h.on s.parameter (n.fits.place (grind (arith, nat_tests)))
      by false e = refl

  on_repeated : dropped q s ≡ true → Debounces m (c ▹ s) q u
  on_repeated r = record {
    on = λ d k.
        let p = and_parts (activation s) (holds q s.parameter) r in
        let e = occupied_push c.occupied c.between s d in
        let was = h.on d k in
        rw e (by d was p.0 p.1 (of_channel d s) refl);
    handed = h.handed ∙ ap (tallied m) (sym (handed_not c s (sym drops_repeated ∙ r)));
  }
    where
      by : (d : ℕ) → holds q d ≡ occupied_after c.occupied c.between d → activation s ≡ true → holds q s.parameter ≡ true → (b : Bool) → of_channel d s ≡ b → holds q d ≡ cond b (activation s) (occupied_after c.occupied c.between d)
      by d was a p true e = ap (holds q) (sym (eqb-true s.parameter d (and_parts (detector s) (eqb s.parameter d) e).1)) ∙ p ∙ sym a
      by d was a p false e = was

  on_handed : dropped q s ≡ false → Debounces m (c ▹ s) (changed q s) (m.stepped u s)
  on_handed r = record {
    on = λ d k. holds_changed q s d k ∙ ap (λ b. cond (of_channel d s) (activation s) b) (h.on d k) ∙ sym (occupied_push c.occupied c.between s d);
    handed =
        ap (λ t. m.stepped t s) h.handed
        ∙ sym (fold_push m.stepped (m.opened c.from c.occupied) (handed_down c).between s)
        ∙ ap (tallied m) (sym (handed_too c s (sym drops_repeated ∙ r)));
  }

-- along admissible calls
abbrev pub DebouncedTally : Meaning → Calls → List ℕ → Type 0
DebouncedTally m c t = (t ≡ front t ∷ rest t) × Debounces m c (front t) (rest t)

starts : (m : Meaning) (o q : ℕ) → DebouncedTally m (opening_at o q) (q ∷ m.opened o q)
unfolding occupied_after
starts m o q = (refl, record { on = λ d k. refl; handed = refl })

goes_on : (m : Meaning) (c : Calls) (s : OwnRecord) (t : List ℕ) → Next (debounced m) c s → DebouncedTally m c t → DebouncedTally m (c ▹ s) (next m (front t) (rest t) s)
goes_on m c s t n (shape, h) = by (dropped (front t) s) refl
  where
    by : (b : Bool) → dropped (front t) s ≡ b → DebouncedTally m (c ▹ s) (cond b (front t ∷ rest t) (changed (front t) s ∷ m.stepped (rest t) s))
    by true r = (refl, on_repeated m c s n (front t) (rest t) h r)
    by false r = (refl, on_handed m c s n (front t) (rest t) h r)

pub debounces : (m : Meaning) (c : Calls) → Admissible (debounced m) c → DebouncedTally m c (tallied (debounced m) c)
debounces m = along (debounced m) (DebouncedTally m) (λ o q a. starts m o q) (λ c s t a n h. goes_on m c s t n h)

-- where calls lead to a set and a tally below
pub debounces_at : (m : Meaning) (c : Calls) (q : ℕ) (u : List ℕ) → Admissible (debounced m) c → q ∷ u ≡ tallied (debounced m) c → Debounces m c q u
debounces_at m c q u a e = subst (λ t. Debounces m c (front t) (rest t)) (sym e) (debounces m c a).1

-- a step or a close that the layer may be asked for may be asked of the measure below
module _ (m : Meaning) (l : Lawful m) (q : ℕ) (u : List ℕ) where
  pub may_step_below : (s : OwnRecord) → dropped q s ≡ false → MayStep (debounced m) (q ∷ u) s → MayStep m u s
  unfolding MayStep
  may_step_below s r (c, e, a) =
      let h = debounces_at m c q u (so_far (debounced m) c s a) e in
      (handed_down c, h.handed, subst (Admissible m) (handed_too c s (sym (drops_repeated m c s (next_step (debounced m) c s a) q u h) ∙ r)) (admissible_below m l (c ▹ s) a))

  pub may_close_below : (e : ℕ) → MayClose (debounced m) (q ∷ u) e → MayClose m u e
  unfolding MayClose
  may_close_below e (c, k, w) = (handed_down c, (debounces_at m c q u w.admissible k).handed, whole_below m l c e w)

  -- so a step that follows the step-by-step meaning comes to what the calls should come to
  pub debounces_step : (s : OwnRecord) (q' : ℕ) (u' : List ℕ) → (MayStep (debounced m) (q ∷ u) s → q' ∷ u' ≡ next m q u s)
      → (c : Calls) → Admissible (debounced m) (c ▹ s) → q ∷ u ≡ tallied (debounced m) c → Debounces m (c ▹ s) q' u'
  unfolding MayStep
  debounces_step s q' u' after c a e =
      debounces_at m (c ▹ s) q' u' a
      (after (c, e, a) ∙ ap (λ t. (debounced m).stepped t s) e ∙ sym (fold_push (debounced m).stepped ((debounced m).opened c.from c.occupied) c.between s))

  -- and a close that is answered below answers the layer's
  pub debounced_figures : (words : Calls → ℕ → List ℕ → Type 0) (e : ℕ) (r : List ℕ) → (MayClose m u e → Answers m u e r)
      → ((c : Calls) → Whole m c e → u ≡ tallied m c → words c e r)
      → (c : Calls) → Whole (debounced m) c e → q ∷ u ≡ tallied (debounced m) c → DebouncedFigures m words c e r
  debounced_figures words e r answers whole c w k =
      let b = whole_below m l c e w in
      let h = (debounces_at m c q u w.admissible k).handed in
      record {
        whole_below = b;
        figures_are = of_answer m (handed_down c) e b u r (λ r. r ≡ m.closed (tallied m (handed_down c)) e) answers h refl;
        words_below = whole (handed_down c) b h;
      }
