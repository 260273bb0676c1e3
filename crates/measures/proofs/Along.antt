-- Admissible calls gone through step by step.
use Rattle.std.proofs.Common.{◌≡◌, ℕ, suc, ◌+◌, ◌<◌, Bool, true, false, cond, List, [], ◌∷◌, ◌++◌, map, length, get_or, take, filter, sym, refl, ap, ◌∙◌, subst, append_assoc, arith}
use Rattle.std.specs.List.{AllByRecursion}
use Rattle.std.proofs.lemmas.List.Elements.{filter-append}
use Rattle.std.proofs.lemmas.List.{append-nil, length-append, length_push, map-append, get_or_at, take_more}
use Rattle.std.proofs.lemmas.List.Sums.{fold_push}
use Rattle.measures.specs.Limits.{most_records}
use Rattle.measures.specs.Meanings.{Meaning, Calls, calls, opening_at, ◌▹◌, tallied, further_codes, Fits, Before, Ordered, Front, Admissible, MayStep, MayClose}
use Rattle.measures.specs.Records.{among}
use Rattle.measures.specs.declared.own.OwnRecord.{OwnRecord}

-- what holds of no elements, and of one more at the end, holds of every list
pub grows : {X : Type 0} (P : List X → Type 0) → P [] → ((xs : List X) (x : X) → P xs → P (xs ++ x ∷ [])) → (xs : List X) → P xs
grows {X} P none more xs = go [] xs none
  where
    go : (front rest : List X) → P front → P (front ++ rest)
    go front [] p = subst P (sym (append-nil front)) p
    go front (x ∷ rest) p = subst P (append_assoc front (x ∷ []) rest) (go (front ++ x ∷ []) rest (more front x p))

-- a test that every element passes keeps them all
pub all_pass : {X : Type 0} (p : X → Bool) (xs : List X) → AllByRecursion (λ x. p x ≡ true) xs → filter p xs ≡ xs
all_pass p [] h = refl
all_pass p (x ∷ xs) h = rw h.0 (ap (λ l. x ∷ l) (all_pass p xs h.1))

pub all_pop : {X : Type 0} (P : X → Type 0) (xs : List X) (x : X) → AllByRecursion P (xs ++ x ∷ []) → AllByRecursion P xs × P x
all_pop P [] x a = (tt, a.0)
all_pop P (y ∷ xs) x a = let r = all_pop P xs x a.1 in ((a.0, r.0), r.1)

ordered_pop : (xs : List OwnRecord) (s : OwnRecord) → Ordered (xs ++ s ∷ []) → Ordered xs × AllByRecursion (λ x. Before x s) xs
ordered_pop [] s o = (tt, tt)
ordered_pop (x ∷ xs) s o =
    let a = all_pop (Before x) xs s o.0 in
    let r = ordered_pop xs s o.1 in
    ((a.0, r.0), (a.1, r.1))

-- the adjusted moments of the further codes
abbrev pub marks : Meaning → List OwnRecord → List ℕ
marks m xs = map (λ s. s.adjusted) (filter (λ s. among m.further s.code) xs)

codes_push : (m : Meaning) (xs : List OwnRecord) (s : OwnRecord) → further_codes m (xs ++ s ∷ []) ≡ further_codes m xs ++ cond (among m.further s.code) (s.code ∷ []) []
codes_push m xs s =
    ap (filter (among m.further)) (map-append (λ s. s.code) xs (s ∷ [])) ∙ filter-append (among m.further) (map (λ s. s.code) xs) (s.code ∷ [])

pub marks_length : (m : Meaning) (xs : List OwnRecord) → length (marks m xs) ≡ length (further_codes m xs)
marks_length m [] = refl
marks_length m (s ∷ xs) =
    let e = marks_length m xs in
    elim (among m.further s.code) as (λ b. length (map (λ s. s.adjusted) (cond b (s ∷ filter (λ s. among m.further s.code) xs) (filter (λ s. among m.further s.code) xs))) ≡ length (cond b (s.code ∷ further_codes m xs) (further_codes m xs)))
    [ true ↦ ap suc e | false ↦ e ]

-- a further code adds its moment, and no other code does
marks_append : (m : Meaning) (xs : List OwnRecord) (s : OwnRecord) → marks m (xs ++ s ∷ []) ≡ marks m xs ++ map (λ s. s.adjusted) (filter (λ s. among m.further s.code) (s ∷ []))
marks_append m xs s =
    ap (map (λ s. s.adjusted)) (filter-append (λ s. among m.further s.code) xs (s ∷ [])) ∙ map-append (λ s. s.adjusted) (filter (λ s. among m.further s.code) xs) _

pub marks_more : (m : Meaning) (xs : List OwnRecord) (s : OwnRecord) → among m.further s.code ≡ true → marks m (xs ++ s ∷ []) ≡ marks m xs ++ s.adjusted ∷ []
marks_more m xs s e = marks_append m xs s ∙ ap (λ b. marks m xs ++ map (λ s. s.adjusted) (cond b (s ∷ []) [])) e

pub marks_same : (m : Meaning) (xs : List OwnRecord) (s : OwnRecord) → among m.further s.code ≡ false → marks m (xs ++ s ∷ []) ≡ marks m xs
marks_same m xs s e = marks_append m xs s ∙ ap (λ b. marks m xs ++ map (λ s. s.adjusted) (cond b (s ∷ []) [])) e ∙ append-nil (marks m xs)

-- what is known of a step that may follow
pub record Next (m : Meaning) (c : Calls) (s : OwnRecord) : Type 0 where
  pub few : length c.between < most_records
  pub fits : Fits m c.from s
  pub behind : AllByRecursion (λ x. Before x s) c.between
  pub turn : among m.further s.code ≡ true → (length (marks m c.between) < length m.further) × (get_or m.further (length (marks m c.between)) 0 ≡ s.code)

front_in_turn : (ks : List ℕ) (k : ℕ) (fs : List ℕ) → Front (ks ++ k ∷ []) fs → (length ks < length fs) × (get_or fs (length ks) 0 ≡ k)
front_in_turn ks k fs (rest, e) =
    let l = ap length (sym e) ∙ length-append (ks ++ k ∷ []) rest in
    let n = length_push ks k in
    (omega arith, ap (λ xs. get_or xs (length ks) 0) (sym e ∙ append_assoc ks (k ∷ []) rest) ∙ get_or_at ks k rest 0 (length ks) refl)

front_pop : (ks js fs : List ℕ) → Front (ks ++ js) fs → Front ks fs
front_pop ks js fs (rest, e) = (js ++ rest, sym (append_assoc ks js rest) ∙ e)

module _ (m : Meaning) (c : Calls) (s : OwnRecord) (a : Admissible m (c ▹ s)) where
  codes : Front (further_codes m c.between ++ cond (among m.further s.code) (s.code ∷ []) []) m.further
  codes = subst (λ ks. Front ks m.further) (codes_push m c.between s) a.turns

  long : length c.between < most_records
  long = let l = length_push c.between s in omega (arith, a.few)

  pub so_far : Admissible m c
  so_far = record {
    moment = a.moment;
    set = a.set;
    unread = a.unread;
    few = (let l = long in omega arith);
    each = (all_pop (Fits m c.from) c.between s a.each).0;
    ordered = (ordered_pop c.between s a.ordered).0;
    turns = front_pop (further_codes m c.between) _ m.further codes;
  }

  pub next_step : Next m c s
  next_step = record {
    few = long;
    fits = (all_pop (Fits m c.from) c.between s a.each).1;
    behind = (ordered_pop c.between s a.ordered).1;
    turn = λ e.
        let f = front_in_turn (further_codes m c.between) s.code m.further (subst (λ b. Front (further_codes m c.between ++ cond b (s.code ∷ []) []) m.further) e codes) in
        subst (λ n. (n < length m.further) × (get_or m.further n 0 ≡ s.code)) (sym (marks_length m c.between)) f;
  }

-- what holds of a tally at an opening, and is kept by each step, holds along admissible calls
pub along : (m : Meaning) (P : Calls → List ℕ → Type 0)
    → ((o q : ℕ) → Admissible m (opening_at o q) → P (opening_at o q) (m.opened o q))
    → ((c : Calls) (s : OwnRecord) (t : List ℕ) → Admissible m c → Next m c s → P c t → P (c ▹ s) (m.stepped t s))
    → (c : Calls) → Admissible m c → P c (tallied m c)
along m P start more c a = grows Q (λ b. start c.from c.occupied b) step c.between a
  where
    Q : List OwnRecord → Type 0
    Q xs = Admissible m (record { from = c.from; occupied = c.occupied; between = xs }) → P (record { from = c.from; occupied = c.occupied; between = xs }) (tallied m (record { from = c.from; occupied = c.occupied; between = xs }))

    step : (xs : List OwnRecord) (s : OwnRecord) → Q xs → Q (xs ++ s ∷ [])
    step xs s h b =
        let d : Calls = record { from = c.from; occupied = c.occupied; between = xs } in
        subst (P (d ▹ s)) (sym (fold_push m.stepped (m.opened c.from c.occupied) xs s))
        (more d s (tallied m d) (so_far m d s b) (next_step m d s b) (h (so_far m d s b)))

-- what holds of the tally along admissible calls holds where a step, or a close, may follow
pub at_step : (m : Meaning) (P : List ℕ → Type 0) → ((c : Calls) → Admissible m c → P (tallied m c)) → (t : List ℕ) (s : OwnRecord) → MayStep m t s → P t
unfolding MayStep
at_step m P all t s (c, e, a) = subst P (sym e) (all c (so_far m c s a))

pub at_close : (m : Meaning) (P : List ℕ → Type 0) → ((c : Calls) → Admissible m c → P (tallied m c)) → (t : List ℕ) (e : ℕ) → MayClose m t e → P t
unfolding MayClose
at_close m P all t e (c, q, w) = subst P (sym q) (all c w.admissible)

-- a measure that follows its meaning, stepped through one more of some records
pub stepped_on : (m : Meaning) (o q : ℕ) (xs : List OwnRecord) (i : ℕ) (d : OwnRecord) (t u : List ℕ) → i < length xs
    → (Admissible m (calls o q (take i xs)) → t ≡ tallied m (calls o q (take i xs))) → (MayStep m t (get_or xs i d) → u ≡ m.stepped t (get_or xs i d))
    → Admissible m (calls o q (take (i + 1) xs)) → u ≡ tallied m (calls o q (take (i + 1) xs))
unfolding MayStep
stepped_on m o q xs i d t u l so step a =
    let s = get_or xs i d in
    let e : take (i + 1) xs ≡ take i xs ++ s ∷ [] = take_more xs i d l in
    let b : Admissible m (calls o q (take i xs) ▹ s) = subst (λ ys. Admissible m (calls o q ys)) e a in
    let h = so (so_far m (calls o q (take i xs)) s b) in
    step (calls o q (take i xs), h, b) ∙ ap (λ t. m.stepped t s) h ∙ sym (fold_push m.stepped (m.opened o q) (take i xs) s) ∙ ap (λ ys. tallied m (calls o q ys)) (sym e)
