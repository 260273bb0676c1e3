-- Tenths counted one by one, and how those with an occupied channel grow from record to record.
use Rattle.std.proofs.Common.{◌≡◌, ℕ, zero, suc, ◌+◌, ◌-◌, ◌<◌, ◌≤◌, min, Bool, true, false, cond, leb, List, [], ◌∷◌, ◌++◌, refl, ap, ◌∙◌, ⊎_elim, add-zero, add-suc, arith}
use Rattle.std.specs.List.{AllByRecursion}
use Rattle.std.proofs.ByRecursion.{All-weaker}
use Rattle.std.proofs.lemmas.List.Elements.{filter-append}
use Rattle.std.proofs.lemmas.List.{append-nil}
use Rattle.std.proofs.lemmas.Bool.{le-leb, lt-leb, cases_lt}
use Rattle.measures.specs.Channels.{some_channel}
use Rattle.measures.specs.Records.{occupied_after}
use Rattle.measures.specs.SplitFailures.{upto, occupied_at, tenths}
use Rattle.measures.specs.declared.own.OwnRecord.{OwnRecord}
use Rattle.measures.proofs.Along.{all_pass}

-- the tenths from a on and before b that pass a test
abbrev pub span : (ℕ → Bool) → ℕ → ℕ → ℕ
span p a b = tenths p a (b - a)

tenths_same : (p r : ℕ → Bool) (a n : ℕ) → ((i : ℕ) → a ≤ i → i < a + n → p i ≡ r i) → tenths p a n ≡ tenths r a n
tenths_same p r a zero h = refl
tenths_same p r a (suc n) h =
    let e = tenths_same p r a n (λ i l k. h i l (omega arith)) in
    let x = h (a + n) (omega arith) (omega arith) in
    rw (e, x)

tenths_const : (p : ℕ → Bool) (v : Bool) (a n : ℕ) → ((i : ℕ) → a ≤ i → i < a + n → p i ≡ v) → tenths p a n ≡ cond v n 0
tenths_const p v a zero h = elim v as (λ v. ◌≡◌ {A = ℕ} 0 (cond v 0 0)) [ true ↦ refl | false ↦ refl ]
tenths_const p v a (suc n) h =
    let e = tenths_const p v a n (λ i l k. h i l (omega arith)) in
    let x = h (a + n) (omega arith) (omega arith) in
    rw (e, x) (elim v as (λ v. cond v n 0 + cond v 1 0 ≡ cond v (suc n) 0) [ true ↦ omega arith | false ↦ refl ])

tenths_split : (p : ℕ → Bool) (a n m : ℕ) → tenths p a (n + m) ≡ tenths p a n + tenths p (a + n) m
tenths_split p a n zero = rw add-zero (omega arith)
tenths_split p a n (suc m) =
    let e = tenths_split p a n m in
    let x : a + n + m ≡ a + (n + m) = omega arith in
    rw (add-suc n m, x, e) (omega arith)

pub tenths_le : (p : ℕ → Bool) (a n : ℕ) → tenths p a n ≤ n
tenths_le p a zero = omega arith
tenths_le p a (suc n) =
    let e = tenths_le p a n in
    elim (p (a + n)) as (λ v. tenths p a n + cond v 1 0 ≤ suc n) [ true ↦ omega arith | false ↦ omega arith ]

span_split : (p : ℕ → Bool) (a b c : ℕ) → a ≤ b → b ≤ c → span p a c ≡ span p a b + span p b c
span_split p a b c l k =
    let e : c - a ≡ (b - a) + (c - b) = omega arith in
    let f : a + (b - a) ≡ b = omega arith in
    rw e (tenths_split p a (b - a) (c - b) ∙ ap (λ x. tenths p a (b - a) + tenths p x (c - b)) f)

pub span_none : (p : ℕ → Bool) (a b : ℕ) → b ≤ a → span p a b ≡ 0
span_none p a b l = let e : b - a ≡ 0 = omega arith in rw e

-- before a record's moment, nothing changes by it
pub span_before : (q : ℕ) (xs : List OwnRecord) (s : OwnRecord) (a b : ℕ) → b ≤ s.adjusted → span (occupied_at q (xs ++ s ∷ [])) a b ≡ span (occupied_at q xs) a b
unfolding occupied_at
span_before q xs s a b l =
    tenths_same (occupied_at q (xs ++ s ∷ [])) (occupied_at q xs) a (b - a) (λ i k h.
    ap (λ ys. some_channel (occupied_after q ys))
    (filter-append (λ s. leb s.adjusted i) xs (s ∷ []) ∙ ap (λ v. upto i xs ++ cond v (s ∷ []) []) (lt-leb s.adjusted i (omega arith)) ∙ append-nil (upto i xs)))

-- from the latest record on, channels stay as they are
settled : (q : ℕ) (xs : List OwnRecord) (last t : ℕ) → AllByRecursion (λ s. s.adjusted ≤ last) xs → last ≤ t → occupied_at q xs t ≡ some_channel (occupied_after q xs)
unfolding occupied_at
settled q xs last t h l =
    ap (λ ys. some_channel (occupied_after q ys))
    (all_pass (λ s. leb s.adjusted t) xs (All-weaker (λ s. s.adjusted ≤ last) (λ s. leb s.adjusted t ≡ true) (λ s k. le-leb s.adjusted t (omega arith)) xs h))

module _ (q : ℕ) (xs : List OwnRecord) (last : ℕ) (h : AllByRecursion (λ s. s.adjusted ≤ last) xs) where
  pub span_on : (a b : ℕ) → a ≤ last → last ≤ b → span (occupied_at q xs) a b ≡ span (occupied_at q xs) a last + cond (some_channel (occupied_after q xs)) (b - last) 0
  span_on a b l k =
      span_split (occupied_at q xs) a last b l k
      ∙ ap (λ n. span (occupied_at q xs) a last + n) (tenths_const (occupied_at q xs) (some_channel (occupied_after q xs)) last (b - last) (λ i u _. settled q xs last i h u))

  -- the same up to an end
  pub span_capped : (a end b : ℕ) → a ≤ last → a ≤ end → last ≤ b
      → span (occupied_at q xs) a (min end b) ≡ span (occupied_at q xs) a (min end last) + cond (some_channel (occupied_after q xs)) (min end b - last) 0
  span_capped a end b l c k = ⊎_elim
      (λ (u : last < end).
      let e : min end last ≡ last = omega arith in
      rw e (span_on a (min end b) l (omega arith)))
      (λ (u : end ≤ last).
      let e : min end last ≡ end = omega arith in
      let d : min end b ≡ end = omega arith in
      let z : end - last ≡ 0 = omega arith in
      rw (e, d, z) (elim (some_channel (occupied_after q xs)) as (λ v. span (occupied_at q xs) a end ≡ span (occupied_at q xs) a end + cond v 0 0) [ true ↦ omega arith | false ↦ omega arith ]))
      (cases_lt last end)
