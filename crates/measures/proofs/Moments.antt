-- A tally counts an activation by what came before it; the rules count it by its adjusted moment. In working order that is the same.
use Rattle.std.proofs.Common.{◌≡◌, ℕ, ◌+◌, ◌-◌, ◌*◌, ◌^◌, ◌<◌, ◌≤◌, Bool, true, false, cond, ◌&&◌, ltb, leb, List, [], ◌∷◌, ◌++◌, length, sum_by, filter, sym, refl, ap, ◌∙◌, add-mul, arith}
use Rattle.std.specs.List.{AllByRecursion}
use Rattle.std.proofs.lemmas.List.Elements.{filter-append}
use Rattle.std.proofs.ByRecursion.{All-weaker, sum_by_le}
use Rattle.std.proofs.lemmas.List.{append-nil}
use Rattle.std.proofs.lemmas.List.Sums.{sum_by_push, sum_by-cons}
use Rattle.std.proofs.lemmas.Bool.{le-leb, lt-leb, cond-true, cond-false}
use Rattle.std.proofs.lemmas.Bool.Decides.{nat_tests}
use Rattle.measures.specs.Meanings.{Meaning, Calls, Fits, Admissible}
use Rattle.measures.specs.Records.{activation, count, total}
use Rattle.measures.specs.declared.own.OwnRecord.{OwnRecord}
use Rattle.measures.proofs.Along.{all_pass}

-- the moments of ms that come up to a
abbrev pub upto : ℕ → List ℕ → List ℕ
upto a ms = filter (λ m. leb m a) ms

-- what an activation weighs, by the moments that come up to its own
abbrev pub weight : (List ℕ → ℕ → ℕ) → List ℕ → OwnRecord → ℕ
weight w ms s = cond (activation s) (w (upto s.adjusted ms) s.adjusted) 0

abbrev pub weighed : (List ℕ → ℕ → ℕ) → List ℕ → List OwnRecord → ℕ
weighed w ms xs = sum_by (weight w ms) xs

pub same_sums : (f h : OwnRecord → ℕ) → ((s : OwnRecord) → f s ≡ h s) → (xs : List OwnRecord) → sum_by f xs ≡ sum_by h xs
same_sums f h p xs = ap (λ k. sum_by k xs) (λ i s. p s i)

sums_where : (f h : OwnRecord → ℕ) (xs : List OwnRecord) → AllByRecursion (λ s. f s ≡ h s) xs → sum_by f xs ≡ sum_by h xs
sums_where f h [] a = refl
sums_where f h (s ∷ xs) a =
    sum_by-cons f s xs ∙ ap (λ n. n + sum_by f xs) a.0 ∙ ap (λ n. h s + n) (sums_where f h xs a.1) ∙ sym (sum_by-cons h s xs)

pub all_upto : (a : ℕ) (ms : List ℕ) → AllByRecursion (λ m. m ≤ a) ms → upto a ms ≡ ms
all_upto a ms h = all_pass (λ m. leb m a) ms (All-weaker (λ m. m ≤ a) (λ m. leb m a ≡ true) (λ m. le-leb m a) ms h)

upto_more : (a n : ℕ) (ms : List ℕ) → a < n → upto a (ms ++ n ∷ []) ≡ upto a ms
upto_more a n ms l =
    filter-append (λ m. leb m a) ms (n ∷ []) ∙ ap (λ b. upto a ms ++ cond b (n ∷ []) []) (lt-leb n a l) ∙ append-nil (upto a ms)

-- a count that follows its weight goes on to do so: an activation adds its weight,
pub counts_on : (w : List ℕ → ℕ → ℕ) (ms : List ℕ) (xs : List OwnRecord) (s : OwnRecord) → activation s ≡ true → AllByRecursion (λ m. m ≤ s.adjusted) ms
    → (n : ℕ) → n ≡ weighed w ms xs → n + w ms s.adjusted ≡ weighed w ms (xs ++ s ∷ [])
counts_on w ms xs s e h n k =
    ap (λ n. n + w ms s.adjusted) k
    ∙ sym (sum_by_push (weight w ms) xs s
    ∙ ap (λ n. weighed w ms xs + n) (cond-true (activation s) (w (upto s.adjusted ms) s.adjusted) 0 e ∙ ap (λ l. w l s.adjusted) (all_upto s.adjusted ms h)))

-- any other record adds nothing,
pub counts_past : (w : List ℕ → ℕ → ℕ) (ms : List ℕ) (xs : List OwnRecord) (s : OwnRecord) → activation s ≡ false
    → (n : ℕ) → n ≡ weighed w ms xs → n ≡ weighed w ms (xs ++ s ∷ [])
counts_past w ms xs s e n k =
    k ∙ sym (sum_by_push (weight w ms) xs s ∙ ap (λ n. weighed w ms xs + n) (cond-false (activation s) (w (upto s.adjusted ms) s.adjusted) 0 e) ∙ (omega arith))

-- and neither does a further code, which comes after every activation so far
weighed_mark : (w : List ℕ → ℕ → ℕ) (ms : List ℕ) (n : ℕ) (xs : List OwnRecord) → AllByRecursion (λ x. activation x ≡ true → x.adjusted < n) xs
    → weighed w (ms ++ n ∷ []) xs ≡ weighed w ms xs
weighed_mark w ms n xs h =
    sums_where (weight w (ms ++ n ∷ [])) (weight w ms) xs
    (All-weaker (λ x. activation x ≡ true → x.adjusted < n) (λ x. weight w (ms ++ n ∷ []) x ≡ weight w ms x) (λ x. here x (activation x)) xs h)
  where
    here : (x : OwnRecord) (b : Bool) → (b ≡ true → x.adjusted < n) → cond b (w (upto x.adjusted (ms ++ n ∷ [])) x.adjusted) 0 ≡ cond b (w (upto x.adjusted ms) x.adjusted) 0
    here x true l = ap (λ k. w k x.adjusted) (upto_more x.adjusted n ms (l refl))
    here x false l = refl

pub counts_cut : (w : List ℕ → ℕ → ℕ) (ms : List ℕ) (xs : List OwnRecord) (s : OwnRecord) → activation s ≡ false → AllByRecursion (λ x. activation x ≡ true → x.adjusted < s.adjusted) xs
    → (n : ℕ) → n ≡ weighed w ms xs → n ≡ weighed w (ms ++ s.adjusted ∷ []) (xs ++ s ∷ [])
counts_cut w ms xs s e h n k = counts_past w (ms ++ s.adjusted ∷ []) xs s e n (k ∙ sym (weighed_mark w ms s.adjusted xs h))

-- a bound on each weight bounds the sum
pub weighed_le : (w : List ℕ → ℕ → ℕ) (ms : List ℕ) (xs : List OwnRecord) (b : ℕ) → AllByRecursion (λ x. (l : List ℕ) → w l x.adjusted ≤ b) xs → weighed w ms xs ≤ length xs * b
weighed_le w ms xs b h =
    sum_by_le (weight w ms) b xs (All-weaker (λ x. (l : List ℕ) → w l x.adjusted ≤ b) (λ x. weight w ms x ≤ b) (λ x. here x (activation x)) xs h)
  where
    here : (x : OwnRecord) (t : Bool) → ((l : List ℕ) → w l x.adjusted ≤ b) → cond t (w (upto x.adjusted ms) x.adjusted) 0 ≤ b
    here x true l = l (upto x.adjusted ms)
    here x false l = omega arith

-- counts and sums of times fit their registers
pub weighed_fits : (m : Meaning) (c : Calls) → Admissible m c → (w : List ℕ → ℕ → ℕ) → ((l : List ℕ) (a : ℕ) → w l a ≤ a + 1) → (ms : List ℕ) → weighed w ms c.between < 2 ^ 63
weighed_fits m c a w h ms =
    let b = weighed_le w ms c.between (2 ^ 33) (All-weaker (Fits m c.from) (λ x. (l : List ℕ) → w l x.adjusted ≤ 2 ^ 33) (λ x f l. let k = h l x.adjusted in let n = f.near in let o = a.moment in omega arith) c.between a.each) in
    let few = a.few in
    omega arith

-- over activations from o on and before g, the times up to g and the times from o make up the whole time, once for each
pub distances : (o g : ℕ) (xs : List OwnRecord) → AllByRecursion (λ s. o ≤ s.adjusted) xs
    → total (λ a. ltb a g) (λ a. g - a) xs + total (λ a. ltb a g) (λ a. a - o) xs ≡ count (λ a. ltb a g) xs * (g - o)
distances o g [] h = omega arith
distances o g (s ∷ xs) h =
    let e = distances o g xs h.1 in
    let a = sum_by-cons (λ s. cond (activation s && ltb s.adjusted g) (g - s.adjusted) 0) s xs in
    let b = sum_by-cons (λ s. cond (activation s && ltb s.adjusted g) (s.adjusted - o) 0) s xs in
    let k = sum_by-cons (λ s. cond (activation s && ltb s.adjusted g) 1 0) s xs in
    let d = add-mul 1 (count (λ a. ltb a g) xs) (g - o) in
    let l = h.0 in
    rw (a, b, k) (grind (arith, nat_tests))
