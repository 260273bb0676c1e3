-- What a set of channels holds once it was changed.
use Rattle.std.proofs.Common.{◌≡◌, ℕ, zero, suc, ◌-◌, ◌/◌, ◌%◌, ◌^◌, ◌<◌, ◌≤◌, Bool, true, false, cond, ◌&&◌, ◌||◌, not, eqb, sym, ap, refl, ◌∙◌, subst, ⊎_elim, arith}
use lib.Bits.{bit_and, bit_or, bit_xor}
use Rattle.std.proofs.lemmas.Nat.{and_mask, and_comm, and-not, pow_below, mod_below, pow_pos}
use Rattle.std.proofs.lemmas.Nat.Bits.{bit_at_or, bit_at_xor, bit_at-pow_same, bit_at-pow_other, bit_at-lt, bit_at-zero, and_pow, same_from_bits_below}
use Rattle.std.specs.Int.{bit_at}
use Rattle.std.specs.Int.Bits.{and_zero_r, or_zero_r, xor_add_and}
use Rattle.std.proofs.lemmas.Bool.{true≢false, eq-eqb, ne_eqb, cases_eq, or_parts, or_from}
use Rattle.std.proofs.lemmas.Bool.Decides.{nat_tests}
use Rattle.controller_log.specs.Limits.{channels}
use Rattle.measures.specs.Channels.{channel, bit, holds, entered, removed, one_upto, some_channel}
use Rattle.measures.specs.Records.{activation, of_channel, changed}
use Rattle.measures.specs.declared.own.OwnRecord.{OwnRecord}

-- the bits of a power of two, and of a number with one bit more or less
pow_bit : (i j : ℕ) → bit_at (2 ^ j) i ≡ cond (eqb i j) 1 0
pow_bit i j = grind (arith, nat_tests, bit_at-pow_same, bit_at-pow_other)

bit_of_or : (q i j : ℕ) → bit_at (bit_or q (2 ^ j)) i ≡ cond (eqb i j) 1 (bit_at q i)
bit_of_or q i j = grind (arith, nat_tests, bit_at_or q (2 ^ j) i, pow_bit i j, bit_at-lt q i)

bit_of_xor : (q i j : ℕ) → bit_at (bit_xor q (2 ^ j)) i ≡ cond (eqb i j) (1 - bit_at q i) (bit_at q i)
bit_of_xor q i j = grind (arith, nat_tests, bit_at_xor q (2 ^ j) i, pow_bit i j, bit_at-lt q i)

-- a channel's bit is tested, set and cleared
pub bit_tested : (q c : ℕ) → not (eqb (bit_and q (bit c)) 0) ≡ holds q c
unfolding holds
bit_tested q c =
    let a = and_pow q (c - 1) in
    let p = pow_pos (c - 1) in
    let l = bit_at-lt q (c - 1) in
    let z = and_zero_r q in
    grind (arith, nat_tests)

pub bit_set : (q c : ℕ) → bit_or q (bit c) ≡ entered q c
unfolding entered
bit_set q c = elim (channel c) as (λ v. bit_or q (cond v (2 ^ (c - 1)) 0) ≡ cond v (bit_or q (2 ^ (c - 1))) q) [ true ↦ refl | false ↦ or_zero_r q ]

pub bit_cleared : (q c : ℕ) → q < 2 ^ 64 → bit_and q (2 ^ 64 - 1 - bit c) ≡ removed q c
unfolding holds removed
bit_cleared q c l = by (channel c) refl (holds q c) refl
  where
    by : (v : Bool) → channel c ≡ v → (h : Bool) → holds q c ≡ h → bit_and q (2 ^ 64 - 1 - cond v (2 ^ (c - 1)) 0) ≡ cond h (bit_xor q (2 ^ (c - 1))) q
    by true e true k =
        let b : bit_at q (c - 1) ≡ 1 = grind (arith, nat_tests) in
        let a : bit_and q (2 ^ (c - 1)) ≡ 2 ^ (c - 1) = rw (and_pow q (c - 1), b) (omega arith) in
        let p : 2 ^ (c - 1) < 2 ^ 64 = pow_below (c - 1) 64 (grind (arith, nat_tests)) in
        omega (arith, a, and-not 64 (2 ^ (c - 1)) q p l, and_comm q (2 ^ 64 - 1 - 2 ^ (c - 1)), and_comm (2 ^ (c - 1)) q, xor_add_and q (2 ^ (c - 1)))
    by true e false k =
        let b : bit_at q (c - 1) ≡ 0 = (let t = bit_at-lt q (c - 1) in grind (arith, nat_tests)) in
        let a : bit_and q (2 ^ (c - 1)) ≡ 0 = rw (and_pow q (c - 1), b) (omega arith) in
        let p : 2 ^ (c - 1) < 2 ^ 64 = pow_below (c - 1) 64 (grind (arith, nat_tests)) in
        omega (arith, a, and-not 64 (2 ^ (c - 1)) q p l, and_comm q (2 ^ 64 - 1 - 2 ^ (c - 1)), and_comm (2 ^ (c - 1)) q)
    by false e true k = absurd (grind (arith, nat_tests))
    by false e false k = and_mask q 64 ∙ omega arith

-- a channel that enters is in the set, and the others stay
pub holds_entered : (q c d : ℕ) → channel d ≡ true → holds (entered q c) d ≡ (eqb c d || holds q d)
unfolding holds entered
holds_entered q c d h =
    let b = bit_of_or q (d - 1) (c - 1) in
    elim (channel c) as (λ v. channel c ≡ v → channel d && eqb (cond v (bit_or q (2 ^ (c - 1))) q / 2 ^ (d - 1) % 2) 1 ≡ (eqb c d || holds q d))
    [ true ↦ λ e. rw b (grind (arith, nat_tests)) | false ↦ λ e. grind (arith, nat_tests) ] refl

-- a channel that is removed is not in the set, and the others stay
own : (q d : ℕ) → holds (removed q d) d ≡ false
unfolding holds removed
own q d =
    let b = bit_of_xor q (d - 1) (d - 1) in
    let m = mod_below (q / 2 ^ (d - 1)) 2 (omega arith) in
    elim (holds q d) as (λ v. holds q d ≡ v → channel d && eqb (cond v (bit_xor q (2 ^ (d - 1))) q / 2 ^ (d - 1) % 2) 1 ≡ false)
    [ true ↦ λ e. rw b (grind (arith, nat_tests)) | false ↦ λ e. e ] refl

other : (q c d : ℕ) → (c ≡ d → ⊥) → holds (removed q c) d ≡ holds q d
unfolding holds removed
other q c d n =
    let b = bit_of_xor q (d - 1) (c - 1) in
    elim (holds q c) as (λ v. holds q c ≡ v → channel d && eqb (cond v (bit_xor q (2 ^ (c - 1))) q / 2 ^ (d - 1) % 2) 1 ≡ holds q d)
    [ true ↦ λ e. rw b (grind (arith, nat_tests)) | false ↦ λ e. refl ] refl

pub holds_removed : (q c d : ℕ) → holds (removed q c) d ≡ cond (eqb c d) false (holds q d)
holds_removed q c d =
    ⊎_elim
    (λ (e : c ≡ d). rw (eq-eqb c d e) (subst (λ x. holds (removed q x) d ≡ false) (sym e) (own q d)))
    (λ (n : c ≡ d → ⊥). rw (ne_eqb c d n) (other q c d n))
    (cases_eq c d)

pub holds_changed : (q : ℕ) (s : OwnRecord) (d : ℕ) → channel d ≡ true → holds (changed q s) d ≡ cond (of_channel d s) (activation s) (holds q d)
holds_changed q s d h =
    let e = holds_entered q s.parameter d h in
    let r = holds_removed q s.parameter d in
    grind (arith, nat_tests)

pub holds_none : (d : ℕ) → holds 0 d ≡ false
unfolding holds
holds_none d = rw (bit_at-zero (d - 1)) (grind (arith, nat_tests))

none_upto : (p : ℕ → Bool) (n : ℕ) → one_upto p n ≡ false → (i : ℕ) → i < n → p (suc i) ≡ false
none_upto p zero e i l = absurd (omega arith)
none_upto p (suc n) e i l =
    let h = or_parts (p (suc n)) (one_upto p n) e in
    ⊎_elim (λ (q : i ≡ n). subst (λ k. p (suc k) ≡ false) (sym q) h.0) (λ (q : i ≡ n → ⊥). none_upto p n h.1 i (omega arith)) (cases_eq i n)

all_none : (p : ℕ → Bool) (n : ℕ) → ((i : ℕ) → p i ≡ false) → one_upto p n ≡ false
all_none p zero h = refl
all_none p (suc n) h = or_from (p (suc n)) (one_upto p n) (h (suc n)) (all_none p n h)

-- the empty set, and no other, holds no channel
pub some_of_none : some_channel (holds 0) ≡ false
unfolding some_channel
some_of_none = all_none (holds 0) channels holds_none

pub none_of_some : (q : ℕ) → q < 2 ^ 64 → some_channel (holds q) ≡ false → q ≡ 0
unfolding some_channel holds
none_of_some q l e =
    same_from_bits_below 64 q 0 l (omega arith) (λ i k.
    let n = none_upto (holds q) channels e i k in
    let m = bit_at-lt q i in
    let s : suc i - 1 ≡ i = omega arith in
    let h : channel (suc i) && eqb (bit_at q i) 1 ≡ false = subst (λ j. channel (suc i) && eqb (bit_at q j) 1 ≡ false) s n in
    let b : bit_at q i ≡ 0 = grind (arith, nat_tests) in
    b ∙ sym (bit_at-zero i))

pub empty_is_none : (q : ℕ) → q < 2 ^ 64 → eqb q 0 ≡ not (some_channel (holds q))
empty_is_none q l = by (some_channel (holds q)) refl
  where
    by : (b : Bool) → some_channel (holds q) ≡ b → eqb q 0 ≡ not b
    by true e = ne_eqb q 0 (λ z. let t = sym e ∙ ap (λ k. some_channel (holds k)) z ∙ some_of_none in absurd (true≢false t))
    by false e = eq-eqb q 0 (none_of_some q l e)

-- tests that agree on channels
one_same : (p r : ℕ → Bool) (n : ℕ) → ((i : ℕ) → 1 ≤ i → i ≤ n → p i ≡ r i) → one_upto p n ≡ one_upto r n
one_same p r zero h = refl
one_same p r (suc n) h =
    let a = h (suc n) (omega arith) (omega arith) in
    let b = one_same p r n (λ i l k. h i l (omega arith)) in
    rw (a, b)

pub some_same : (p r : ℕ → Bool) → ((d : ℕ) → channel d ≡ true → p d ≡ r d) → some_channel p ≡ some_channel r
unfolding some_channel
some_same p r h = one_same p r channels (λ i l k. h i (grind (arith, nat_tests)))
