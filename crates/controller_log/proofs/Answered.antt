-- A closure that answers by a function, called along an iterator until it answers a value.
use Rattle.std.proofs.Common.{◌≡◌, ℕ, ◌+◌, ◌<◌, List, length, get_or, Some, None, Option, MatchOption, IfSome, sym, ap, ◌∙◌, arith}
use Rattle.std.specs.Bool.{IsTrue}
use Rattle.std.specs.Borrow.{Bor}
use Rattle.std.specs.Iterator.Runs.{Run, ItemsMapTo, AllItemsGive, IsFirstToGive}
use Rattle.std.specs.Option.{option_map, IsSomeAnd}
use denote.Param.Members.{Mut, Called}

-- a place of a run, by what is known of the item there
item_given : {X : Type 0} (o : Option (Bor X)) (v : X) (P : Bor X → Type 0) → option_map (λ y. y.now) o ≡ Some v → IfSome o P → (x : Bor X) × (x.now ≡ v) × P x
item_given None v P e i = absurd (grind arith)
item_given (Some x) v P e i = (x, (grind arith), i)

item_found : {X : Type 0} (o : Option (Bor X)) (v : X) (P : Bor X → Type 0) → option_map (λ y. y.now) o ≡ Some v → IsSomeAnd o P → (x : Bor X) × (x.now ≡ v) × P x
item_found None v P e i = absurd i
item_found (Some x) v P e i = (x, (grind arith), i)

-- the first answer along a slice, and that each place before it answers none
pub record FirstAnswer {A B : Type 0} (h : A → Option B) (xs : List A) (k : ℕ) (y : B) : Type 0 where
  pub inside : k < length xs
  pub here : (d : A) → h (get_or xs k d) ≡ Some y
  pub before : (j : ℕ) (d : A) → j < k → h (get_or xs j d) ≡ None

module _ {S F A B : Type 0} {steps : S → Option (Bor A) → S → Type 0} (g : Mut F (Bor A × Unit {0}) (Option B)) (f : F) (h : A → Option B) (answers : (x : Bor A) (y : Option B) (q : F) → Called g f (x, tt) y q → (q ≡ f) × (y ≡ h x.now)) where
  pub first_answered : (p : Run steps) (xs : List A) (r : Option B) → ItemsMapTo p (λ y. y.now) xs
      → MatchOption r (IsTrue p.whole × AllItemsGive p g f None) (λ y. (i : ℕ) × (i < p.len) × (p.len ≡ i + 1) × IsFirstToGive p g f (Some y) None i)
      → MatchOption r ((j : ℕ) (d : A) → j < length xs → h (get_or xs j d) ≡ None) (λ y. (k : ℕ) × FirstAnswer h xs k y)
  first_answered p xs None items m =
      λ j d l.
      let whole = items.1 m.0 in
      let x = item_given (p.at j) (get_or xs j d) _ (items.2 j d (omega (arith, whole, l))) (m.1 (λ a r q c. (answers a.0 r q c).0) j) in
      ap h (sym x.1) ∙ sym (answers x.0 None f x.2).1
  first_answered p xs (Some y) items (i, short, last, first) =
      let called = first (λ a r q c. (answers a.0 r q c).0) in (
        i,
        record {
          inside = (let e = items.0 in omega arith);
          here = λ d. let x = item_found (p.at i) (get_or xs i d) _ (items.2 i d short) called.0 in ap h (sym x.1) ∙ sym (answers x.0 (Some y) f x.2).1;
          before = λ j d l. let x = item_found (p.at j) (get_or xs j d) _ (items.2 j d (omega arith)) (called.1 j l) in ap h (sym x.1) ∙ sym (answers x.0 None f x.2).1;
        },
      )
