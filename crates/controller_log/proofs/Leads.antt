-- The places of a table gone through one after another.
use Rattle.std.proofs.Common.{◌≡◌, ℕ, zero, suc, ◌<◌, true, false, cond, List, [], ◌∷◌, map, length, get_or, MatchOption, Some, None, Option, sym, refl, ap, ◌∙◌, subst, arith}
use Rattle.std.proofs.lemmas.Option.{cond_some}
use Rattle.controller_log.specs.Detectors.{names}
use Rattle.controller_log.specs.LeadRows.{if_named, first_row, Lowest}
use Rattle.controller_log.specs.declared.detector.DetectorRow.{DetectorRow}
use Rattle.controller_log.specs.declared.detector.Wanted.{Wanted}
use Rattle.controller_log.proofs.Answered.{FirstAnswer}

-- the first row that f leaves, from what f answers at each place
pub first_none : (f : Option DetectorRow → Option DetectorRow) (places : List (Option DetectorRow)) → ((j : ℕ) (d : Option DetectorRow) → j < length places → f (get_or places j d) ≡ None) → first_row (map f places) ≡ None
first_none f [] none = refl
first_none f (place ∷ places) none =
    ap (λ r. first_row (r ∷ map f places)) (none 0 None (omega arith)) ∙ first_none f places (λ j d l. none (suc j) d (omega arith))

pub first_some : (f : Option DetectorRow → Option DetectorRow) (places : List (Option DetectorRow)) (k : ℕ) (y : DetectorRow) → FirstAnswer f places k y → first_row (map f places) ≡ Some y
first_some f [] k y a = absurd (let l = a.inside in omega arith)
first_some f (place ∷ places) zero y a = ap (λ r. first_row (r ∷ map f places)) (a.here None)
first_some f (place ∷ places) (suc k) y a =
    ap (λ r. first_row (r ∷ map f places)) (a.before 0 None (omega arith))
    ∙ first_some f places k y (record { inside = (let l = a.inside in omega arith); here = λ d. a.here d; before = λ j d l. a.before (suc j) d (omega arith) })

pub first_found : (f : Option DetectorRow → Option DetectorRow) (places : List (Option DetectorRow)) (r : Option DetectorRow)
    → MatchOption r ((j : ℕ) (d : Option DetectorRow) → j < length places → f (get_or places j d) ≡ None) (λ y. (k : ℕ) × FirstAnswer f places k y) → r ≡ first_row (map f places)
first_found f places None none = sym (first_none f places none)
first_found f places (Some y) (k, a) = sym (first_some f places k y a)

named_some : (wanted : Wanted) (place : Option DetectorRow) (d : DetectorRow) → if_named wanted place ≡ Some d → (place ≡ Some d) × (names wanted d ≡ true)
named_some wanted None d e = absurd (grind arith)
named_some wanted (Some c) d e = let k = cond_some (names wanted c) c d e in (ap Some k.1, subst (λ x. names wanted x ≡ true) k.1 k.0)

named_none : (wanted : Wanted) (d : DetectorRow) → if_named wanted (Some d) ≡ None → names wanted d ≡ false
named_none wanted d = elim (names wanted d) as (λ b. cond b (Some d) None ≡ None → b ≡ false) [ true ↦ λ e. absurd (grind arith) | false ↦ λ e. refl ]

-- the row that is found first stands at the lowest place that is wanted
pub lowest : (wanted : Wanted) (places : List (Option DetectorRow)) (r : Option DetectorRow)
    → MatchOption r ((j : ℕ) (d : Option DetectorRow) → j < length places → if_named wanted (get_or places j d) ≡ None) (λ y. (k : ℕ) × FirstAnswer (if_named wanted) places k y)
    → Lowest wanted places r
lowest wanted places None none = λ j d l e. named_none wanted d (ap (if_named wanted) (sym e) ∙ none j None l)
lowest wanted places (Some d) (k, a) =
    let here = named_some wanted (get_or places k None) d (a.here None) in
    (k, here.0, here.1, λ j c l e. named_none wanted c (ap (if_named wanted) (sym e) ∙ a.before j None l))
