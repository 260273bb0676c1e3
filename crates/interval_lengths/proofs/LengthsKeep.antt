-- The moments that the tally keeps are those of the further codes.
use Rattle.std.proofs.Common.{◌≡◌, ℕ, cond, eqb, List, [], ◌∷◌, ◌++◌, sym, refl, ap, ◌∙◌}
use Rattle.std.proofs.lemmas.List.Sums.{fold_push}
use Rattle.interval_lengths.specs.IntervalLengths.{interval_lengths, lengths_lawful, Lengths, yellow_at, clearance_at, red_at}
use Rattle.measures.specs.Meanings.{Calls, ◌▹◌, tallied, Admissible, Whole}
use Rattle.measures.specs.Records.{moment_of}
use Rattle.measures.specs.declared.own.OwnRecord.{OwnRecord}
use Rattle.measures.proofs.Along.{along}
use Rattle.measures.proofs.Marks.{in_order}

abbrev moments : Calls → List ℕ
moments c = c.from ∷ yellow_at c ∷ clearance_at c ∷ red_at c ∷ []

moments_push : (c : Calls) (s : OwnRecord) → interval_lengths.stepped (moments c) s ≡ moments (c ▹ s)
moments_push c s =
    let met : (k : ℕ) → cond (eqb s.code k) s.adjusted (moment_of k c.between) ≡ moment_of k (c.between ++ s ∷ [])
    = λ k. sym (fold_push (λ a s. cond (eqb s.code k) s.adjusted a) 0 c.between s) in
    λ i. c.from ∷ met 8 i ∷ met 9 i ∷ met 11 i ∷ []

keeps : (c : Calls) → Admissible interval_lengths c → tallied interval_lengths c ≡ moments c
keeps = along interval_lengths (λ c t. t ≡ moments c) (λ o q a. refl) (λ c s t a n h. ap (λ t. interval_lengths.stepped t s) h ∙ moments_push c s)

pub lengths_of_cycle : (c : Calls) (e : ℕ) → Whole interval_lengths c e → Lengths c e (interval_lengths.closed (tallied interval_lengths c) e)
lengths_of_cycle c e w =
    let r = in_order interval_lengths lengths_lawful c e w in
    record {
      green_first = r.0;
      yellow_next = r.1.0;
      clearance_next = r.1.1.0;
      red_last = r.1.1.1;
      figures_are = ap (λ t. interval_lengths.closed t e) (keeps c w.admissible);
    }
