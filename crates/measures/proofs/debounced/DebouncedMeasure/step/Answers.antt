use Rattle.std.proofs.Common.{◌≡◌, true, false, ◌∷◌, sym, refl, ◌∙◌}
use Rattle.std.proofs.lemmas.Bool.{cond-true, cond-false}
use Rattle.measures.specs.Debouncing.{dropped, next, debounced}
use Rattle.measures.specs.Meanings.{MayStep}
use Rattle.measures.proofs.Handing.{may_step_below, debounces_step}
use Rattle.measures.proofs.debounced.DebouncedMeasure.step.Goals as goal

pub returns-then-repeats : goal.returns-then-repeats
returns-then-repeats g c =
    let m = g.M.Measure in
    let s = c.args.self.now.below in
    let q = c.args.self.now.on.mask in
    let u = m.tally s in
    let below = m.meaning (m.settings s) in
    let r : dropped q c.args.own ≡ true = sym c.if-repeats.ensures in
    let after : MayStep (debounced below) (q ∷ u) c.args.own → q ∷ u ≡ next below q u c.args.own = λ h. sym (cond-true (dropped q c.args.own) (q ∷ u) _ r) in
    record { same = refl; after = after; handed = debounces_step below (m.lawful (m.settings s)) q u c.args.own q u after }

pub returns : goal.returns
returns g c =
    let m = g.M.Measure in
    let s = c.args.self.now.below in
    let q = c.args.self.now.on.mask in
    let u = m.tally s in
    let below = m.meaning (m.settings s) in
    let r : dropped q c.args.own ≡ false = sym c.if-repeats.ensures in
    let v = c.after-self.ensures.value in
    let after : MayStep (debounced below) (q ∷ u) c.args.own → c.after-self.result.mask ∷ m.tally c.step.new.self ≡ next below q u c.args.own
    = λ h.
    let e = c.step.ensures.after (may_step_below below (m.lawful (m.settings s)) q u c.args.own r h) in
    (λ i. v i ∷ e i) ∙ sym (cond-false (dropped q c.args.own) (q ∷ u) _ r) in
    record {
      same = c.step.ensures.same;
      after = after;
      handed = debounces_step below (m.lawful (m.settings s)) q u c.args.own c.after-self.result.mask (m.tally c.step.new.self) after;
    }
