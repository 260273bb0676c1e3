use Rattle.std.proofs.Common.{◌≡◌, get_or, take, sym, refl, ap, ◌∙◌, subst}
use Rattle.std.proofs.lemmas.List.{take_all}
use Rattle.measures.specs.Meanings.{Admissible, Whole, MayStep, MayClose, Answers, calls, tallied}
use Rattle.measures.specs.declared.own.OwnRecord.{OwnRecord}
use Rattle.measures.proofs.Along.{stepped_on}
use Rattle.measures.proofs.Marks.{of_answer}
use Rattle.measures.proofs.cycle.figures_of_cycle.Goals as goal

pub loop-own-preserved : goal.loop-own-preserved
loop-own-preserved g c =
    let m = g.M.Measure in
    let xs = c.args.between.now in
    let same = c.loop-own.invariant.0 in
    let means = ap m.meaning same in
    let nothing : OwnRecord = record { code = 0; parameter = 0; adjusted = 0 } in
    let own = get_or xs c.loop-own.own-index nothing in
    let step : MayStep (m.meaning (m.settings c.open.new.self)) (m.tally c.loop-own.measure) own → m.tally c.step.new.self ≡ (m.meaning (m.settings c.open.new.self)).stepped (m.tally c.loop-own.measure) own
    = subst (λ n. MayStep n (m.tally c.loop-own.measure) own → m.tally c.step.new.self ≡ n.stepped (m.tally c.loop-own.measure) own) means c.step.ensures.after in (
      c.step.ensures.same ∙ same,
      λ q e. stepped_on (m.meaning (m.settings c.open.new.self)) c.args.opened q xs c.loop-own.own-index nothing (m.tally c.loop-own.measure) (m.tally c.step.new.self) c.loop-own-test.true
          (c.loop-own.invariant.1 q e) step,
    )

pub returns : goal.returns
returns g c =
    let m = g.M.Measure in
    let xs = c.args.between.now in
    let o = c.args.opened in
    let q = c.args.occupied.mask in
    let t = m.tally c.loop-own.measure in
    let n = m.meaning (m.settings c.args.measure.now) in
    let opened-same = c.open.ensures.same in
    let same = c.loop-own.invariant.0 ∙ opened-same in
    let all : take c.loop-own.own-index xs ≡ xs = take_all c.loop-own.own-index xs c.loop-own-test.false in
    let leads : Admissible n (calls o q xs) → t ≡ tallied n (calls o q xs)
    = subst (λ k. Admissible (m.meaning k) (calls o q xs) → t ≡ tallied (m.meaning k) (calls o q xs)) opened-same
    (subst (λ ys. Admissible (m.meaning (m.settings c.open.new.self)) (calls o q ys) → t ≡ tallied (m.meaning (m.settings c.open.new.self)) (calls o q ys)) all
    (c.loop-own.invariant.1 q (subst (λ k. m.tally c.open.new.self ≡ (m.meaning k).opened o q) (sym opened-same) c.open.ensures.after))) in
    let answers : MayClose n t c.args.closed → Answers n t c.args.closed c.close.result
    = subst (λ k. MayClose (m.meaning k) t c.args.closed → Answers (m.meaning k) t c.args.closed c.close.result) same c.close.ensures.figures in
    record {
      same = same;
      figures = λ w. of_answer n (calls o q xs) c.args.closed w t c.close.result (λ r. r ≡ n.closed (tallied n (calls o q xs)) c.args.closed) answers (leads w.admissible) refl;
      words = λ w.
          subst (λ k. Whole (m.meaning k) (calls o q xs) c.args.closed → t ≡ tallied (m.meaning k) (calls o q xs) → m.words k (calls o q xs) c.args.closed c.close.result) same
          (c.close.ensures.whole_cycle (calls o q xs)) w (leads w.admissible);
    }
