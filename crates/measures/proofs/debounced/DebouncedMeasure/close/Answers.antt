use Rattle.measures.proofs.Handing.{may_close_below, debounced_figures}
use Rattle.measures.proofs.debounced.DebouncedMeasure.close.Goals as goal

pub returns : goal.returns
returns g c =
    let m = g.M.Measure in
    let s = c.args.self.now.below in
    let below = m.meaning (m.settings s) in
    let lawful = m.lawful (m.settings s) in
    let q = c.args.self.now.on.mask in
    let u = m.tally s in
    let e = c.args.moment in
    record {
      figures = λ h. let a = c.close.ensures.figures (may_close_below below lawful q u e h) in record { value = a.value; bound = a.bound };
      whole_cycle = debounced_figures below lawful q u (m.words (m.settings s)) e c.close.result c.close.ensures.figures c.close.ensures.whole_cycle;
    }
