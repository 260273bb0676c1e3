use Rattle.std.proofs.Common.{refl, rules}
use Rattle.measures.specs.RedLight.{red_light, RedLightFigures}
use Rattle.measures.proofs.Marks.{of_answer}
use Rattle.measures.proofs.RedLightKeep.{figures_of_cycle, room_to_close}
use Rattle.measures.proofs.red_light.RedLightMeasure.close.Goals as goal

pub returns-clause-figures : goal.returns-clause-figures
returns-clause-figures c h = let r = room_to_close _ _ _ h in record { value = refl; bound = search (rules, r) }

pub returns-clause-whole_cycle : goal.returns-clause-whole_cycle
returns-clause-whole_cycle c d w e =
    let S = c.args.self.now.severity.tenths in
    of_answer (red_light S) d c.args.moment w _ _ (RedLightFigures S d c.args.moment) (returns-clause-figures c) e (figures_of_cycle S d c.args.moment w)
