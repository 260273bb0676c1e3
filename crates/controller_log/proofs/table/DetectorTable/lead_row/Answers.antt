use Rattle.std.proofs.Common.{◌<◌, ℕ, length, get_or, Option, None, MatchOption, ◌≡◌, ap, subst, ◌∙◌, rules}
use Rattle.std.specs.Iterator.Runs.{ItemsMapTo}
use Rattle.std.specs.Slice.Iter.{iter_rest}
use Rattle.controller_log.specs.LeadRows.{if_named}
use Rattle.controller_log.specs.declared.detector.DetectorRow.{DetectorRow}
use Rattle.controller_log.proofs.Answered.{FirstAnswer, first_answered}
use Rattle.controller_log.proofs.Leads.{first_found, lowest}
use Rattle.controller_log.proofs.table.DetectorTable.lead_row.Goals as goal

-- what `find_map` found: at no place an answer, or the first place with one
found : (c : goal.After-find_map)
    → MatchOption c.find_map.result ((j : ℕ) (d : Option DetectorRow) → j < length c.args.self.now.places → if_named c.args.wanted (get_or c.args.self.now.places j d) ≡ None)
    (λ y. (k : ℕ) × FirstAnswer (if_named c.args.wanted) c.args.self.now.places k y)
found c =
    let run = c.find_map.ensures.runs in
    let items = subst (ItemsMapTo run.0 (λ y. y.now)) (ap iter_rest run.1 ∙ c.iter.ensures.rest) (c.iter.ensures.runs run.0 run.0.seen) in
    first_answered _ _ (if_named c.args.wanted) (λ x y q k. search rules) run.0 c.args.self.now.places c.find_map.result items run.2

pub returns-clause-value : goal.returns-clause-value
returns-clause-value c = first_found (if_named c.args.wanted) c.args.self.now.places c.find_map.result (found c)

pub returns-clause-lowest : goal.returns-clause-lowest
returns-clause-lowest c = lowest c.args.wanted c.args.self.now.places c.find_map.result (found c)
