use Rattle.std.proofs.Common.{◌≡◌, ◌++◌}
use Rattle.controller_log.specs.Pieces.{pieces}
use Rattle.controller_log.specs.Readers.{yet_to_come, last_number}
use Rattle.inspection.specs.Listing.{log_text}
use Rattle.inspection.proofs.Listing.add_log.Given as goal

abbrev pub invariant-loop-number : goal.invariant-loop-number
invariant-loop-number l =
    (goal.iterator-loop-number).can_next l.number-iterator × (goal.iterator-loop-number).is_finite l.number-iterator × (l.records ≡ last_number l.number-iterator)
    × (l.self ++ log_text l.rows l.records (yet_to_come l.number-iterator) ≡ l.initial.self ++ log_text l.rows 0 (pieces l.log))
