use Rattle.std.proofs.Common.{◌≡◌, ◌-◌, ◌≤◌, ◌++◌}
use Rattle.inspection.specs.Listing.{rows_text, rows_count}
use Rattle.inspection.proofs.Listing.add_table.Given as goal

abbrev pub invariant-loop-channel : goal.invariant-loop-channel
invariant-loop-channel l =
    (l.self ≡ l.initial.self ++ rows_text l.table (l.channel - 1)) × (l.rows ≡ rows_count l.table (l.channel - 1)) × (l.rows ≤ l.channel - 1)
