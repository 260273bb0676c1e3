use Rattle.std.proofs.Common.{◌≡◌, ◌++◌, map, take, drop}
use Rattle.controller_log.specs.LeadRows.{if_named}
use Rattle.controller_log.proofs.table.keep_named.Given as goal

abbrev pub invariant-loop-place : goal.invariant-loop-place
invariant-loop-place l = l.places ≡ map (if_named l.wanted) (take l.place-index l.initial.places) ++ drop l.place-index l.initial.places
