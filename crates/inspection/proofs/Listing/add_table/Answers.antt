use Rattle.std.proofs.Common.{Some, None, sym, ◌∙◌, append-nil, arith, rules}
use Rattle.inspection.proofs.Lines.{rows_none, rows_on}
use Rattle.inspection.proofs.Listing.add_table.Goals as goal
use Rattle.inspection.proofs.Listing.add_table.Goals.{in-Some+in_ok-add_row, in_default}

pub loop-channel-init : goal.loop-channel-init
loop-channel-init c =
    let none = rows_none c.args.table.now in
    (rw none.0 (sym (append-nil c.args.self.now)), sym none.1, omega arith)

pub loop-channel-preserved : goal.loop-channel-preserved
loop-channel-preserved c =
    let on = rows_on c.args.table.now c.loop-channel.channel c.args.self.now c.loop-channel.self c.match-lookup.self c.loop-channel.rows c.match-lookup.rows in
    elim c.match-lookup.branch [
      | in-Some+in_ok-add_row w ↦ on (Some w.in-Some.row) (omega arith) (search rules) c.loop-channel.invariant (w.self-is ∙ w.in_ok-add_row.ensures) w.rows-is
      | in_default w ↦ on None (omega arith) (search rules) c.loop-channel.invariant (w.self-is ∙ sym (append-nil c.loop-channel.self)) (omega (arith, w.rows-is))
    ]
