use Rattle.break_core.proofs.Stopping.{row_left_out, row_unless_left_out}
use Rattle.break_core.proofs.offering.offer_counted.Goals as goal

pub returns-then-left_out-clause-row : goal.returns-then-left_out-clause-row
returns-then-left_out-clause-row c =
    let at = c.args.at.now in
    let params = at.rules.now.params.now in
    row_left_out c.args.left_out at.table.now params at.rules.now.bound c.args.group at.place at.penalty c.args.line.now
    c.args.row.now.items c.if-left_out.true c.requires.can.rises c.requires.can.entries

pub returns-then-left_out-clause-wide : goal.returns-then-left_out-clause-wide
returns-then-left_out-clause-wide c = c.requires.can.wide

pub returns-clause-row : goal.returns-clause-row
returns-clause-row c =
    let at = c.args.at.now in
    let params = at.rules.now.params.now in
    row_unless_left_out c.args.left_out at.table.now params at.rules.now.bound c.args.group at.place at.penalty c.args.line.now c.args.row.now.items
    c.offer_each.new.row.items c.if-left_out.false c.offer_each.ensures.row
