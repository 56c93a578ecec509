use Rattle.std.proofs.Common.{◌≡◌, ◌∙◌, ◌++◌, ap, sym, arith}
use Rattle.break_lines.specs.Tables.{row_entries}
use Rattle.break_core.specs.Private.Offers.{shown_from}
use Rattle.break_core.proofs.Offers.{row_uncounted}
use Rattle.break_core.proofs.row.move_row.Goals as goal

pub returns-clause-table : goal.returns-clause-table
returns-clause-table c =
    let none : c.args.cut ≡ 0 = omega (arith, c.if-cut-gt0.false) in
    let table = c.args.table.now.items in
    c.move_offers.ensures
    ∙ ap (λ t. t ++ row_entries (shown_from t c.args.place 0 c.args.row.now.offers)) c.reserve.ensures.items
    ∙ ap (λ r. table ++ row_entries r) (sym (row_uncounted c.args.cut table c.args.place c.args.row.now none))
