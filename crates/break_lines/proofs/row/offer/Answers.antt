use Rattle.std.proofs.Common.{◌≡◌, ◌∙◌, ◌+◌, Some, None, ap, sym, subst}
use Rattle.break_lines.specs.Tables.{extended_entry, offer, IsRow}
use Rattle.break_lines.proofs.Reached.{offer_is}
use Rattle.break_lines.proofs.Rows.{row_none, row_step}
use Rattle.break_lines.proofs.row.offer.Goals as goal

pub returns-in_default-clause-row : goal.returns-in_default-clause-row
returns-in_default-clause-row c = λ p table cut present late line is.
    row_none p table c.args.place c.args.index c.args.entry c.args.row.now.items present
    (offer_is p c.args.entry c.args.index c.args.place None late (line ∙ c.in_default.is)) is

pub returns-clause-row : goal.returns-clause-row
returns-clause-row c = λ p table cut present late line is.
    let o = c.with_line.result in
    let e = c.args.entry in
    let put = c.put.ensures.put in
    let offers : offer p e c.args.index c.args.place ≡ Some o =
    offer_is p e c.args.index c.args.place (Some c.in-Some.line) late (line ∙ c.in-Some.is)
    ∙ ap Some (ap (λ n. extended_entry n e c.args.index c.args.place c.in-Some.line) cut ∙ sym c.with_line.ensures) in
    subst (IsRow p table c.args.place (c.args.index + 1)) (sym put.is)
    (row_step p table c.args.place c.args.index e o put.kept put.held c.args.row.now.items present offers put.was_present put.is_kept is)
