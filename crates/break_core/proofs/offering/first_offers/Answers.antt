use Rattle.std.proofs.Common.{◌+◌, ◌≤◌, length, refl, arith}
use Rattle.std.proofs.lemmas.Option.{slice_get_read}
use Rattle.break_core.specs.Private.Offers.{no_entry}
use Rattle.break_core.proofs.BestEntries.{best_first}
use Rattle.break_core.proofs.Offers.{kind_true}
use Rattle.break_core.proofs.offering.first_offers.Goals as goal

pub returns-then-this-ne0 : goal.returns-then-this-ne0
returns-then-this-ne0 g c = λ none.
    absurd (omega (arith, none, kind_true g.row.COUNTED c.args.params.now.first_lines c.requires.kind c.if-this-ne0.true))

pub returns : goal.returns
returns g c = λ none.
    let table = c.args.table.now in
    let start = c.args.start in
    let e = c.index-table-start.result in
    let few : start + 1 ≤ no_entry = omega (arith, c.requires.start_bounded) in
    best_first table c.args.params.now start e c.offers_before.result (slice_get_read table (length table) start e refl c.requires.start_bounded c.index-table-start.is) few
    c.offers_before.ensures
