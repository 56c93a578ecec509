use Rattle.std.proofs.Common.{◌≡◌, ◌∙◌, ◌≤◌, to_z, of_z, w32, length, refl, ap, sym, subst, arith}
use Rattle.std.specs.Prelude.{nat_lt, if◌then◌else◌}
use Rattle.std.proofs.lemmas.Int.{ints}
use Rattle.std.proofs.lemmas.Option.{slice_get_read}
use Rattle.break_lines.specs.Ways.{last_forced_below}
use Rattle.break_lines.specs.Tables.{slots}
use Rattle.break_lines.specs.Costs.{admitted_line, after_class}
use Rattle.break_lines.proofs.Parts.{alone_is}
use Rattle.break_lines.specs.Sizes.{fit_after}
use Rattle.break_core.specs.Private.Filling.{IsOffering}
use Rattle.break_core.proofs.Filled.{none_offered}
use Rattle.break_core.proofs.offering.offer_each.Goals as goal

pub loop-index-init : goal.loop-index-init
loop-index-init c = record { low = omega arith; wide = c.requires.can.wide; row = λ p cut late line_fit is. is }

pub offer-requires-clause-wide : goal.offer-requires-clause-wide
offer-requires-clause-wide c = c.loop-index.invariant.wide ∙ ap slots (sym c.get-cut.ensures.value)

pub offer-requires-clause-counted : goal.offer-requires-clause-counted
offer-requires-clause-counted c =
    let table = c.args.at.now.table.now in
    let e = c.index-table-index.result in
    let present = slice_get_read table (length table) c.loop-index.index e refl (omega (arith, c.requires.can.within)) c.index-table-index.is in
    subst (λ n. e.end.lines ≤ n) (sym c.get-cut.ensures.value)
    (c.requires.can.entries c.loop-index.index e c.loop-index.invariant.low c.loop-index-test.true present).1

pub offer-requires-clause-later : goal.offer-requires-clause-later
offer-requires-clause-later c =
    let table = c.args.at.now.table.now in
    let e = c.index-table-index.result in
    let present = slice_get_read table (length table) c.loop-index.index e refl (omega (arith, c.requires.can.within)) c.index-table-index.is in
    omega (arith, (c.requires.can.entries c.loop-index.index e c.loop-index.invariant.low c.loop-index-test.true present).0, c.requires.can.earlier)

pub loop-index-preserved : goal.loop-index-preserved
loop-index-preserved c =
    let table = c.args.at.now.table.now in
    let e = c.index-table-index.result in
    let present = slice_get_read table (length table) c.loop-index.index e refl (omega (arith, c.requires.can.within)) c.index-table-index.is in
    let place = (c.requires.can.entries c.loop-index.index e c.loop-index.invariant.low c.loop-index-test.true present).0 in
    let penalty : to_z w32 (of_z w32 c.args.at.now.penalty) ≡ c.args.at.now.penalty = omega (arith, ints) in
    let p = to_z w32 (of_z w32 c.args.at.now.penalty) in
    let rules = c.args.at.now.rules.now in
    let costs = c.alone-costs.result in
    let line = c.after-offered.ensures.value
    ∙ ap (λ s. after_class rules.params.now s.class (if nat_lt s.lines rules.params.now.first_lines then costs.first else costs.rest)) c.end-end.ensures.end
    ∙ alone_is rules.params.now rules.bound p c.args.line.now costs.first costs.rest e.end.lines e.end.class c.alone-costs.ensures.first c.alone-costs.ensures.later_lines
    ∙ ap (λ x. admitted_line rules.params.now rules.bound x e.end.class (fit_after rules.params.now.first_lines e.end.lines c.args.line.now)) penalty in
    record {
      low = omega (arith, c.loop-index.invariant.low);
      wide = c.offer.ensures.wide ∙ ap slots c.get-cut.ensures.value;
      row = λ p cut late line_fit is.
          c.offer.ensures.row p table (cut ∙ sym c.get-cut.ensures.value) present
          (subst (λ x. last_forced_below p c.args.at.now.place ≤ x) (sym place) late) (line_fit e.end place ∙ sym line)
          (c.loop-index.invariant.row p cut late line_fit is);
    }

pub returns-clause-row : goal.returns-clause-row
returns-clause-row c =
    let end : c.loop-index.index ≡ c.args.group.end = omega (arith, c.loop-index-test.false, c.requires.can.rises, c.loop-index.auto) in
    subst (λ n. IsOffering c.args.at.now.table.now c.args.at.now.rules.now.params.now c.args.at.now.rules.now.bound c.args.group c.args.at.now.place c.args.at.now.penalty c.args.line.now c.args.group.start n c.args.row.now.items c.loop-index.row.items)
    end c.loop-index.invariant.row

pub returns-clause-wide : goal.returns-clause-wide
returns-clause-wide c = c.loop-index.invariant.wide

pub returns-then-is_none-clause-row : goal.returns-then-is_none-clause-row
returns-then-is_none-clause-row c =
    let rules = c.args.at.now.rules.now in
    let penalty : to_z w32 (of_z w32 c.args.at.now.penalty) ≡ c.args.at.now.penalty = omega (arith, ints) in
    let none = c.is_none.ensures.never_admitted c.if-is_none.true in
    subst (λ x. IsOffering c.args.at.now.table.now rules.params.now rules.bound c.args.group c.args.at.now.place x c.args.line.now c.args.group.start c.args.group.end c.args.row.now.items c.args.row.now.items)
    penalty
    (none_offered c.args.at.now.table.now rules.params.now rules.bound c.args.group c.args.at.now.place (to_z w32 (of_z w32 c.args.at.now.penalty))
    c.args.line.now c.alone-costs.result.first c.alone-costs.result.rest c.args.row.now.items c.requires.can.rises c.requires.can.entries
    c.alone-costs.ensures.first c.alone-costs.ensures.later_lines none.0 none.1)

pub alone-costs-requires-clause-penalty : goal.alone-costs-requires-clause-penalty
alone-costs-requires-clause-penalty c = omega (arith, ints, c.requires.can.penalty_bounded)

pub offer-requires-clause-places : goal.offer-requires-clause-places
offer-requires-clause-places c = c.requires.can.places
