use Rattle.std.proofs.Common.{◌≡◌, ◌∙◌, ◌<◌, ◌++◌, [], ◌∷◌, to_z, of_z, w64, length, refl, ap, sym, subst, arith}
use Rattle.std.proofs.lemmas.Int.{ints}
use Rattle.std.proofs.lemmas.Option.{same_Some, slice_get_read, slice_get_within}
use Rattle.break_lines.specs.Tables.{IsSmallLine}
use Rattle.break_lines.specs.Totals.{line_of_totals, entry_with_totals}
use Rattle.break_core.specs.Private.Offers.{totals_of}
use Rattle.break_core.proofs.Offers.{offer_real, moved_some}
use Rattle.break_core.proofs.row.move_offer.Goals as goal

pub with_totals-requires-clause-line_bounded : goal.with_totals-requires-clause-line_bounded
with_totals-requires-clause-line_bounded c =
    let table = c.args.table.now.items in
    let held = c.args.held in
    let class = c.args.class in
    let is = offer_real table c.args.place class held c.requires.held c.if-held-eq-NO_ENTRY.false in
    let within : held.index < length table = slice_get_within table held.index is.before is.present in
    let e = c.index-before.result.now in
    let same = same_Some is.before e (sym is.present ∙ slice_get_read table (length table) held.index e refl within c.index-before.ensures) in
    let overhang : to_z w64 (of_z w64 held.overhang) ≡ held.overhang = omega (arith, ints) in
    let demerits : to_z w64 (of_z w64 held.demerits) ≡ held.demerits = omega (arith, ints) in
    subst (λ x. IsSmallLine (line_of_totals e (record { class = class; overhang = x; demerits = to_z w64 (of_z w64 held.demerits) }))) (sym overhang)
    (subst (λ x. IsSmallLine (line_of_totals e (record { class = class; overhang = held.overhang; demerits = x }))) (sym demerits)
    (subst (λ x. IsSmallLine (line_of_totals x (totals_of class held))) same is.small))

pub returns-clause-table : goal.returns-clause-table
returns-clause-table c =
    let table = c.args.table.now.items in
    let held = c.args.held in
    let class = c.args.class in
    let place = c.args.place in
    let is = offer_real table place class held c.requires.held c.if-held-eq-NO_ENTRY.false in
    let within : held.index < length table = slice_get_within table held.index is.before is.present in
    let e = c.index-before.result.now in
    let overhang : to_z w64 (of_z w64 held.overhang) ≡ held.overhang = omega (arith, ints) in
    let demerits : to_z w64 (of_z w64 held.demerits) ≡ held.demerits = omega (arith, ints) in
    moved_some table c.push_reserved.new.self.items place class held e is.real
    (slice_get_read table (length table) held.index e refl within c.index-before.ensures)
    (c.push_reserved.ensures.items
    ∙ ap (λ x. table ++ x ∷ []) (c.with_totals.ensures
    ∙ ap (λ x. entry_with_totals e held.index place (record { class = class; overhang = x; demerits = to_z w64 (of_z w64 held.demerits) })) overhang
    ∙ ap (λ x. entry_with_totals e held.index place (record { class = class; overhang = held.overhang; demerits = x })) demerits))
