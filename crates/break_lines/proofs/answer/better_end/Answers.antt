use Rattle.std.proofs.Common.{◌<◌, ◌∙◌, length, refl, ap, sym, subst, rules}
use Rattle.std.proofs.lemmas.Option.{slice_get_read, slice_get_within, same_Some, MatchOption-at_some, MatchOption-at_none}
use Rattle.break_lines.specs.Orders.{NotAfter}
use Rattle.break_lines.specs.Tables.{compared_numbers}
use Rattle.break_lines.specs.Private.Tables.{IsBestEnd, HasNoEnd}
use Rattle.break_lines.proofs.BestEnds.{best_other, best_first, best_stays, best_taken}
use Rattle.break_lines.proofs.answer.better_end.Goals as goal

pub returns-then-end-place : goal.returns-then-end-place
returns-then-end-place c =
    let table = c.args.table.now in
    let present = slice_get_read table (length table) c.args.index c.index-table-index.result refl c.requires.index_bounded c.index-table-index.is in
    best_other table c.args.place c.args.index c.index-table-index.result c.args.best present
    (λ here. c.if-end-place.true (ap (λ s. s.place) c.end.ensures.end ∙ here)) c.requires.best

pub returns-in_default : goal.returns-in_default
returns-in_default c =
    let table = c.args.table.now in
    let present = slice_get_read table (length table) c.args.index c.index-table-index.result refl c.requires.index_bounded c.index-table-index.is in
    let none = MatchOption-at_none (HasNoEnd table c.args.place c.args.index) (IsBestEnd table c.args.place c.args.index) c.in_default.is c.requires.best in
    best_first table c.args.place c.args.index c.index-table-index.result present
    (sym (ap (λ s. s.place) c.end.ensures.end) ∙ c.if-end-place.false) none

pub bounds-table-old : goal.bounds-table-old
bounds-table-old c =
    let table = c.args.table.now in
    let best = MatchOption-at_some (HasNoEnd table c.args.place c.args.index) (IsBestEnd table c.args.place c.args.index) c.in-Some.old c.in-Some.is c.requires.best in
    slice_get_within table c.in-Some.old best.entry best.present

pub offset_bounds-table-old : goal.offset_bounds-table-old
offset_bounds-table-old c =
    let table = c.args.table.now in
    let best = MatchOption-at_some (HasNoEnd table c.args.place c.args.index) (IsBestEnd table c.args.place c.args.index) c.in-Some.old c.in-Some.is c.requires.best in
    let within : c.in-Some.old < length c.args.table.now = slice_get_within table c.in-Some.old best.entry best.present in
    search rules

pub returns-then-is_not_after : goal.returns-then-is_not_after
returns-then-is_not_after c =
    let table = c.args.table.now in
    let present = slice_get_read table (length table) c.args.index c.index-table-index.result refl c.requires.index_bounded c.index-table-index.is in
    let best = MatchOption-at_some (HasNoEnd table c.args.place c.args.index) (IsBestEnd table c.args.place c.args.index) c.in-Some.old c.in-Some.is c.requires.best in
    let old = slice_get_read table (length table) c.in-Some.old c.index-table-old.result refl
    (slice_get_within table c.in-Some.old best.entry best.present) c.index-table-old.is in
    let same = same_Some c.index-table-old.result best.entry (sym old ∙ best.present) in
    best_stays table c.args.place c.args.index c.in-Some.old c.index-table-index.result best present
    (subst (λ x. NotAfter (compared_numbers x) (compared_numbers c.index-table-index.result)) same (c.is_not_after.ensures.not_after c.if-is_not_after.true))

pub returns : goal.returns
returns c =
    let table = c.args.table.now in
    let present = slice_get_read table (length table) c.args.index c.index-table-index.result refl c.requires.index_bounded c.index-table-index.is in
    let best = MatchOption-at_some (HasNoEnd table c.args.place c.args.index) (IsBestEnd table c.args.place c.args.index) c.in-Some.old c.in-Some.is c.requires.best in
    let old = slice_get_read table (length table) c.in-Some.old c.index-table-old.result refl
    (slice_get_within table c.in-Some.old best.entry best.present) c.index-table-old.is in
    let same = same_Some c.index-table-old.result best.entry (sym old ∙ best.present) in
    best_taken table c.args.place c.args.index c.in-Some.old c.index-table-index.result best present
    (sym (ap (λ s. s.place) c.end.ensures.end) ∙ c.if-end-place.false)
    (subst (λ x. NotAfter (compared_numbers c.index-table-index.result) (compared_numbers x)) same (c.is_not_after.ensures.after c.if-is_not_after.false))
