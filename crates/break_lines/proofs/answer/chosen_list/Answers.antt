use Rattle.std.proofs.Common.{◌<◌, ◌+◌, length, refl, sym, subst, arith, rules}
use Rattle.std.proofs.lemmas.Option.{slice_get_read, slice_get_within}
use Rattle.std.proofs.lemmas.Int.{ints}
use Rattle.break_lines.specs.Tables.{IsTable}
use Rattle.break_lines.specs.Private.Tables.{HasNoEnd}
use Rattle.break_lines.proofs.Bellman.{answered, admits_none}
use Rattle.std.specs.Int.{w64}
use Rattle.std.proofs.Common.{to_z, of_z}
use Rattle.break_lines.proofs.answer.chosen_list.Goals as goal

pub returns-in_default : goal.returns-in_default
returns-in_default c = λ p same is.
    let table = c.args.table.now in
    admits_none p table (subst (λ n. IsTable p (n + 1) table) (sym same) is)
    (subst (λ n. HasNoEnd table n (length table)) (sym same) c.in_default.ensures)

pub offset_bounds-table-index : goal.offset_bounds-table-index
offset_bounds-table-index c =
    let within : c.in-Some.index < length c.args.table.now =
    slice_get_within c.args.table.now c.in-Some.index c.in-Some.ensures.entry c.in-Some.ensures.present in
    search rules

pub bounds-table-index : goal.bounds-table-index
bounds-table-index c = slice_get_within c.args.table.now c.in-Some.index c.in-Some.ensures.entry c.in-Some.ensures.present

pub read_back-requires-clause-index_bounded : goal.read_back-requires-clause-index_bounded
read_back-requires-clause-index_bounded c = slice_get_within c.args.table.now c.in-Some.index c.in-Some.ensures.entry c.in-Some.ensures.present

pub returns : goal.returns
returns c = λ p same is.
    let table = c.args.table.now in
    let e = c.index-table-index.result in
    let best = c.in-Some.ensures in
    let present = slice_get_read table (length table) c.in-Some.index e refl (slice_get_within table c.in-Some.index best.entry best.present)
    c.index-table-index.is in
    answered p c.args.places table c.in-Some.index e
    (record {
      ends = c.in_ok-ends.ends;
      overhang = to_z w64 (of_z w64 c.overhang.result);
      demerits = to_z w64 (of_z w64 c.demerits.result);
    })
    same c.requires.has_places is best present c.in_ok-ends.ensures (omega (arith, ints)) (omega (arith, ints))
