use Rattle.std.proofs.Common.{◌∙◌, ◌<◌, length, refl, arith}
use Rattle.std.proofs.lemmas.Option.{slice_get_read}
use Rattle.break_lines.proofs.Marked.{line_at, count_is}
use Rattle.break_lines.proofs.list_meter.ListMeter.sums_between.Goals as goal

pub line_to-requires-clause-here : goal.line_to-requires-clause-here
line_to-requires-clause-here c =
    let m = c.args.self.now in
    let within : c.args.from < length m.marks.items = omega (arith, count_is m.nodes.now m.marks.items m.marked, c.requires.later, c.requires.last) in
    m.mark_sums_bounded c.args.from c.index.result.now (slice_get_read m.marks.items (length m.marks.items) c.args.from c.index.result.now refl within c.index.ensures)

pub line_to-requires-clause-there : goal.line_to-requires-clause-there
line_to-requires-clause-there c =
    let m = c.args.self.now in
    let within : c.args.to < length m.marks.items = omega (arith, count_is m.nodes.now m.marks.items m.marked, c.requires.last) in
    m.mark_sums_bounded c.args.to c.index-2.result.now (slice_get_read m.marks.items (length m.marks.items) c.args.to c.index-2.result.now refl within c.index-2.ensures)

pub returns-clause-sums : goal.returns-clause-sums
returns-clause-sums c =
    let m = c.args.self.now in
    let from : c.args.from < length m.marks.items = omega (arith, count_is m.nodes.now m.marks.items m.marked, c.requires.later, c.requires.last) in
    let to : c.args.to < length m.marks.items = omega (arith, count_is m.nodes.now m.marks.items m.marked, c.requires.last) in
    c.line_to.ensures.value
    ∙ line_at m.nodes.now m.marks.items c.args.from c.args.to c.index.result.now c.index-2.result.now m.marked c.requires.later to
    (slice_get_read m.marks.items (length m.marks.items) c.args.from c.index.result.now refl from c.index.ensures)
    (slice_get_read m.marks.items (length m.marks.items) c.args.to c.index-2.result.now refl to c.index-2.ensures)
