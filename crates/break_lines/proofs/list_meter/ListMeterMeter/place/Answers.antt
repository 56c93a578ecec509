use Rattle.std.proofs.Common.{◌∙◌, ◌<◌, length, w32, SFits, refl, ap, arith, rules}
use Rattle.std.proofs.lemmas.Int.{to_z-of_z}
use Rattle.std.proofs.lemmas.Int.{ints}
use Rattle.std.proofs.lemmas.Option.{slice_get_read}
use Rattle.break_lines.proofs.Marked.{place_is, count_is}
use Rattle.break_lines.proofs.Places.{place_penalty}
use Rattle.break_lines.proofs.list_meter.ListMeterMeter.place.Goals as goal

pub returns-clause-position : goal.returns-clause-position
returns-clause-position c =
    let m = c.args.self.now in
    let n = c.args.number in
    let within : n < length m.marks.items = omega (arith, count_is m.nodes.now m.marks.items m.marked, c.requires.last) in
    let at = slice_get_read m.marks.items (length m.marks.items) n c.index-mark.result.now refl within c.index-mark.ensures in
    ap (λ k. k.position) (place_is m.nodes.now m.marks.items n c.index-mark.result.now m.marked c.requires.first within at)

pub returns-clause-penalty : goal.returns-clause-penalty
returns-clause-penalty c =
    let m = c.args.self.now in
    let n = c.args.number in
    let within : n < length m.marks.items = omega (arith, count_is m.nodes.now m.marks.items m.marked, c.requires.last) in
    let at = slice_get_read m.marks.items (length m.marks.items) n c.index-mark.result.now refl within c.index-mark.ensures in
    let fits : SFits w32 c.index-mark.result.now.penalty = search rules in
    to_z-of_z w32 _ fits ∙ ap (λ k. k.penalty) (place_is m.nodes.now m.marks.items n c.index-mark.result.now m.marked c.requires.first within at)

pub returns-clause-penalty_bounded : goal.returns-clause-penalty_bounded
returns-clause-penalty_bounded c =
    let m = c.args.self.now in
    let n = c.args.number in
    let within : n < length m.marks.items = omega (arith, count_is m.nodes.now m.marks.items m.marked, c.requires.last) in
    let at = slice_get_read m.marks.items (length m.marks.items) n c.index-mark.result.now refl within c.index-mark.ensures in
    let is = ap (λ k. k.penalty) (place_is m.nodes.now m.marks.items n c.index-mark.result.now m.marked c.requires.first within at) in
    let fits : SFits w32 c.index-mark.result.now.penalty = search rules in
    omega (arith, ints, is, to_z-of_z w32 _ fits, place_penalty m.nodes.now n c.requires.first c.requires.last)
