use Rattle.std.proofs.Common.{◌≡◌, length, get_or, rules, arith}
use Rattle.std.specs.Prelude.{pos}
use Rattle.std.proofs.lemmas.Option.{slice_get-get_or}
use Rattle.break_lines.specs.declared.state.Fitness.TheVariants.{VeryLoose, Loose, Decent, Tight}
use Rattle.break_core.specs.declared.row.Offer.{Offer}
use Rattle.break_core.proofs.BestEntries.{put_four}
use Rattle.break_core.proofs.offering.put_better_each.Goals as goal

abbrev none : Offer
none = record { overhang = pos 0; demerits = pos 0; index = 0 }

pub put_better-requires-clause-other_bounded : goal.put_better-requires-clause-other_bounded
put_better-requires-clause-other_bounded c =
    let long : length c.args.others ≡ 4 = search rules in
    c.requires.others_bounded VeryLoose (get_or c.args.others 0 none) (slice_get-get_or c.args.others 0 none (omega (arith, long)))

pub put_better-requires-2-clause-other_bounded : goal.put_better-requires-2-clause-other_bounded
put_better-requires-2-clause-other_bounded c =
    let long : length c.args.others ≡ 4 = search rules in
    c.requires.others_bounded Loose (get_or c.args.others 1 none) (slice_get-get_or c.args.others 1 none (omega (arith, long)))

pub put_better-requires-3-clause-other_bounded : goal.put_better-requires-3-clause-other_bounded
put_better-requires-3-clause-other_bounded c =
    let long : length c.args.others ≡ 4 = search rules in
    c.requires.others_bounded Decent (get_or c.args.others 2 none) (slice_get-get_or c.args.others 2 none (omega (arith, long)))

pub put_better-requires-4-clause-other_bounded : goal.put_better-requires-4-clause-other_bounded
put_better-requires-4-clause-other_bounded c =
    let long : length c.args.others ≡ 4 = search rules in
    c.requires.others_bounded Tight (get_or c.args.others 3 none) (slice_get-get_or c.args.others 3 none (omega (arith, long)))

pub returns : goal.returns
returns c =
    let long : length c.args.others ≡ 4 = search rules in
    put_four c.args.table.now c.args.best.now c.put_better.new.best c.put_better-2.new.best c.put_better-3.new.best c.put_better-4.new.best c.args.others
    (get_or c.args.others 0 none) (get_or c.args.others 1 none) (get_or c.args.others 2 none) (get_or c.args.others 3 none)
    (slice_get-get_or c.args.others 0 none (omega (arith, long))) (slice_get-get_or c.args.others 1 none (omega (arith, long)))
    (slice_get-get_or c.args.others 2 none (omega (arith, long))) (slice_get-get_or c.args.others 3 none (omega (arith, long)))
    c.put_better.ensures.put c.put_better-2.ensures.put c.put_better-3.ensures.put c.put_better-4.ensures.put
