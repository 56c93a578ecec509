use Rattle.std.proofs.Common.{◌≡◌, ◌+◌, ◌≤◌, ◌<◌, length, refl, rules, subst, arith}
use Rattle.std.proofs.lemmas.Option.{slice_get_read}
use Rattle.break_core.specs.Private.Offers.{no_entry, AreBestFor}
use Rattle.break_core.proofs.BestEntries.{best_more, numbered_before, numbered_best}
use Rattle.break_core.proofs.offering.put_rest.Goals as goal

pub loop-index-init : goal.loop-index-init
loop-index-init c = record { low = omega arith; long = search rules; best = c.requires.first }

pub put_better_each-requires-clause-best_bounded : goal.put_better_each-requires-clause-best_bounded
put_better_each-requires-clause-best_bounded c =
    numbered_best c.args.table.now c.args.params.now c.args.group.start c.loop-index.index c.loop-index.best c.loop-index.invariant.best

pub put_better_each-requires-clause-others_bounded : goal.put_better_each-requires-clause-others_bounded
put_better_each-requires-clause-others_bounded c =
    numbered_before c.args.table.now c.args.params.now c.index-table-index.result c.loop-index.index c.offers_before-others.result c.offers_before-others.ensures
    (omega (arith, c.loop-index-test.true, c.requires.group_bounded))

pub loop-index-preserved : goal.loop-index-preserved
loop-index-preserved c =
    let table = c.args.table.now in
    let index = c.loop-index.index in
    let e = c.index-table-index.result in
    let inv = c.loop-index.invariant in
    let within : index < length table = omega (arith, c.loop-index-test.true, c.requires.group_bounded) in
    let few : index + 1 ≤ no_entry = omega (arith, c.loop-index-test.true) in
    let wide : length c.offers_before-others.result ≡ 4 = search rules in
    record {
      low = omega (arith, inv.low);
      long = search rules;
      best = best_more table c.args.params.now c.args.group.start index e c.loop-index.best c.offers_before-others.result c.put_better_each.new.best inv.best
          (omega (arith, inv.low)) few (slice_get_read table (length table) index e refl within c.index-table-index.is) c.offers_before-others.ensures inv.long wide
          c.put_better_each.ensures;
    }

pub returns : goal.returns
returns c =
    let end : c.loop-index.index ≡ c.args.group.end = omega (arith, c.loop-index-test.false, c.requires.has_entries, c.loop-index.auto) in
    subst (λ n. AreBestFor c.args.table.now c.args.params.now c.args.group.start n c.loop-index.best) end c.loop-index.invariant.best
