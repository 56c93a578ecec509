use Rattle.std.proofs.Common.{◌≡◌, ◌∙◌, ◌+◌, ◌+ℤ◌, to_z, of_z, w64, length, get_or, rules, ap, sym, arith, Some}
use Rattle.std.specs.Prelude.{pos, slice_get}
use Rattle.std.proofs.lemmas.Int.{ints}
use Rattle.std.proofs.lemmas.Option.{slice_get-get_or}
use Rattle.break_lines.specs.Problems.{class_index}
use Rattle.break_core.specs.declared.row.Offer.{Offer}
use Rattle.break_core.specs.Private.Offers.{shown_from}
use Rattle.break_core.proofs.Offers.{offers_later, offers_put}
use Rattle.break_core.proofs.BestEntries.{offer_by, totals_offered, offer_stands}
use Rattle.break_core.proofs.offering.offer_best.Goals as goal

abbrev none : Offer
none = record { overhang = pos 0; demerits = pos 0; index = 0 }

pub overflow_add-offered : goal.overflow_add-offered
overflow_add-offered c =
    let best = c.args.live.now.best in
    let rank = c.class_index.result in
    let long : length best ≡ 4 = search rules in
    let at : slice_get best (class_index c.args.alone.class) ≡ Some (get_or best rank none) =
    ap (slice_get best) (sym c.class_index.ensures.rank) ∙ slice_get-get_or best rank none (omega (arith, c.class_index.ensures.rank_bounded, long)) in
    let is = c.requires.best c.args.alone.class (get_or best rank none) at in
    omega (arith, ints, is.small.overhang.low, is.small.overhang.high, c.requires.costs_bounded.overhang.low, c.requires.costs_bounded.overhang.high)

pub overflow_add-offered-2 : goal.overflow_add-offered-2
overflow_add-offered-2 c =
    let best = c.args.live.now.best in
    let rank = c.class_index.result in
    let long : length best ≡ 4 = search rules in
    let at : slice_get best (class_index c.args.alone.class) ≡ Some (get_or best rank none) =
    ap (slice_get best) (sym c.class_index.ensures.rank) ∙ slice_get-get_or best rank none (omega (arith, c.class_index.ensures.rank_bounded, long)) in
    let is = c.requires.best c.args.alone.class (get_or best rank none) at in
    omega (arith, ints, is.small.demerits.low, is.small.demerits.high, c.requires.costs_bounded.demerits.low, c.requires.costs_bounded.demerits.high)

pub put_offer-requires : goal.put_offer-requires
put_offer-requires c =
    let best = c.args.live.now.best in
    let rank = c.class_index.result in
    let long : length best ≡ 4 = search rules in
    let at : slice_get best (class_index c.args.alone.class) ≡ Some (get_or best rank none) =
    ap (slice_get best) (sym c.class_index.ensures.rank) ∙ slice_get-get_or best rank none (omega (arith, c.class_index.ensures.rank_bounded, long)) in
    let is = c.requires.best c.args.alone.class (get_or best rank none) at in
    omega (arith, is.high, is.real)

pub returns-clause-row : goal.returns-clause-row
returns-clause-row c =
    let best = c.args.live.now.best in
    let rank = c.class_index.result in
    let long : length best ≡ 4 = search rules in
    let at : slice_get best (class_index c.args.alone.class) ≡ Some (get_or best rank none) =
    ap (slice_get best) (sym c.class_index.ensures.rank) ∙ slice_get-get_or best rank none (omega (arith, c.class_index.ensures.rank_bounded, long)) in
    let is = c.requires.best c.args.alone.class (get_or best rank none) at in
    let b = get_or best rank none in
    let alone = c.args.alone in
    let overhang : to_z w64 (of_z w64 (to_z w64 (of_z w64 b.overhang) +ℤ to_z w64 (of_z w64 alone.overhang))) ≡ b.overhang +ℤ alone.overhang =
    omega (arith, ints, is.small.overhang.low, is.small.overhang.high, c.requires.costs_bounded.overhang.low, c.requires.costs_bounded.overhang.high) in
    let demerits : to_z w64 (of_z w64 (to_z w64 (of_z w64 b.demerits) +ℤ to_z w64 (of_z w64 alone.demerits))) ≡ b.demerits +ℤ alone.demerits =
    omega (arith, ints, is.small.demerits.low, is.small.demerits.high, c.requires.costs_bounded.demerits.low, c.requires.costs_bounded.demerits.high) in
    let offered : Offer =
    record {
      overhang = to_z w64 (of_z w64 (to_z w64 (of_z w64 b.overhang) +ℤ to_z w64 (of_z w64 alone.overhang)));
      demerits = to_z w64 (of_z w64 (to_z w64 (of_z w64 b.demerits) +ℤ to_z w64 (of_z w64 alone.demerits)));
      index = b.index;
    } in
    let made : offered ≡ offer_by b alone =
    ap (λ x. record { overhang = x; demerits = offered.demerits; index = b.index }) overhang
    ∙ ap (λ x. record { overhang = b.overhang +ℤ alone.overhang; demerits = x; index = b.index }) demerits in
    let table = c.args.at.now.table.now in
    let place = c.args.at.now.place in
    totals_offered table c.args.at.now.rules.now.params.now c.args.live.now place alone b offered (shown_from table place 0 c.args.offers.now)
    (shown_from table place 0 c.put_offer.new.offers) c.requires.entries is made
    (λ e present. c.put_offer.ensures.put table c.args.live.now.group.place place e present
    (omega (arith, (c.requires.entries b.index e is.low is.high present).0)) c.requires.held)

pub returns-clause-held : goal.returns-clause-held
returns-clause-held c =
    let best = c.args.live.now.best in
    let rank = c.class_index.result in
    let long : length best ≡ 4 = search rules in
    let at : slice_get best (class_index c.args.alone.class) ≡ Some (get_or best rank none) =
    ap (slice_get best) (sym c.class_index.ensures.rank) ∙ slice_get-get_or best rank none (omega (arith, c.class_index.ensures.rank_bounded, long)) in
    let is = c.requires.best c.args.alone.class (get_or best rank none) at in
    let b = get_or best rank none in
    let alone = c.args.alone in
    let overhang : to_z w64 (of_z w64 (to_z w64 (of_z w64 b.overhang) +ℤ to_z w64 (of_z w64 alone.overhang))) ≡ b.overhang +ℤ alone.overhang =
    omega (arith, ints, is.small.overhang.low, is.small.overhang.high, c.requires.costs_bounded.overhang.low, c.requires.costs_bounded.overhang.high) in
    let demerits : to_z w64 (of_z w64 (to_z w64 (of_z w64 b.demerits) +ℤ to_z w64 (of_z w64 alone.demerits))) ≡ b.demerits +ℤ alone.demerits =
    omega (arith, ints, is.small.demerits.low, is.small.demerits.high, c.requires.costs_bounded.demerits.low, c.requires.costs_bounded.demerits.high) in
    let offered : Offer =
    record {
      overhang = to_z w64 (of_z w64 (to_z w64 (of_z w64 b.overhang) +ℤ to_z w64 (of_z w64 alone.overhang)));
      demerits = to_z w64 (of_z w64 (to_z w64 (of_z w64 b.demerits) +ℤ to_z w64 (of_z w64 alone.demerits)));
      index = b.index;
    } in
    let made : offered ≡ offer_by b alone =
    ap (λ x. record { overhang = x; demerits = offered.demerits; index = b.index }) overhang
    ∙ ap (λ x. record { overhang = b.overhang +ℤ alone.overhang; demerits = x; index = b.index }) demerits in
    let table = c.args.at.now.table.now in
    let low = c.args.live.now.group.place in
    offers_put table (low + 1) c.args.offers.now c.put_offer.new.offers alone.class offered
    (offers_later table low (low + 1) c.args.offers.now (omega arith) c.requires.held)
    (offer_stands table c.args.at.now.rules.now.params.now c.args.live.now alone b offered c.requires.entries is c.requires.costs_bounded made)
    c.put_offer.ensures.either

pub returns-clause-wide : goal.returns-clause-wide
returns-clause-wide c = c.put_offer.array_long
