use Rattle.std.proofs.Common.{◌≡◌, ◌∙◌, ◌+◌, ◌+ℤ◌, to_z, of_z, w64, length, subst, ap, sym, arith}
use Rattle.std.proofs.lemmas.Int.{ints}
use Rattle.break_lines.specs.Problems.{class_index}
use Rattle.break_lines.proofs.Entries.{get_at}
use Rattle.break_core.specs.declared.row.Offer.{Offer}
use Rattle.break_core.specs.declared.row.Row.{Row}
use Rattle.break_core.specs.Private.Active.{IsLeastOf, IsOfferingEach}
use Rattle.break_core.specs.Private.Offers.{row_at, shown_from}
use Rattle.break_core.proofs.BestEntries.{offer_by, offer_stands}
use Rattle.break_core.proofs.Offers.{offers_put, row_uncounted}
use Rattle.break_core.proofs.Suffix.{waiting_offered, rising_from, stands_later}
use Rattle.break_core.proofs.offering.offer_each_waiting.Goals as goal

pub overflow_add-offered : goal.overflow_add-offered
overflow_add-offered c =
    let lives = c.args.lives.now in
    let table = c.args.at.now.table.now in
    let alone = c.args.alone in
    let b = c.best_waiting-best.result in
    let none = c.requires.can.uncounted c.requires.some in
    let least : IsLeastOf lives (length lives) (class_index alone.class) b =
    subst (λ s. IsLeastOf lives (length lives) s b) c.class_index.ensures.rank c.best_waiting-best.ensures in
    let is = c.requires.can.best least.by least.live least.present none alone.class b least.is in
    omega (arith, ints, is.small.overhang.low, is.small.overhang.high, c.requires.costs_bounded.overhang.low, c.requires.costs_bounded.overhang.high)

pub overflow_add-offered-2 : goal.overflow_add-offered-2
overflow_add-offered-2 c =
    let lives = c.args.lives.now in
    let table = c.args.at.now.table.now in
    let alone = c.args.alone in
    let b = c.best_waiting-best.result in
    let none = c.requires.can.uncounted c.requires.some in
    let least : IsLeastOf lives (length lives) (class_index alone.class) b =
    subst (λ s. IsLeastOf lives (length lives) s b) c.class_index.ensures.rank c.best_waiting-best.ensures in
    let is = c.requires.can.best least.by least.live least.present none alone.class b least.is in
    omega (arith, ints, is.small.demerits.low, is.small.demerits.high, c.requires.costs_bounded.demerits.low, c.requires.costs_bounded.demerits.high)

pub put_offer-requires : goal.put_offer-requires
put_offer-requires c =
    let lives = c.args.lives.now in
    let table = c.args.at.now.table.now in
    let alone = c.args.alone in
    let b = c.best_waiting-best.result in
    let none = c.requires.can.uncounted c.requires.some in
    let least : IsLeastOf lives (length lives) (class_index alone.class) b =
    subst (λ s. IsLeastOf lives (length lives) s b) c.class_index.ensures.rank c.best_waiting-best.ensures in
    let is = c.requires.can.best least.by least.live least.present none alone.class b least.is in
    omega (arith, is.high, is.real)

pub returns-clause-row : goal.returns-clause-row
returns-clause-row c =
    let lives = c.args.lives.now in
    let table = c.args.at.now.table.now in
    let alone = c.args.alone in
    let b = c.best_waiting-best.result in
    let none = c.requires.can.uncounted c.requires.some in
    let least : IsLeastOf lives (length lives) (class_index alone.class) b =
    subst (λ s. IsLeastOf lives (length lives) s b) c.class_index.ensures.rank c.best_waiting-best.ensures in
    let is = c.requires.can.best least.by least.live least.present none alone.class b least.is in
    let overhang : to_z w64 (of_z w64 (to_z w64 (of_z w64 b.overhang) +ℤ to_z w64 (of_z w64 alone.overhang))) ≡ b.overhang +ℤ alone.overhang =
    omega (arith, ints, is.small.overhang.low, is.small.overhang.high, c.requires.costs_bounded.overhang.low, c.requires.costs_bounded.overhang.high) in
    let demerits : to_z w64 (of_z w64 (to_z w64 (of_z w64 b.demerits) +ℤ to_z w64 (of_z w64 alone.demerits))) ≡ b.demerits +ℤ alone.demerits =
    omega (arith, ints, is.small.demerits.low, is.small.demerits.high, c.requires.costs_bounded.demerits.low, c.requires.costs_bounded.demerits.high) in
    let offered : Offer =
    record {
      overhang = to_z w64 (of_z w64 (to_z w64 (of_z w64 b.overhang) +ℤ to_z w64 (of_z w64 alone.overhang)));
      demerits = to_z w64 (of_z w64 (to_z w64 (of_z w64 b.demerits) +ℤ to_z w64 (of_z w64 alone.demerits)));
      index = b.index;
    } in
    let made : offered ≡ offer_by b alone =
    ap (λ x. record { overhang = x; demerits = offered.demerits; index = b.index }) overhang
    ∙ ap (λ x. record { overhang = b.overhang +ℤ alone.overhang; demerits = x; index = b.index }) demerits in
    let params = c.args.at.now.rules.now.params.now in
    let place = c.args.at.now.place in
    let n = params.first_lines in
    let old = c.args.row.now in
    let new : Row = record { offers = c.put_offer.new.offers; counted = old.counted } in
    let first = get_at lives 0 c.requires.some in
    let low = first.0.group.place in
    let shown : IsOfferingEach table params alone lives place (shown_from table place 0 old.offers) (shown_from table place 0 new.offers) =
    waiting_offered table params lives place alone b offered (shown_from table place 0 old.offers) (shown_from table place 0 new.offers) none
    c.requires.can.best c.requires.can.each least made
    (λ e present. c.put_offer.ensures.put table low place e present
    (omega (
      arith,
      rising_from lives least.by first.0 least.live c.requires.can.rising first.1 least.present,
      ((c.requires.can.each least.by least.live least.present).entries b.index e is.low is.high present).0,
    ))
    (c.requires.next first.0 first.1)) in
    subst (λ r. IsOfferingEach table params alone lives place r (row_at n table place new)) (sym (row_uncounted n table place old none))
    (subst (λ r. IsOfferingEach table params alone lives place (shown_from table place 0 old.offers) r) (sym (row_uncounted n table place new none)) shown)

pub returns-clause-held : goal.returns-clause-held
returns-clause-held c = λ none_counted.
    let lives = c.args.lives.now in
    let table = c.args.at.now.table.now in
    let alone = c.args.alone in
    let b = c.best_waiting-best.result in
    let none = c.requires.can.uncounted c.requires.some in
    let least : IsLeastOf lives (length lives) (class_index alone.class) b =
    subst (λ s. IsLeastOf lives (length lives) s b) c.class_index.ensures.rank c.best_waiting-best.ensures in
    let is = c.requires.can.best least.by least.live least.present none alone.class b least.is in
    let overhang : to_z w64 (of_z w64 (to_z w64 (of_z w64 b.overhang) +ℤ to_z w64 (of_z w64 alone.overhang))) ≡ b.overhang +ℤ alone.overhang =
    omega (arith, ints, is.small.overhang.low, is.small.overhang.high, c.requires.costs_bounded.overhang.low, c.requires.costs_bounded.overhang.high) in
    let demerits : to_z w64 (of_z w64 (to_z w64 (of_z w64 b.demerits) +ℤ to_z w64 (of_z w64 alone.demerits))) ≡ b.demerits +ℤ alone.demerits =
    omega (arith, ints, is.small.demerits.low, is.small.demerits.high, c.requires.costs_bounded.demerits.low, c.requires.costs_bounded.demerits.high) in
    let offered : Offer =
    record {
      overhang = to_z w64 (of_z w64 (to_z w64 (of_z w64 b.overhang) +ℤ to_z w64 (of_z w64 alone.overhang)));
      demerits = to_z w64 (of_z w64 (to_z w64 (of_z w64 b.demerits) +ℤ to_z w64 (of_z w64 alone.demerits)));
      index = b.index;
    } in
    let made : offered ≡ offer_by b alone =
    ap (λ x. record { overhang = x; demerits = offered.demerits; index = b.index }) overhang
    ∙ ap (λ x. record { overhang = b.overhang +ℤ alone.overhang; demerits = x; index = b.index }) demerits in
    let place = c.args.at.now.place in
    let can = c.requires.can.each least.by least.live least.present in
    offers_put table place c.args.row.now.offers c.put_offer.new.offers alone.class offered (c.requires.held none)
    (stands_later table (least.live.group.place + 1) place alone.class offered (omega (arith, can.earlier))
    (offer_stands table c.args.at.now.rules.now.params.now least.live alone b offered can.entries is c.requires.costs_bounded made))
    c.put_offer.ensures.either
