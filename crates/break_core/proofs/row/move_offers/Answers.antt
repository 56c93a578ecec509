use Rattle.std.proofs.Common.{[], ◌∷◌, get_or, arith}
use Rattle.std.specs.Prelude.{pos}
use Rattle.std.proofs.lemmas.Option.{slice_get-get_or}
use Rattle.break_lines.specs.declared.state.Fitness.TheVariants.{VeryLoose, Loose, Decent, Tight}
use Rattle.break_core.specs.declared.row.Offer.{Offer}
use Rattle.break_core.specs.Private.Offers.{shown_offer}
use Rattle.break_core.proofs.Offers.{moved_start, moved_next, moved_held, moved_all}
use Rattle.break_core.proofs.row.move_offers.Goals as goal

pub move_offer-requires-2-clause-held : goal.move_offer-requires-2-clause-held
move_offer-requires-2-clause-held c =
    let offers = c.args.offers.now in
    let none : Offer = record { overhang = pos 0; demerits = pos 0; index = 0 } in
    let long = c.told-offers in
    let at_a = slice_get-get_or offers 0 none (omega (arith, long)) in
    let at_b = slice_get-get_or offers 1 none (omega (arith, long)) in
    let at_c = slice_get-get_or offers 2 none (omega (arith, long)) in
    let at_d = slice_get-get_or offers 3 none (omega (arith, long)) in
    let table = c.args.table.now.items in
    let place = c.args.place in
    let are = c.requires.held in
    let zero = moved_start table place offers in
    let one = moved_next table table c.move_offer.new.table.items [] place offers VeryLoose (get_or offers 0 none) zero are at_a c.move_offer.ensures.table in
    moved_held table c.move_offer.new.table.items (shown_offer table place VeryLoose (get_or offers 0 none) ∷ []) place offers Loose (get_or offers 1 none)
    one are at_b

pub move_offer-requires-3-clause-held : goal.move_offer-requires-3-clause-held
move_offer-requires-3-clause-held c =
    let offers = c.args.offers.now in
    let none : Offer = record { overhang = pos 0; demerits = pos 0; index = 0 } in
    let long = c.told-offers in
    let at_a = slice_get-get_or offers 0 none (omega (arith, long)) in
    let at_b = slice_get-get_or offers 1 none (omega (arith, long)) in
    let at_c = slice_get-get_or offers 2 none (omega (arith, long)) in
    let at_d = slice_get-get_or offers 3 none (omega (arith, long)) in
    let table = c.args.table.now.items in
    let place = c.args.place in
    let are = c.requires.held in
    let zero = moved_start table place offers in
    let one = moved_next table table c.move_offer.new.table.items [] place offers VeryLoose (get_or offers 0 none) zero are at_a c.move_offer.ensures.table in
    let two = moved_next table c.move_offer.new.table.items c.move_offer-2.new.table.items (shown_offer table place VeryLoose (get_or offers 0 none) ∷ []) place
    offers Loose (get_or offers 1 none) one are at_b c.move_offer-2.ensures.table in
    moved_held table c.move_offer-2.new.table.items
    (shown_offer table place VeryLoose (get_or offers 0 none) ∷ shown_offer table place Loose (get_or offers 1 none) ∷ []) place offers Decent
    (get_or offers 2 none) two are at_c

pub move_offer-requires-4-clause-held : goal.move_offer-requires-4-clause-held
move_offer-requires-4-clause-held c =
    let offers = c.args.offers.now in
    let none : Offer = record { overhang = pos 0; demerits = pos 0; index = 0 } in
    let long = c.told-offers in
    let at_a = slice_get-get_or offers 0 none (omega (arith, long)) in
    let at_b = slice_get-get_or offers 1 none (omega (arith, long)) in
    let at_c = slice_get-get_or offers 2 none (omega (arith, long)) in
    let at_d = slice_get-get_or offers 3 none (omega (arith, long)) in
    let table = c.args.table.now.items in
    let place = c.args.place in
    let are = c.requires.held in
    let zero = moved_start table place offers in
    let one = moved_next table table c.move_offer.new.table.items [] place offers VeryLoose (get_or offers 0 none) zero are at_a c.move_offer.ensures.table in
    let two = moved_next table c.move_offer.new.table.items c.move_offer-2.new.table.items (shown_offer table place VeryLoose (get_or offers 0 none) ∷ []) place
    offers Loose (get_or offers 1 none) one are at_b c.move_offer-2.ensures.table in
    let three = moved_next table c.move_offer-2.new.table.items c.move_offer-3.new.table.items
    (shown_offer table place VeryLoose (get_or offers 0 none) ∷ shown_offer table place Loose (get_or offers 1 none) ∷ []) place offers Decent
    (get_or offers 2 none) two are at_c c.move_offer-3.ensures.table in
    moved_held table c.move_offer-3.new.table.items
    (shown_offer table place VeryLoose (get_or offers 0 none) ∷ shown_offer table place Loose (get_or offers 1 none)
    ∷ shown_offer table place Decent (get_or offers 2 none) ∷ []) place offers Tight (get_or offers 3 none) three are at_d

pub returns : goal.returns
returns c =
    let offers = c.args.offers.now in
    let none : Offer = record { overhang = pos 0; demerits = pos 0; index = 0 } in
    let long = c.told-offers in
    let at_a = slice_get-get_or offers 0 none (omega (arith, long)) in
    let at_b = slice_get-get_or offers 1 none (omega (arith, long)) in
    let at_c = slice_get-get_or offers 2 none (omega (arith, long)) in
    let at_d = slice_get-get_or offers 3 none (omega (arith, long)) in
    let table = c.args.table.now.items in
    let place = c.args.place in
    let are = c.requires.held in
    let zero = moved_start table place offers in
    let one = moved_next table table c.move_offer.new.table.items [] place offers VeryLoose (get_or offers 0 none) zero are at_a c.move_offer.ensures.table in
    let two = moved_next table c.move_offer.new.table.items c.move_offer-2.new.table.items (shown_offer table place VeryLoose (get_or offers 0 none) ∷ []) place
    offers Loose (get_or offers 1 none) one are at_b c.move_offer-2.ensures.table in
    let three = moved_next table c.move_offer-2.new.table.items c.move_offer-3.new.table.items
    (shown_offer table place VeryLoose (get_or offers 0 none) ∷ shown_offer table place Loose (get_or offers 1 none) ∷ []) place offers Decent
    (get_or offers 2 none) two are at_c c.move_offer-3.ensures.table in
    let all = moved_next table c.move_offer-3.new.table.items c.move_offer-4.new.table.items
    (shown_offer table place VeryLoose (get_or offers 0 none) ∷ shown_offer table place Loose (get_or offers 1 none)
    ∷ shown_offer table place Decent (get_or offers 2 none) ∷ []) place offers Tight (get_or offers 3 none) three are at_d c.move_offer-4.ensures.table in
    moved_all table c.move_offer-4.new.table.items place offers (get_or offers 0 none) (get_or offers 1 none) (get_or offers 2 none) (get_or offers 3 none) long
    at_a at_b at_c at_d all
