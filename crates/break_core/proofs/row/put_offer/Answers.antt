use Rattle.std.proofs.Common.{◌≡◌, ◌∙◌, get_or, refl, ap, sym, subst, arith, Some}
use Rattle.std.specs.Prelude.{◌≤ℤ◌, pos, set, slice_get}
use Rattle.std.proofs.Math.Logic.{inl, inr}
use Rattle.std.proofs.lemmas.Int.{ints}
use Rattle.std.proofs.lemmas.Option.{slice_get-get_or}
use Rattle.break_lines.specs.Problems.{class_index}
use Rattle.break_lines.specs.Tables.{IsPut}
use Rattle.break_lines.specs.Totals.{entry_with_totals}
use Rattle.break_core.specs.declared.row.Offer.{Offer}
use Rattle.break_core.specs.Private.Offers.{totals_of, shown_from}
use Rattle.break_core.proofs.Offers.{put_new, put_kept}
use Rattle.break_core.proofs.row.put_offer.Goals as goal

abbrev none : Offer
none = record { overhang = pos 0; demerits = pos 0; index = 0 }

pub returns-then-replaces-clause-put : goal.returns-then-replaces-clause-put
returns-then-replaces-clause-put c = λ table low place e present later are.
    let offers = c.args.offers.now in
    let slot = c.class_index-slot.result in
    let class = c.args.class in
    let at : slice_get offers (class_index class) ≡ Some (get_or offers slot none) =
    ap (slice_get offers) (sym c.class_index-slot.ensures.rank)
    ∙ slice_get-get_or offers slot none (omega (arith, c.class_index-slot.ensures.rank_bounded, c.told-offers)) in
    subst (λ n. IsPut (entry_with_totals e c.args.offered.index place (totals_of class c.args.offered)) (shown_from table place 0 offers)
    (shown_from table place 0 (set offers n c.args.offered))) (sym c.class_index-slot.ensures.rank)
    (put_new table low place offers class (get_or offers slot none) c.args.offered e at present c.requires later are
    (c.replaces.ensures.yes c.if-replaces.true))

pub returns-else-replaces-clause-put : goal.returns-else-replaces-clause-put
returns-else-replaces-clause-put c = λ table low place e present later are.
    let few_overhang : c.args.offered.overhang ≤ℤ pos 9223372036854775807 = omega (arith, ints) in
    let few_demerits : c.args.offered.demerits ≤ℤ pos 9223372036854775807 = omega (arith, ints) in
    let offers = c.args.offers.now in
    let slot = c.class_index-slot.result in
    let class = c.args.class in
    let at : slice_get offers (class_index class) ≡ Some (get_or offers slot none) =
    ap (slice_get offers) (sym c.class_index-slot.ensures.rank)
    ∙ slice_get-get_or offers slot none (omega (arith, c.class_index-slot.ensures.rank_bounded, c.told-offers)) in
    put_kept table low place offers class (get_or offers slot none) c.args.offered e at present few_overhang few_demerits are
    (c.replaces.ensures.no c.if-replaces.false)

pub returns-then-replaces-clause-either : goal.returns-then-replaces-clause-either
returns-then-replaces-clause-either c = inr (ap (λ n. set c.args.offers.now n c.args.offered) c.class_index-slot.ensures.rank)

pub returns-else-replaces-clause-either : goal.returns-else-replaces-clause-either
returns-else-replaces-clause-either c = inl refl
