use Rattle.std.proofs.Common.{get_or, refl, arith}
use Rattle.std.specs.Prelude.{pos}
use Rattle.std.proofs.Math.Logic.{inl, inr}
use Rattle.std.proofs.lemmas.Option.{slice_get-get_or}
use Rattle.break_lines.proofs.Entries.{get-set_same, get-set_other}
use Rattle.break_core.specs.declared.row.Offer.{Offer}
use Rattle.break_core.proofs.Offers.{good_same}
use Rattle.break_core.proofs.BestEntries.{numbered_slot, numbered_set}
use Rattle.break_core.proofs.offering.put_better.Goals as goal

abbrev none : Offer
none = record { overhang = pos 0; demerits = pos 0; index = 0 }

pub is_as_good-requires : goal.is_as_good-requires
is_as_good-requires c =
    let at = slice_get-get_or c.args.best.now c.args.slot none (omega (arith, c.requires.slot_bounded, c.told-best)) in
    record {
      first_bounded = numbered_slot c.args.table.now c.args.best.now c.args.slot (get_or c.args.best.now c.args.slot none) c.requires.slot_bounded
          c.requires.best_bounded at;
      second_bounded = c.requires.other_bounded;
    }

pub returns-then-is_as_good-clause-put : goal.returns-then-is_as_good-clause-put
returns-then-is_as_good-clause-put c =
    let best = c.args.best.now in
    let slot = c.args.slot in
    let at = slice_get-get_or best slot none (omega (arith, c.requires.slot_bounded, c.told-best)) in
    record {
      held = get_or best slot none;
      kept = get_or best slot none;
      was = at;
      is = at;
      better = record {
        either = inl refl;
        first = good_same c.args.table.now (get_or best slot none);
        second = c.is_as_good.ensures.yes c.if-is_as_good.true;
      };
      rest = λ k other. refl;
    }

pub returns-clause-put : goal.returns-clause-put
returns-clause-put c =
    let best = c.args.best.now in
    let slot = c.args.slot in
    let at = slice_get-get_or best slot none (omega (arith, c.requires.slot_bounded, c.told-best)) in
    record {
      held = get_or best slot none;
      kept = c.args.other;
      was = at;
      is = get-set_same best slot c.args.other (get_or best slot none) at;
      better = record {
        either = inr refl;
        first = c.is_as_good.ensures.no c.if-is_as_good.false;
        second = good_same c.args.table.now c.args.other;
      };
      rest = λ k other. get-set_other best slot k c.args.other other;
    }

pub returns-clause-best_bounded : goal.returns-clause-best_bounded
returns-clause-best_bounded c =
    let at = slice_get-get_or c.args.best.now c.args.slot none (omega (arith, c.requires.slot_bounded, c.told-best)) in
    numbered_set c.args.table.now c.args.best.now c.args.slot (get_or c.args.best.now c.args.slot none) c.args.other at c.requires.best_bounded
    c.requires.other_bounded
