use Rattle.std.proofs.Common.{◌≡◌, ◌∙◌, length, Some, refl, ap, sym, arith}
use Rattle.std.specs.Prelude.{slice_get, set}
use Rattle.std.proofs.lemmas.Option.{slice_get_read}
use Rattle.break_lines.specs.Tables.{slot}
use Rattle.break_lines.proofs.Entries.{set-get_same}
use Rattle.break_lines.proofs.row.put.Goals as goal

pub returns-then-replaces-clause-put : goal.returns-then-replaces-clause-put
returns-then-replaces-clause-put c =
    let o = c.args.offered in
    let row = c.args.row.now.items in
    let here : c.slot-slot.result ≡ slot o.end = c.slot-slot.ensures.slot ∙ ap slot c.end.ensures.end in
    let was = slice_get_read row (length row) c.slot-slot.result c.index.result.now refl (omega (arith, c.slot-slot.ensures.slot_bounded, c.requires.wide)) c.index.ensures in
    record {
      held = c.index.result.now;
      was_present = ap (slice_get row) (sym here) ∙ was;
      kept = o;
      is_kept = c.replaces.ensures.yes c.if-replaces.true;
      is = ap (λ s. set row s (Some o)) here;
    }

pub returns-else-replaces-clause-put : goal.returns-else-replaces-clause-put
returns-else-replaces-clause-put c =
    let o = c.args.offered in
    let row = c.args.row.now.items in
    let here : c.slot-slot.result ≡ slot o.end = c.slot-slot.ensures.slot ∙ ap slot c.end.ensures.end in
    let was = slice_get_read row (length row) c.slot-slot.result c.index.result.now refl (omega (arith, c.slot-slot.ensures.slot_bounded, c.requires.wide)) c.index.ensures in
    let stays = c.replaces.ensures.no c.if-replaces.false in
    record {
      held = c.index.result.now;
      was_present = ap (slice_get row) (sym here) ∙ was;
      kept = stays.0;
      is_kept = stays.2;
      is = sym (set-get_same row (slot o.end) (Some stays.0) (ap (slice_get row) (sym here) ∙ was ∙ ap Some stays.1));
    }
