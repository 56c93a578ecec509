-- One more row is counted, or nothing is left.
use Rattle.std.proofs.Common.{◌≡◌, [], List, Option, ap, arith, length, refl, subst, ◌∙◌}
use Rattle.std.specs.Borrow.{Bor}
use Rattle.dvi_read.specs.Seen.{SeenItemView}
use Rattle.dvi_read.specs.ItemsLeft.{PassesNextText, ShowsNext, seen_item_view}
use Rattle.dvi_read.specs.declared.check.checked_file.CheckedFile.{CheckedFile}
use Rattle.dvi_read.specs.declared.seen_items.SeenItem.{SeenItem}
use Rattle.boxglue_calls.specs.Private.MarkRows.{marks_among, pages_among}
use Rattle.boxglue_calls.proofs.RowSteps.{counted_next, counted_row, counted_rows}
use Rattle.boxglue_calls.proofs.mark_rows.count_rows.Goals as goal

pub loop-item-init : goal.loop-item-init
loop-item-init c =
    record {
      some = c.requires;
      begun = λ seen first. (seen, first, omega arith, omega arith);
      rows = λ metrics table places seen first texts widths.
          record {
            done = [];
            rest = seen;
            passed = [];
            left = places;
            remaining = first;
            parts = refl;
            texts_parts = refl;
            texts = texts;
            rows = ([], tt, refl);
          };
      few = omega arith;
      same = refl;
    }

pub count_item-requires : goal.count_item-requires
count_item-requires c = omega (arith, c.loop-item.invariant.few, c.in-Some.ensures.forward refl, c.next_item.ensures.fits)

pub loop-item-preserved : goal.loop-item-preserved
loop-item-preserved c =
    let held = c.loop-item.invariant in
    let one = c.count_item.ensures in
    let (seen, now) = held.some in
    let (later, is, remaining) = c.in-Some.ensures.next seen now in
    record {
      some = (later, remaining);
      begun = λ seen first.
          (let (rest, now, pages, marks) = held.begun seen first in
          let (later, is, remaining) = c.in-Some.ensures.next rest now in
          let (more, more_marks) = counted_next rest later (seen_item_view c.in-Some.item) _ _ _ _ (pages_among seen) (length (marks_among seen)) is
          pages marks one.pages one.marks in
          (later, remaining, more, more_marks));
      rows = λ metrics table places seen first texts widths.
          (let counted = held.rows metrics table places seen first texts widths in
          counted_row metrics table c.args.seen_items.now places seen c.loop-item.seen_items c.next_item.new.self c.in-Some.item widths held.same
          c.next_item.ensures.same c.in-Some.ensures.text counted
          (c.in-Some.ensures.texts counted.left counted.texts) (c.in-Some.ensures.next counted.rest counted.remaining));
      few = omega (arith, held.few, c.in-Some.ensures.forward refl, one.one);
      same = c.next_item.ensures.same ∙ held.same;
    }

pub loop-item-smaller : goal.loop-item-smaller
loop-item-smaller c =
    let (seen, now) = c.loop-item.invariant.some in
    let (later, is, remaining) = c.in-Some.ensures.next seen now in
    let within = remaining.rest.low in
    omega (arith, within, ap (λ (file : Bor CheckedFile). file.now.post) c.next_item.ensures.same, c.in-Some.ensures.forward refl)

pub returns-clause-pages : goal.returns-clause-pages
returns-clause-pages c = λ seen first.
    let (rest, now, pages, marks) = c.loop-item.invariant.begun seen first in
    let (none, remaining) = subst (λ (o : Option SeenItem). ShowsNext rest c.next_item.new.self o) c.in_default.is
    (c.next_item.ensures.next rest now) in
    let left : pages_among rest ≡ 0 = ap pages_among none in omega (arith, pages, left)

pub returns-clause-marks : goal.returns-clause-marks
returns-clause-marks c = λ seen first.
    let (rest, now, pages, marks) = c.loop-item.invariant.begun seen first in
    let (none, remaining) = subst (λ (o : Option SeenItem). ShowsNext rest c.next_item.new.self o) c.in_default.is
    (c.next_item.ensures.next rest now) in
    let left : length (marks_among rest) ≡ 0 = ap (λ (ss : List SeenItemView). length (marks_among ss)) none in omega (arith, marks, left)

pub returns-clause-rows : goal.returns-clause-rows
returns-clause-rows c = λ metrics table places seen first texts widths.
    let counted = c.loop-item.invariant.rows metrics table places seen first texts widths in
    let (none, remaining) = subst (λ (o : Option SeenItem). ShowsNext counted.rest c.next_item.new.self o) c.in_default.is
    (c.next_item.ensures.next counted.rest counted.remaining) in
    let no_texts = subst (λ (o : Option SeenItem). PassesNextText counted.left c.next_item.new.self o) c.in_default.is
    (c.next_item.ensures.texts counted.left counted.texts) in
    counted_rows metrics table c.args.seen_items.now places seen c.loop-item.seen_items counted none no_texts

pub returns-clause-remaining : goal.returns-clause-remaining
returns-clause-remaining c =
    let (seen, now) = c.loop-item.invariant.some in
    let (none, remaining) = subst (λ (o : Option SeenItem). ShowsNext seen c.next_item.new.self o) c.in_default.is (c.next_item.ensures.next seen now)
    in ([], remaining)

pub returns-clause-same : goal.returns-clause-same
returns-clause-same c = c.next_item.ensures.same ∙ c.loop-item.invariant.same
