-- One more row is written, or nothing is left.
use Rattle.std.proofs.Common.{[], Option, ap, arith, refl, subst}
use Rattle.std.specs.Borrow.{Bor}
use Rattle.dvi_read.specs.ItemsLeft.{PassesNextText, ShowsNext}
use Rattle.dvi_read.specs.declared.check.checked_file.CheckedFile.{CheckedFile}
use Rattle.dvi_read.specs.declared.seen_items.SeenItem.{SeenItem}
use Rattle.boxglue_calls.specs.MarkTables.{mark_outputs}
use Rattle.boxglue_calls.proofs.RowSteps.{place_there, written_all, written_next, writing_first}
use Rattle.boxglue_calls.proofs.mark_rows.write_rows.Goals as goal

pub loop-item-init : goal.loop-item-init
loop-item-init c = λ metrics table places all can. writing_first metrics table c.args.seen_items.now
    (mark_outputs c.args.pages.now c.args.marks.now []) _ places all can refl refl

pub next_item-requires : goal.next_item-requires
next_item-requires c =
    let (metrics, table, places, all, can) = c.requires in let writing = c.loop-item.invariant metrics table places all can in
    (writing.rest, writing.remaining)

pub write_item-requires-clause-remaining : goal.write_item-requires-clause-remaining
write_item-requires-clause-remaining c =
    let (metrics, table, places, all, can) = c.requires in
    let writing = c.loop-item.invariant metrics table places all can in
    let (later, is, remaining) = c.in-Some.ensures.next writing.rest writing.remaining in (later, remaining)

pub write_item-requires-clause-place : goal.write_item-requires-clause-place
write_item-requires-clause-place c =
    let (metrics, table, places, all, can) = c.requires in
    let writing = c.loop-item.invariant metrics table places all can in
    place_there metrics table c.args.seen_items.now (mark_outputs c.args.pages.now c.args.marks.now [])
    (mark_outputs c.loop-item.pages c.loop-item.marks []) c.loop-item.written places all c.loop-item.seen_items
    can writing c.next_item.new.self c.in-Some.item (c.in-Some.ensures.next writing.rest writing.remaining)

pub loop-item-preserved : goal.loop-item-preserved
loop-item-preserved c = λ metrics table places all can.
    let writing = c.loop-item.invariant metrics table places all can in
    written_next metrics table c.args.seen_items.now (mark_outputs c.args.pages.now c.args.marks.now [])
    (mark_outputs c.loop-item.pages c.loop-item.marks []) c.loop-item.written places all c.loop-item.seen_items
    can writing c.next_item.new.self c.in-Some.item c.write_item.new.written (mark_outputs c.write_item.new.pages c.write_item.new.marks [])
    c.next_item.ensures.same c.in-Some.ensures.text
    (c.in-Some.ensures.texts writing.left writing.texts) (c.in-Some.ensures.next writing.rest writing.remaining) c.write_item.ensures

pub loop-item-smaller : goal.loop-item-smaller
loop-item-smaller c =
    let (metrics, table, places, all, can) = c.requires in
    let writing = c.loop-item.invariant metrics table places all can in
    let (later, is, remaining) = c.in-Some.ensures.next writing.rest writing.remaining in
    let within = remaining.rest.low in
    omega (arith, within, ap (λ (file : Bor CheckedFile). file.now.post) c.next_item.ensures.same, c.in-Some.ensures.forward refl)

pub returns : goal.returns
returns c = λ metrics table places all can.
    let writing = c.loop-item.invariant metrics table places all can in
    let (none, remaining) = subst (λ (o : Option SeenItem). ShowsNext writing.rest c.next_item.new.self o) c.in_default.is
    (c.next_item.ensures.next writing.rest writing.remaining) in
    let no_texts = subst (λ (o : Option SeenItem). PassesNextText writing.left c.next_item.new.self o) c.in_default.is
    (c.next_item.ensures.texts writing.left writing.texts) in
    written_all metrics table c.args.seen_items.now (mark_outputs c.args.pages.now c.args.marks.now [])
    (mark_outputs c.loop-item.pages c.loop-item.marks []) c.loop-item.written places all c.loop-item.seen_items
    can writing none no_texts
