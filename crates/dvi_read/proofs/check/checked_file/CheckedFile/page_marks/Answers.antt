-- An instruction draws in the page, or ends it.
use Rattle.std.proofs.Common.{◌++◌, [], true, List, Some, ℤ, ap, arith, map, refl, sym, ◌∙◌}
use Rattle.std.specs.Prelude.{filter}
use Rattle.std.proofs.lemmas.List.Elements.{filter-append}
use Rattle.scaled_core.specs.Mark.{Mark}
use Rattle.dvi_ops.specs.View.{view}
use Rattle.dvi_scan.specs.View.{mark_of}
use Rattle.dvi_scan.specs.Private.View.{marks_in}
use Rattle.dvi_scan.specs.declared.page.Mark.{Mark as PassMark}
use Rattle.dvi_read.specs.ItemsLeft.{pass_with}
use Rattle.dvi_read.specs.Private.OnePage.{is_kept}
use Rattle.dvi_read.proofs.OnePageLemmas.{fonts_read, page_ends, page_of, rest_drawn, some_left, turned_here}
use Rattle.dvi_read.proofs.SeenItemLemmas.{no_eop, some_there}
use Rattle.dvi_read.proofs.check.checked_file.CheckedFile.page_marks.Goals as goal

pub loop-at-init : goal.loop-at-init
loop-at-init c = record {
  ready = c.requires.ready;
  counts = refl;
  same = λ before pages remaining. ([], remaining, ap (λ (ms : List PassMark). map mark_of ms) c.new-marks.ensures.items);
}

pub unreachable-requires : goal.unreachable-requires
unreachable-requires c =
    let s = c.args.self.now in
    let (before, pages, first) = c.requires.remaining in
    let (seen, remaining, kept) = c.loop-at.invariant.same before pages first in
    some_there s.bytes.now c.loop-at.at s.post s.most s.fonts (pass_with true before seen c.loop-at.page) pages c.loop-at-test.true remaining
    c.in_default.ensures.none

pub draw-made-requires : goal.draw-made-requires
draw-made-requires c =
    let s = c.args.self.now in
    let i = view c.in-Ok.op in
    let found = c.in-Ok.ensures in
    let (before, pages, first) = c.requires.remaining in
    let (seen, remaining, kept) = c.loop-at.invariant.same before pages first in
    let turned = turned_here s.bytes.now c.loop-at.at s.post s.most s.fonts before seen c.loop-at.page pages remaining i c.in-Ok.next found.after
    found.end_bounded found.found in
    record {
      ready = c.loop-at.invariant.ready;
      codes = remaining.codes;
      read = fonts_read s.bytes.now c.loop-at.at s.post s.most s.fonts before seen c.loop-at.page pages remaining i c.in-Ok.next found.after
          found.end_bounded found.found;
      stays = no_eop c.in-Ok.op c.in_default-op.not-Eop;
      goes_on = (before, seen, turned.after, turned.turns);
    }

pub returns-in-Eop : goal.returns-in-Eop
returns-in-Eop c = λ before pages first.
    let s = c.args.self.now in
    let found = c.in-Ok.ensures in
    let (seen, remaining, kept) = c.loop-at.invariant.same before pages first in
    let ends = page_ends s.bytes.now c.loop-at.at s.post s.most s.fonts before seen c.loop-at.page pages remaining (view c.in-Ok.op) c.in-Ok.next found.after found.end_bounded found.found
    (ap view c.in-Eop.is) in
    (seen, ends ∙ ap (λ (counts : List ℤ). Some (page_of counts seen)) c.loop-at.invariant.counts, kept)

pub loop-at-preserved : goal.loop-at-preserved
loop-at-preserved c =
    let s = c.args.self.now in
    let found = c.in-Ok.ensures in
    let drawn = c.draw-made.ensures in
    let new = c.draw-made.new in
    let made = marks_in c.draw-made.result in
    record {
      ready = drawn.ready;
      counts = drawn.counts ∙ c.loop-at.invariant.counts;
      same = λ before pages first.
          let (seen, remaining, kept) = c.loop-at.invariant.same before pages first in (
            seen ++ made,
            rest_drawn s.bytes.now c.loop-at.at s.post s.most s.fonts before seen c.loop-at.page pages remaining (view c.in-Ok.op) c.in-Ok.next found.after
                found.end_bounded found.found new.page made drawn.draws,
            c.in_ok-push.ensures ∙ (ap (λ (ms : List Mark). ms ++ filter (is_kept c.args.kept) made) kept ∙ sym (filter-append (is_kept c.args.kept) seen made)),
          );
    }

pub unreachable-requires-2 : goal.unreachable-requires-2
unreachable-requires-2 c =
    let s = c.args.self.now in
    let (before, pages, first) = c.requires.remaining in
    let (seen, remaining, kept) = c.loop-at.invariant.same before pages first in
    let low = some_left s.bytes.now c.loop-at.at s.post s.most s.fonts before seen c.loop-at.page pages remaining in omega (arith, low)
