use Rattle.std.proofs.Common.{◌≡◌, ◌∙◌, sym, ap}
use Rattle.std.specs.Prelude.{true}
use Rattle.pack_core.specs.Cursors.{one_more, place_at}
use Rattle.page_core.specs.Marks.{right_at, down_at}
use Rattle.page_core.specs.Private.Placing.{is_blank}
use Rattle.page_core.proofs.Walked.{blank-fits, blank-place, blank-marks, point-is, reaches}
use Rattle.page_core.proofs.list_drawing.draw_item.Goals as goal

pub draw_at-requires : goal.draw_at-requires
draw_at-requires g c =
    reaches c.args.box_node.now c.args.begin.now.h c.args.begin.now.v c.args.walk.now.cursor c.in-Some.at c.in-Some-here.next c.args.node.now
    (sym c.requires.here ∙ c.in-Some.is) (sym c.go_past.ensures.here ∙ c.in-Some-here.is)

pub returns-then-is_blank-clause-fits : goal.returns-then-is_blank-clause-fits
returns-then-is_blank-clause-fits g c =
    let b = c.args.box_node.now in
    let from = c.args.walk.now.cursor in
    let yes : is_blank c.args.node.now ≡ true = sym c.is_blank.ensures ∙ c.if-is_blank.true in
    sym (blank-fits b c.args.begin.now.h c.args.begin.now.v (place_at b.setting from) (place_at b.setting (one_more b.kind b.setting from c.args.node.now))
    c.in-Some.at c.in-Some-here.next c.args.node.now yes (sym c.requires.here ∙ c.in-Some.is) (sym c.go_past.ensures.here ∙ c.in-Some-here.is))

pub returns-then-is_blank-clause-mark : goal.returns-then-is_blank-clause-mark
returns-then-is_blank-clause-mark g c rest =
    let b = c.args.box_node.now in
    let place = place_at b.setting c.args.walk.now.cursor in
    let yes : is_blank c.args.node.now ≡ true = sym c.is_blank.ensures ∙ c.if-is_blank.true in
    ap (g.S.MarkSink.drawn_with b.kind c.args.sink.now)
    (blank-marks b (right_at b.kind c.args.begin.now.h place) (down_at b.kind c.args.begin.now.v place) c.args.node.now rest yes)

pub returns-then-is_blank-clause-h : goal.returns-then-is_blank-clause-h
returns-then-is_blank-clause-h g c =
    let b = c.args.box_node.now in
    let place = place_at b.setting c.args.walk.now.cursor in
    let x = right_at b.kind c.args.begin.now.h place in
    let y = down_at b.kind c.args.begin.now.v place in
    let yes : is_blank c.args.node.now ≡ true = sym c.is_blank.ensures ∙ c.if-is_blank.true in
    (point-is x y c.in-Some.at (sym c.requires.here ∙ c.in-Some.is)).0 ∙ sym (blank-place b.kind x y c.args.node.now yes).0

pub returns-then-is_blank-clause-v : goal.returns-then-is_blank-clause-v
returns-then-is_blank-clause-v g c =
    let b = c.args.box_node.now in
    let place = place_at b.setting c.args.walk.now.cursor in
    let x = right_at b.kind c.args.begin.now.h place in
    let y = down_at b.kind c.args.begin.now.v place in
    let yes : is_blank c.args.node.now ≡ true = sym c.is_blank.ensures ∙ c.if-is_blank.true in
    (point-is x y c.in-Some.at (sym c.requires.here ∙ c.in-Some.is)).1 ∙ sym (blank-place b.kind x y c.args.node.now yes).1
