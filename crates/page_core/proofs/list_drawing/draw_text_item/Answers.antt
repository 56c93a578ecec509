use Rattle.std.proofs.Common.{◌≡◌, ◌∙◌, refl, sym, ap, take}
use Rattle.std.specs.Prelude.{true}
use Rattle.pack_core.specs.Cursors.{WalkSums, one_more, place_at}
use Rattle.pack_core.proofs.Walks.{reached-more}
use Rattle.page_core.specs.Private.Placing.{is_blank, level_with, point_in}
use Rattle.page_core.proofs.Places.{few_passed, blank_passed, blank_drawn, item_over}
use Rattle.page_core.proofs.list_drawing.draw_text_item.Goals as goal

pub pass_item-requires-clause-items_bounded : goal.pass_item-requires-clause-items_bounded
pass_item-requires-clause-items_bounded g c =
    let b = c.args.box_node.now in
    few_passed b.kind b.setting c.args.left.items.now c.args.left.from c.args.place.now.cursor c.requires.cursor c.requires.within c.requires.items_bounded

pub returns-then-not-pass_item-clause-over : goal.returns-then-not-pass_item-clause-over
returns-then-not-pass_item-clause-over g c none =
    let b = c.args.box_node.now in
    let h = c.args.begin.now.h in
    let v = c.args.begin.now.v in
    let from = c.args.place.now.cursor in
    let over = ap (λ (r : WalkSums). point_in b h v (place_at b.setting r)) (sym c.pass_item.ensures.cursor) ∙ c.pass_item.ensures.over c.if-not-pass_item.true in
    item_over b h v c.args.left.items.now c.args.left.from c.index-items-from.result from c.requires.within c.index-items-from.is c.requires.cursor over

pub returns-clause-cursor : goal.returns-clause-cursor
returns-clause-cursor g c =
    let b = c.args.box_node.now in
    let x = c.index-items-from.result in
    c.pass_item.ensures.cursor
    ∙ (ap (λ (r : WalkSums). one_more b.kind b.setting r x) c.requires.cursor
    ∙ reached-more b.kind b.setting c.args.left.items.now c.args.left.from x c.requires.within c.index-items-from.is)

pub returns-clause-at : goal.returns-clause-at
returns-clause-at g c = c.pass_item.ensures.at c.if-not-pass_item.false

pub returns-clause-left : goal.returns-clause-left
returns-clause-left g c =
    let b = c.args.box_node.now in
    let h = c.args.begin.now.h in
    let v = c.args.begin.now.v in
    let at = level_with c.args.place.now.v c.args.place.now.h in
    let after = level_with c.pass_item.new.place.v c.pass_item.new.place.h in
    let blank : is_blank c.index-items-from.result ≡ true = sym c.is_blank.ensures ∙ c.if-not-is_blank.false in
    let there = ap (λ (r : WalkSums). point_in b h v (place_at b.setting r)) (sym c.pass_item.ensures.cursor) ∙ c.pass_item.ensures.at c.if-not-pass_item.false in
    blank_passed b h v c.args.left.items.now c.args.left.from c.index-items-from.result c.args.place.now.cursor at after blank c.requires.within
    c.index-items-from.is c.requires.cursor c.requires.at there

pub returns-clause-marks : goal.returns-clause-marks
returns-clause-marks g c =
    let b = c.args.box_node.now in
    let blank : is_blank c.index-items-from.result ≡ true = sym c.is_blank.ensures ∙ c.if-not-is_blank.false in
    ap (g.S.MarkSink.drawn_with b.kind c.args.sink.now)
    (sym (blank_drawn b c.args.begin.now.h c.args.begin.now.v c.args.left.items.now c.args.left.from c.index-items-from.result blank c.requires.within
    c.index-items-from.is))
