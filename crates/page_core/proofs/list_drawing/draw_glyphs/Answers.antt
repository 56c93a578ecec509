use Rattle.std.proofs.Common.{◌≡◌, ◌∙◌, sym, ap, subst, take, get_or, length-take-le, ◌+◌, arith}
use Rattle.std.proofs.lemmas.Int.{ints}
use Rattle.std.specs.Prelude.{ℤ, Some}
use Rattle.std.specs.Option.{option_map}
use Rattle.node_core.specs.declared.tree.Kind.{Kind}
use Rattle.node_core.specs.declared.tree.Node.{Node}
use Rattle.node_core.specs.declared.tree.Node.TheVariants as nodes
use Rattle.pack_core.specs.Cursors.{WalkSums, one_more, place_at}
use Rattle.pack_core.proofs.Walks.{reached-more, reached-passed}
use Rattle.page_core.specs.Private.Placing.{level_with, point_in, drawn_left}
use Rattle.page_core.proofs.Walked.{glyph-next, ends, across-so}
use Rattle.page_core.proofs.Places.{item_over, glyph_passed, glyph_drawn, sums_of_run}
use Rattle.page_core.proofs.list_drawing.draw_glyphs.Goals as goal

pub returns-then-not-branch-clause-over : goal.returns-then-not-branch-clause-over
returns-then-not-branch-clause-over g c none =
    let b = c.args.box_node.now in
    let h = c.args.begin.now.h in
    let v = c.args.begin.now.v in
    let xs = c.args.left.items.now in
    let i = c.args.left.from in
    let from = c.args.place.now.cursor in
    let at = level_with c.args.place.now.v c.args.place.now.h in
    let glyph = c.in-Glyph.glyph in
    let x : Node = nodes.Glyph glyph in
    let at_i = subst (λ (y : Node). y ≡ get_or xs i y) c.in-Glyph.is c.index-items-from.is in
    let here = c.requires.at in
    let over = glyph-next b h v from at glyph c.requires.kind here
    ∙ ap (option_map (level_with at.v)) (c.in_ok-draw_first.ensures.over c.if-not-branch.true) in
    item_over b h v xs i x from c.requires.within at_i c.requires.cursor over

pub draw_run-next-requires-clause-at : goal.draw_run-next-requires-clause-at
draw_run-next-requires-clause-at g c =
    let b = c.args.box_node.now in
    let h = c.args.begin.now.h in
    let v = c.args.begin.now.v in
    let xs = c.args.left.items.now in
    let i = c.args.left.from in
    let from = c.args.place.now.cursor in
    let at = level_with c.args.place.now.v c.args.place.now.h in
    let glyph = c.in-Glyph.glyph in
    let x : Node = nodes.Glyph glyph in
    let at_i = subst (λ (y : Node). y ≡ get_or xs i y) c.in-Glyph.is c.index-items-from.is in
    let here = c.requires.at in
    let there = glyph-next b h v from at glyph c.requires.kind here
    ∙ ap (option_map (level_with at.v)) (c.in_ok-draw_first.ensures.end c.if-not-branch.false) in
    let more = ap (λ (r : WalkSums). one_more b.kind b.setting r x) c.requires.cursor ∙ reached-more b.kind b.setting xs i x c.requires.within at_i in
    ap (λ r. point_in b h v (place_at b.setting r)) (sym more)
    ∙ (there ∙ ap (λ (z : ℤ). Some (level_with z c.draw_first.new.run.h)) (sym c.draw_first.ensures.v))

pub move_over-requires-clause-items_bounded : goal.move_over-requires-clause-items_bounded
move_over-requires-clause-items_bounded g c =
    let b = c.args.box_node.now in
    let xs = c.args.left.items.now in
    let i = c.args.left.from in
    omega (
      arith,
      ap (λ (r : WalkSums). r.passed) c.requires.cursor,
      reached-passed b.kind b.setting (take i xs),
      length-take-le i xs (omega (arith, c.requires.within)),
      c.draw_run-next.ensures.onward,
      c.draw_run-next.ensures.within,
      c.requires.items_bounded,
    )

pub returns-clause-cursor : goal.returns-clause-cursor
returns-clause-cursor g c =
    let b = c.args.box_node.now in
    let h = c.args.begin.now.h in
    let v = c.args.begin.now.v in
    let xs = c.args.left.items.now in
    let i = c.args.left.from in
    let n = c.draw_run-next.result in
    let from = c.args.place.now.cursor in
    let at = level_with c.args.place.now.v c.args.place.now.h in
    let glyph = c.in-Glyph.glyph in
    let at_i = subst (λ (y : Node). y ≡ get_or xs i y) c.in-Glyph.is c.index-items-from.is in
    let here = c.requires.at in
    let there = glyph-next b h v from at glyph c.requires.kind here
    ∙ ap (option_map (level_with at.v)) (c.in_ok-draw_first.ensures.end c.if-not-branch.false) in
    let begin = ends b h v from at (level_with at.v c.draw_first.new.run.h) glyph c.requires.kind here there in
    sums_of_run b xs i n glyph from c.move_over.new.self at.h c.draw_first.new.run.h c.draw_run-next.new.run.h _ _ c.requires.kind
    c.requires.within at_i c.requires.cursor c.move_over.ensures (omega (arith, ints, c.exact_sub.ensures.value)) begin
    (omega (arith, c.draw_run-next.ensures.onward, c.draw_run-next.ensures.within, c.requires.items_bounded)) c.draw_run-next.ensures.within c.draw_run-next.ensures.natural
    c.draw_run-next.ensures.shares

pub returns-clause-at : goal.returns-clause-at
returns-clause-at g c =
    let b = c.args.box_node.now in
    let h = c.args.begin.now.h in
    let v = c.args.begin.now.v in
    let xs = c.args.left.items.now in
    let i = c.args.left.from in
    let n = c.draw_run-next.result in
    let from = c.args.place.now.cursor in
    let at = level_with c.args.place.now.v c.args.place.now.h in
    let glyph = c.in-Glyph.glyph in
    let at_i = subst (λ (y : Node). y ≡ get_or xs i y) c.in-Glyph.is c.index-items-from.is in
    let here = c.requires.at in
    let there = glyph-next b h v from at glyph c.requires.kind here
    ∙ ap (option_map (level_with at.v)) (c.in_ok-draw_first.ensures.end c.if-not-branch.false) in
    let begin = ends b h v from at (level_with at.v c.draw_first.new.run.h) glyph c.requires.kind here there in
    let sums = sums_of_run b xs i n glyph from c.move_over.new.self at.h c.draw_first.new.run.h c.draw_run-next.new.run.h _ _ c.requires.kind
    c.requires.within at_i c.requires.cursor c.move_over.ensures (omega (arith, ints, c.exact_sub.ensures.value)) begin
    (omega (arith, c.draw_run-next.ensures.onward, c.draw_run-next.ensures.within, c.requires.items_bounded)) c.draw_run-next.ensures.within c.draw_run-next.ensures.natural
    c.draw_run-next.ensures.shares in
    ap (λ (r : WalkSums). point_in b h v (place_at b.setting r)) sums ∙ c.draw_run-next.ensures.at

pub returns-clause-left : goal.returns-clause-left
returns-clause-left g c =
    let b = c.args.box_node.now in
    let h = c.args.begin.now.h in
    let v = c.args.begin.now.v in
    let xs = c.args.left.items.now in
    let i = c.args.left.from in
    let from = c.args.place.now.cursor in
    let at = level_with c.args.place.now.v c.args.place.now.h in
    let glyph = c.in-Glyph.glyph in
    let x : Node = nodes.Glyph glyph in
    let at_i = subst (λ (y : Node). y ≡ get_or xs i y) c.in-Glyph.is c.index-items-from.is in
    let here = c.requires.at in
    let there = glyph-next b h v from at glyph c.requires.kind here
    ∙ ap (option_map (level_with at.v)) (c.in_ok-draw_first.ensures.end c.if-not-branch.false) in
    c.draw_run-next.ensures.left
    ∙ glyph_passed b h v xs i glyph from at (level_with at.v c.draw_first.new.run.h) c.requires.within at_i c.requires.cursor here there

pub returns-clause-marks : goal.returns-clause-marks
returns-clause-marks g c =
    let b = c.args.box_node.now in
    let h = c.args.begin.now.h in
    let v = c.args.begin.now.v in
    let xs = c.args.left.items.now in
    let i = c.args.left.from in
    let from = c.args.place.now.cursor in
    let at = level_with c.args.place.now.v c.args.place.now.h in
    let glyph = c.in-Glyph.glyph in
    let x : Node = nodes.Glyph glyph in
    let at_i = subst (λ (y : Node). y ≡ get_or xs i y) c.in-Glyph.is c.index-items-from.is in
    let here = c.requires.at in
    let later = drawn_left b h v xs (i + 1) in
    let first = c.args.sink.now in
    let marked = c.draw_first.new.sink in
    let so_far = across-so (λ (kind : Kind). g.S.MarkSink.drawn_with kind first) (λ (kind : Kind). g.S.MarkSink.drawn_with kind marked) b.kind _ _ later
    c.requires.kind (glyph_drawn b h v xs i glyph from at c.requires.kind c.requires.within at_i c.requires.cursor here)
    (c.in_ok-draw_first.ensures.mark c.if-not-branch.false later) in
    c.draw_run-next.ensures.marks ∙ sym so_far
