use Rattle.std.proofs.Common.{◌≡◌, ◌∙◌, refl, sym, ap, subst, take, get_or, ◌+◌, arith}
use Rattle.std.proofs.lemmas.Int.{ints}
use Rattle.std.specs.Prelude.{ℤ, true, Some}
use Rattle.std.specs.Option.{option_map}
use Rattle.node_core.specs.declared.tree.Kind.{Kind}
use Rattle.node_core.specs.declared.tree.Node.{Node}
use Rattle.node_core.specs.declared.tree.Node.TheVariants as nodes
use Rattle.pack_core.specs.Cursors.{WalkSums, sums_after, place_at}
use Rattle.pack_core.proofs.Walks.{reached-more}
use Rattle.page_core.specs.Private.Placing.{level_with, point_in, drawn_left}
use Rattle.page_core.proofs.Walked.{glyph-next, glyph-sums, ends, across-so}
use Rattle.page_core.proofs.Places.{glyph_passed, glyph_drawn}
use Rattle.page_core.proofs.list_drawing.draw_run.Goals as goal

pub loop-index-preserved : goal.loop-index-preserved
loop-index-preserved g c =
    let b = c.args.box_node.now in
    let h = c.args.begin.now.h in
    let v = c.args.begin.now.v in
    let xs = c.args.left.items.now in
    let i = c.loop-index.index in
    let run = c.loop-index.run in
    let after = c.draw_next.new.run in
    let glyph = c.in-Glyph.glyph in
    let x : Node = nodes.Glyph glyph in
    let at_i = subst (λ (y : Node). y ≡ get_or xs i y) c.in-Glyph.is c.index-items-index.is in
    let later = drawn_left b h v xs (i + 1) in
    let from = sums_after b.kind b.setting (take i xs) in
    let at = level_with run.v run.h in
    let end = level_with run.v after.h in
    let yes : c.draw_next.result ≡ true = c.if-not-draw_next.false in
    let there = glyph-next b h v from at glyph c.requires.kind c.loop-index.invariant.at ∙ ap (option_map (level_with run.v)) (c.draw_next.ensures.end yes) in
    let more = reached-more b.kind b.setting xs i x c.loop-index-test.true at_i in
    let sums = glyph-sums b.kind b.setting from glyph c.requires.kind in
    let moved = ends b h v from at end glyph c.requires.kind c.loop-index.invariant.at there in
    let first = c.loop-index.sink in
    let marked = c.draw_next.new.sink in
    let so_far = across-so (λ (kind : Kind). g.S.MarkSink.drawn_with kind first) (λ (kind : Kind). g.S.MarkSink.drawn_with kind marked) b.kind _ _ later
    c.requires.kind (glyph_drawn b h v xs i glyph from at c.requires.kind c.loop-index-test.true at_i refl c.loop-index.invariant.at)
    (c.draw_next.ensures.mark yes later) in
    record {
      is_at = c.draw_next.ensures.is_at yes;
      onward = omega (arith, c.loop-index.invariant.onward);
      within = omega (arith, c.loop-index-test.true);
      natural = omega (arith, ints, ap (λ (r : WalkSums). r.natural) more, sums.0, moved, c.loop-index.invariant.natural);
      shares = sym (ap (λ (r : WalkSums). r.shares) more) ∙ (sums.1 ∙ c.loop-index.invariant.shares);
      at = ap (λ r. point_in b h v (place_at b.setting r)) (sym more) ∙ (there ∙ ap (λ (z : ℤ). Some (level_with z after.h)) (sym c.draw_next.ensures.v));
      left = glyph_passed b h v xs i glyph from at end c.loop-index-test.true at_i refl c.loop-index.invariant.at there ∙ c.loop-index.invariant.left;
      marks = sym so_far ∙ c.loop-index.invariant.marks;
    }
