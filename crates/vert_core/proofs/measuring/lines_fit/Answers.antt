use Rattle.std.proofs.Common.{◌≡◌, ◌∙◌, ℕ, ◌<◌, length, true, false, ap, sym, arith}
use Rattle.std.specs.List.{list_all}
use Rattle.std.specs.Option.{is_some}
use Rattle.node_core.specs.declared.tree.BoxNode.{BoxNode}
use Rattle.node_core.specs.Nodes.{items_of}
use Rattle.break_lines.specs.Legal.{up_to}
use Rattle.vert_core.specs.Lines.{BrokenParagraph, broken_list, line_items, line_fits, lines_fit}
use Rattle.vert_core.proofs.Stacks.{count_places, depth_after_line, fits_one, all_more, all_but}
use Rattle.vert_core.proofs.Measured.{measured_depth}
use Rattle.vert_core.proofs.measuring.lines_fit.Goals as goal

pub loop-line-preserved : goal.loop-line-preserved
loop-line-preserved c =
    let p : BrokenParagraph = broken_list c.args.broken.now.nodes.now c.args.broken.now.ends.now c.args.broken.now.params.now c.args.previous_depth in
    let line : ℕ = c.loop-line.line in
    let shell = c.in-Some.measured.shell in
    record {
      known = c.in-Some.ensures.next;
      depth = depth_after_line p line shell.depth (sym (measured_depth (items_of (line_items p line)) shell) ∙ ap (λ (b : BoxNode). b.depth) c.in-Some.ensures.packed);
      fit = all_more (line_fits p) line c.loop-line.invariant.fit
          (fits_one p line c.loop-line.depth true c.loop-line.invariant.depth (sym c.measure_line.ensures.fits ∙ ap is_some c.in-Some.is));
    }

pub returns-in_default : goal.returns-in_default
unfolding lines_fit
returns-in_default c =
    let p : BrokenParagraph = broken_list c.args.broken.now.nodes.now c.args.broken.now.ends.now c.args.broken.now.params.now c.args.previous_depth in
    let line : ℕ = c.loop-line.line in
    let below : line < length p.places = omega (arith, count_places c.args.broken.now.ends.now) in
    sym (all_but (line_fits p) (length p.places) line below
    (fits_one p line c.loop-line.depth false c.loop-line.invariant.depth (sym c.measure_line.ensures.fits ∙ ap is_some c.in_default.is)))

pub returns : goal.returns
unfolding lines_fit
returns c =
    let p : BrokenParagraph = broken_list c.args.broken.now.nodes.now c.args.broken.now.ends.now c.args.broken.now.params.now c.args.previous_depth in
    let last : c.loop-line.line ≡ length p.places = omega (arith, count_places c.args.broken.now.ends.now) in
    sym c.loop-line.invariant.fit ∙ ap (λ n. list_all (line_fits p) (up_to n)) last
