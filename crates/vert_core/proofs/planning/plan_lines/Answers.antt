use Rattle.std.proofs.Common.{◌≡◌, ◌∙◌, ℕ, ◌<◌, ◌++◌, ◌∷◌, [], List, length, map, get_or, true, false, ap, sym, arith}
use Rattle.std.specs.List.{list_all}
use Rattle.std.specs.Option.{is_some}
use Rattle.node_core.specs.declared.tree.BoxNode.{BoxNode}
use Rattle.node_core.specs.Items.{none}
use Rattle.node_core.specs.Nodes.{items_of}
use Rattle.pack_core.specs.Boxes.{packed_of}
use Rattle.break_lines.specs.Legal.{up_to}
use Rattle.vert_core.specs.declared.planning.PlannedLine.{PlannedLine}
use Rattle.vert_core.specs.Lines.{BrokenParagraph, broken_list, line_places, line_items, depth_before, line_fits, lines_fit, last_depth}
use Rattle.vert_core.specs.Private.Planned.{penalty_between, plan_of_line}
use Rattle.vert_core.proofs.Stacks.{count_places, depth_after_line, fits_one, all_more, all_but}
use Rattle.vert_core.proofs.Measured.{measured_depth}
use Rattle.vert_core.proofs.PlannedLines.{planned_one, count_more, map_more}
use Rattle.vert_core.proofs.planning.plan_lines.Goals as goal

pub returns-in_default-clause-fault : goal.returns-in_default-clause-fault
unfolding lines_fit
returns-in_default-clause-fault c =
    let p : BrokenParagraph = broken_list c.args.broken.now.nodes.now c.args.broken.now.ends.now c.args.broken.now.params.now c.args.previous_depth in
    let line : ℕ = c.loop-line.line in
    let below : line < length p.places = omega (arith, count_places c.args.broken.now.ends.now) in
    λ figures. all_but (line_fits p) (length p.places) line below
    (fits_one p line c.loop-line.depth false c.loop-line.invariant.depth (sym c.measure_line.ensures.fits ∙ ap is_some c.in_default.is))

pub loop-line-preserved : goal.loop-line-preserved
loop-line-preserved c =
    let p : BrokenParagraph = broken_list c.args.broken.now.nodes.now c.args.broken.now.ends.now c.args.broken.now.params.now c.args.previous_depth in
    let line : ℕ = c.loop-line.line in
    let shell = c.in-Some.measured.shell in
    let count : length c.args.broken.now.ends.now ≡ length p.places = sym (count_places c.args.broken.now.ends.now) in
    let made = c.in_ok-planned.ensures
    ∙ ap (λ n. record { glue = c.in-Some.measured.glue; box_node = (packed_of none shell).box_node; penalty = penalty_between p.params n line; begin = c.in-Some.measured.begin; end = get_or (line_places c.args.broken.now.ends.now) line 0 }) count in
    let one : c.in_ok-planned.planned ≡ plan_of_line p line =
    planned_one p line c.loop-line.depth c.in-Some.measured c.in_ok-planned.planned c.loop-line.invariant.depth c.in-Some.ensures.packed c.in-Some.ensures.glue c.in-Some.ensures.begin made in
    record {
      lines = c.push_reserved.ensures.items
          ∙ (ap (λ (xs : List PlannedLine). xs ++ c.in_ok-planned.planned ∷ []) c.loop-line.invariant.lines
          ∙ (ap (λ (x : PlannedLine). map (plan_of_line p) (up_to line) ++ x ∷ []) one ∙ sym (map_more (plan_of_line p) line)));
      count = omega (arith, c.loop-line.invariant.count, c.items_of_line-count.ensures.count, count_more c.loop-line.lines.items c.push_reserved.new.self.items c.in_ok-planned.planned c.push_reserved.ensures.items);
      few = omega (arith, c.loop-line.invariant.few, c.items_of_line-count.ensures.few);
      space = omega (arith, c.loop-line.invariant.space, c.push_reserved.ensures.len);
      capacity = omega (arith, c.loop-line.invariant.capacity, c.push_reserved.ensures.capacity);
      known = c.in-Some.ensures.next;
      depth = depth_after_line p line shell.depth (sym (measured_depth (items_of (line_items p line)) shell) ∙ ap (λ (b : BoxNode). b.depth) c.in-Some.ensures.packed);
      fit = all_more (line_fits p) line c.loop-line.invariant.fit
          (fits_one p line c.loop-line.depth true c.loop-line.invariant.depth (sym c.measure_line.ensures.fits ∙ ap is_some c.in-Some.is));
    }

pub returns-clause-depth : goal.returns-clause-depth
unfolding last_depth
returns-clause-depth c =
    let p : BrokenParagraph = broken_list c.args.broken.now.nodes.now c.args.broken.now.ends.now c.args.broken.now.params.now c.args.previous_depth in
    let last : c.loop-line.line ≡ length p.places = omega (arith, count_places c.args.broken.now.ends.now) in
    c.loop-line.invariant.depth ∙ ap (depth_before p) last

pub returns-clause-fits : goal.returns-clause-fits
unfolding lines_fit
returns-clause-fits c =
    let p : BrokenParagraph = broken_list c.args.broken.now.nodes.now c.args.broken.now.ends.now c.args.broken.now.params.now c.args.previous_depth in
    let last : c.loop-line.line ≡ length p.places = omega (arith, count_places c.args.broken.now.ends.now) in
    sym (ap (λ n. list_all (line_fits p) (up_to n)) last) ∙ c.loop-line.invariant.fit
