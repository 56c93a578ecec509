use Rattle.std.proofs.Common.{◌≡◌, ◌∙◌, ◌+◌, ◌-◌, [], ◌∷◌, ◌++◌, length, reverse, ap, sym, subst, arith}
use Rattle.std.specs.Prelude.{pos, negsuc}
use Rattle.std.proofs.lemmas.List.{append-nil}
use Rattle.node_core.specs.Nodes.{max_nodes}
use Rattle.pack_core.specs.Items.{height_above_baseline, depth_below_baseline}
use Rattle.break_lines.specs.declared.mark.MeasuredBreak.{MeasuredBreak}
use Rattle.break_lines.specs.declared.line_sizes.PlaceSizes.{PlaceSizes}
use Rattle.break_lines.specs.LineItems.{next_kept}
use Rattle.break_lines.specs.Spans.{next_place, sizes_at}
use Rattle.break_lines.specs.Private.Marks.{no_sums}
use Rattle.break_lines.specs.Private.SmallMarks.{AreSmallMarks}
use Rattle.break_lines.proofs.Ends.{end_is_legal}
use Rattle.break_lines.proofs.Places.{lead_end}
use Rattle.break_lines.proofs.Smalls.{none}
use Rattle.break_lines.proofs.Walks.{marks_more, places_more, small_more, end_mark, none_left, none_dropped, none_negative, none_content}
use Rattle.break_lines.proofs.Tallest.{between_past, none_higher}
use Rattle.break_lines.proofs.walk.BreakWalk.at_end.Goals as goal

pub returns : goal.returns
returns c =
    let list = c.args.nodes.now in
    let n = length list in
    let mark : MeasuredBreak = record { position = n; begin = n + 1; penalty = negsuc 9999; from_position = no_sums; from_begin = no_sums } in
    let items : c.push.new.self.items ≡ mark ∷ [] = c.in_ok-push.ensures.items ∙ ap (λ ms. ms ++ mark ∷ []) c.in_ok-marks.ensures.items in
    let sizes : PlaceSizes = record { position = n; begin = n + 1; height = pos 0; depth = pos 0 } in
    let begin : n + 1 ≡ next_kept list (n + 1) = omega (arith, lead_end list (n + 1) (omega arith)) in
    let height = sym (between_past height_above_baseline list (n + 1) (next_place list (n + 1)) (omega arith)) in
    let depth = sym (between_past depth_below_baseline list (n + 1) (next_place list (n + 1)) (omega arith)) in
    let sized : sizes ≡ sizes_at list n = cc (begin, height, depth) in
    let added : c.push-2.new.self.items ≡ sizes ∷ [] = c.in_ok-push-2.ensures.items ∙ ap (λ ms. ms ++ sizes ∷ []) c.in_ok-sizes.ensures.items in
    record {
      marks = marks_more list n [] c.push.new.self.items mark _ (end_is_legal list) (end_mark list) items (append-nil _);
      few = omega (arith, ap length items);
      small_marks = subst (λ ms. AreSmallMarks (reverse ms)) (sym items) (small_more [] mark (record { from_position = none max_nodes; from_begin = none max_nodes }) (λ k m at. absurd (cc)));
      sums = none_left list;
      small_sums = none (n - n);
      begin = omega (arith, lead_end list n (omega arith));
      from_begin = λ _. none_left list;
      small_begin = none max_nodes;
      finite = none_dropped list;
      grows = λ on. none_negative list;
      plain = λ on. none_content list;
      sizes = places_more (sizes_at list) list n [] c.push-2.new.self.items sizes _ (end_is_legal list) sized added (append-nil _);
      height = none_higher height_above_baseline list n (end_is_legal list);
      depth = none_higher depth_below_baseline list n (end_is_legal list);
    }
