use Rattle.std.proofs.Common.{◌≡◌, ◌∙◌, List, length, map, sym, ap, false}
use Rattle.std.proofs.lemmas.List.{length-map}
use Rattle.dvi_ops.specs.Runs.{instructions_of}
use Rattle.dvi_ops.specs.View.{body_view}
use Rattle.dvi_ops.specs.declared.body_op.BodyOp.{BodyOp}
use Rattle.move_core.specs.Private.Passes.{has_empty_group, outside_groups}
use Rattle.move_core.proofs.Apart.{length-rewritten, reused-woven}
use Rattle.move_core.proofs.page.reuse_runs.Goals as goal

pub returns : goal.returns
unfolding instructions_of
returns c body same =
    let runs = c.args.runs in
    let none : has_empty_group false (map body_view runs.ops.items) ≡ false =
    ap (λ (ops : List BodyOp). has_empty_group false (map body_view ops)) (sym c.deref.ensures.value) ∙ (sym c.has_empty_group.ensures ∙ c.if-has_empty_group.false) in
    reused-woven runs.codes.items runs.places.items (map body_view runs.ops.items) (map body_view c.in_ok-ops.ops.items) body
    (runs.paired ∙ sym (length-map runs.ops.items body_view)) none c.in_ok-ops.ensures same

pub invariant_of-result : goal.invariant_of-result
invariant_of-result c =
    let runs = c.args.runs in
    record {
      paired =
          runs.paired
          ∙ (sym (length-map runs.ops.items body_view)
          ∙ (sym (length-rewritten (map body_view runs.ops.items) outside_groups) ∙ (sym (ap length c.in_ok-ops.ensures) ∙ length-map c.in_ok-ops.ops.items body_view)));
      rising = runs.rising;
    }
