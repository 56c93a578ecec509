use Rattle.std.proofs.Common.{◌≡◌, ◌∙◌, ◌+ℤ◌, pos, ap, arith, sym, to_z, of_z}
use Rattle.std.specs.Int.{w128}
use Rattle.std.proofs.lemmas.Int.{ints}
use Rattle.node_core.specs.declared.tree.Node.{Node}
use Rattle.pack_core.specs.Items.{advance, stretch_in, shrink_in}
use Rattle.pack_core.specs.Orders.{plus}
use Rattle.pack_core.specs.ListTotals.{ListTotals, pending_after, with_item}
use Rattle.pack_core.proofs.Passing.{advance-glue, within-more, with_item-parts, with_item-totals, with_item-no_glue}
use Rattle.pack_core.proofs.totals.Totals.pass.Goals as goal

-- An item that is not glue.
pub invariant_of-self : goal.invariant_of-self
invariant_of-self c = record {
  moves = record { low = omega (arith, ints); high = omega (arith, ints) };
  stretches = within-more _ _ _ (omega arith) c.self.invariant.stretches;
  shrinks = within-more _ _ _ (omega arith) c.self.invariant.shrinks;
  few = omega (arith, ap (λ (t : ListTotals). t.passed) c.self.view_is);
}

pub returns-in_default : goal.returns-in_default
returns-in_default c =
    let from : ListTotals = record {
      kind = c.self.inside.kind;
      advance = c.self.inside.advance;
      stretch = c.self.inside.stretch;
      shrink = c.self.inside.shrink;
      pending_depth = c.self.inside.pending_depth;
      passed = c.self.inside.passed;
    } in
    let far : to_z w128 (of_z w128 (to_z w128 (of_z w128 c.self.inside.advance) +ℤ to_z w128 (of_z w128 c.from.result))) ≡ c.self.inside.advance +ℤ advance c.self.inside.kind c.args.node.now =
    omega (arith, ints) in
    let e = rw (far, c.pending_after-self-inside.ensures) (with_item-no_glue from c.args.node.now c.in_default.not-Glue) ∙ ap (λ (t : ListTotals). with_item t c.args.node.now) c.self.view_is in
    record {
      value = e;
      totals = λ before at. e ∙ ap (λ (t : ListTotals). with_item t c.args.node.now) at ∙ with_item-totals c.args.self.now.kind before c.args.node.now;
    }

-- Glue.
pub invariant_of-self-3 : goal.invariant_of-self-3
invariant_of-self-3 c = record {
  moves = record { low = omega (arith, ints); high = omega (arith, ints) };
  stretches = within-more _ _ _ (omega arith) (c.add.ensures.bound _ c.self.invariant.stretches);
  shrinks = within-more _ _ _ (omega arith) (c.add-2.ensures.bound _ c.self.invariant.shrinks);
  few = omega (arith, ap (λ (t : ListTotals). t.passed) c.self.view_is);
}

pub returns : goal.returns
returns c =
    let from : ListTotals = record {
      kind = c.self.inside.kind;
      advance = c.self.inside.advance;
      stretch = c.self.inside.stretch;
      shrink = c.self.inside.shrink;
      pending_depth = c.self.inside.pending_depth;
      passed = c.self.inside.passed;
    } in
    let width : advance c.self.inside.kind c.args.node.now ≡ c.in-Glue.glue.width = ap (advance c.self.inside.kind) c.in-Glue.is ∙ advance-glue c.self.inside.kind c.in-Glue.glue in
    let far : to_z w128 (of_z w128 (to_z w128 (of_z w128 c.self.inside.advance) +ℤ to_z w128 (of_z w128 c.from-2.result))) ≡ c.self.inside.advance +ℤ advance c.self.inside.kind c.args.node.now =
    omega (arith, ints, width) in
    let stretch : c.add.new.self ≡ plus c.self.inside.stretch (λ order. stretch_in order c.args.node.now) =
    c.add.ensures.value ∙ ap (λ (node : Node). plus c.self.inside.stretch (λ order. stretch_in order node)) (sym c.in-Glue.is) in
    let shrink : c.add-2.new.self ≡ plus c.self.inside.shrink (λ order. shrink_in order c.args.node.now) =
    c.add-2.ensures.value ∙ ap (λ (node : Node). plus c.self.inside.shrink (λ order. shrink_in order node)) (sym c.in-Glue.is) in
    let pending : pos 0 ≡ pending_after c.self.inside.pending_depth c.args.node.now = ap (pending_after c.self.inside.pending_depth) (sym c.in-Glue.is) in
    let e = with_item-parts from c.args.node.now _ _ _ _ far stretch shrink pending ∙ ap (λ (t : ListTotals). with_item t c.args.node.now) c.self.view_is in
    record {
      value = e;
      totals = λ before at. e ∙ ap (λ (t : ListTotals). with_item t c.args.node.now) at ∙ with_item-totals c.args.self.now.kind before c.args.node.now;
    }
