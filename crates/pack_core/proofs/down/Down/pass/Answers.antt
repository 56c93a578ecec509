use Rattle.std.proofs.Common.{ap, arith}
use Rattle.std.proofs.lemmas.Int.{ints, clamps}
use Rattle.node_core.specs.declared.tree.BoxNode.{BoxNode}
use Rattle.pack_core.specs.Items.{downward, breadth, stretch_in, shrink_in}
use Rattle.pack_core.proofs.Passing.{no_stretch, no_shrink, plus-nothing, within-more}
use Rattle.pack_core.proofs.down.Down.pass.Goals as goal

-- A box.
pub returns-in-Box-clause-advance : goal.returns-in-Box-clause-advance
returns-in-Box-clause-advance c =
    omega (arith, ints, ap downward c.in-Box.is, ap (λ (b : BoxNode). b.height) c.deref.ensures, ap (λ (b : BoxNode). b.depth) c.deref-in-Box.ensures)

pub returns-in-Box-clause-breadth : goal.returns-in-Box-clause-breadth
returns-in-Box-clause-breadth c = omega (arith, ints, clamps, ap breadth c.in-Box.is, ap (λ (b : BoxNode). b.width) c.deref-in-Box-2.ensures)

pub returns-in-Box-clause-stretch : goal.returns-in-Box-clause-stretch
returns-in-Box-clause-stretch c = plus-nothing c.args.self.now.stretch (λ order. stretch_in order c.args.node.now) (λ order. ap (stretch_in order) c.in-Box.is)

pub returns-in-Box-clause-shrink : goal.returns-in-Box-clause-shrink
returns-in-Box-clause-shrink c = plus-nothing c.args.self.now.shrink (λ order. shrink_in order c.args.node.now) (λ order. ap (shrink_in order) c.in-Box.is)

pub returns-in-Box-clause-bound : goal.returns-in-Box-clause-bound
returns-in-Box-clause-bound c = λ n small. record {
  advance = record { low = omega (arith, ints, small.advance.low); high = omega (arith, ints, small.advance.high) };
  breadth = omega (arith, ints, clamps, small.breadth);
  stretch = within-more _ _ _ (omega arith) small.stretch;
  shrink = within-more _ _ _ (omega arith) small.shrink;
}

-- Glue.
pub returns-in-Glue-clause-advance : goal.returns-in-Glue-clause-advance
returns-in-Glue-clause-advance c = omega (arith, ints, ap downward c.in-Glue.is)

pub returns-in-Glue-clause-breadth : goal.returns-in-Glue-clause-breadth
returns-in-Glue-clause-breadth c = omega (arith, ints, clamps, ap breadth c.in-Glue.is, c.requires.breadth)

pub returns-in-Glue-clause-bound : goal.returns-in-Glue-clause-bound
returns-in-Glue-clause-bound c = λ n small. record {
  advance = record { low = omega (arith, ints, small.advance.low); high = omega (arith, ints, small.advance.high) };
  breadth = small.breadth;
  stretch = within-more _ _ _ (omega arith) (c.add.ensures.bound _ small.stretch);
  shrink = within-more _ _ _ (omega arith) (c.add-in-Glue.ensures.bound _ small.shrink);
}

-- Any other item.
pub returns-in_default-clause-breadth : goal.returns-in_default-clause-breadth
returns-in_default-clause-breadth c = omega (arith, ints, clamps)

pub returns-in_default-clause-stretch : goal.returns-in_default-clause-stretch
returns-in_default-clause-stretch c =
    plus-nothing c.args.self.now.stretch (λ order. stretch_in order c.args.node.now) (no_stretch c.args.node.now c.in_default.not-Glue)

pub returns-in_default-clause-shrink : goal.returns-in_default-clause-shrink
returns-in_default-clause-shrink c =
    plus-nothing c.args.self.now.shrink (λ order. shrink_in order c.args.node.now) (no_shrink c.args.node.now c.in_default.not-Glue)

pub returns-in_default-clause-bound : goal.returns-in_default-clause-bound
returns-in_default-clause-bound c = λ n small. record {
  advance = record { low = omega (arith, ints, small.advance.low); high = omega (arith, ints, small.advance.high) };
  breadth = omega (arith, ints, clamps, small.breadth);
  stretch = within-more _ _ _ (omega arith) small.stretch;
  shrink = within-more _ _ _ (omega arith) small.shrink;
}
