use Rattle.std.proofs.Common.{ap, arith}
use Rattle.std.proofs.lemmas.Int.{ints, clamps}
use Rattle.pack_core.specs.Items.{item_width, height_above_baseline, depth_below_baseline, stretch_in, shrink_in}
use Rattle.pack_core.proofs.Passing.{no_stretch, no_shrink, plus-nothing, within-more}
use Rattle.pack_core.proofs.across.Across.pass.Goals as goal

-- A character.
pub returns-in-Glyph-clause-width : goal.returns-in-Glyph-clause-width
returns-in-Glyph-clause-width c = omega (arith, ints, ap item_width c.in-Glyph.is)

pub returns-in-Glyph-clause-height : goal.returns-in-Glyph-clause-height
returns-in-Glyph-clause-height c = omega (arith, ints, clamps, ap height_above_baseline c.in-Glyph.is)

pub returns-in-Glyph-clause-depth : goal.returns-in-Glyph-clause-depth
returns-in-Glyph-clause-depth c = omega (arith, ints, clamps, ap depth_below_baseline c.in-Glyph.is)

pub returns-in-Glyph-clause-stretch : goal.returns-in-Glyph-clause-stretch
returns-in-Glyph-clause-stretch c = plus-nothing c.args.self.now.stretch (λ order. stretch_in order c.args.node.now) (λ order. ap (stretch_in order) c.in-Glyph.is)

pub returns-in-Glyph-clause-shrink : goal.returns-in-Glyph-clause-shrink
returns-in-Glyph-clause-shrink c = plus-nothing c.args.self.now.shrink (λ order. shrink_in order c.args.node.now) (λ order. ap (shrink_in order) c.in-Glyph.is)

pub returns-in-Glyph-clause-bound : goal.returns-in-Glyph-clause-bound
returns-in-Glyph-clause-bound c = λ n small. record {
  width = record { low = omega (arith, ints, small.width.low); high = omega (arith, ints, small.width.high) };
  high = omega (arith, ints, clamps, small.high);
  height = record { low = omega (arith, ints, clamps, small.height.low); high = omega (arith, ints, clamps, small.height.high) };
  deep = omega (arith, ints, clamps, small.deep);
  depth = record { low = omega (arith, ints, clamps, small.depth.low); high = omega (arith, ints, clamps, small.depth.high) };
  stretch = within-more _ _ _ (omega arith) small.stretch;
  shrink = within-more _ _ _ (omega arith) small.shrink;
}

-- Glue.
pub returns-in-Glue-clause-width : goal.returns-in-Glue-clause-width
returns-in-Glue-clause-width c = omega (arith, ints, ap item_width c.in-Glue.is)

pub returns-in-Glue-clause-bound : goal.returns-in-Glue-clause-bound
returns-in-Glue-clause-bound c = λ n small. record {
  width = record { low = omega (arith, ints, small.width.low); high = omega (arith, ints, small.width.high) };
  high = small.high;
  height = small.height;
  deep = small.deep;
  depth = small.depth;
  stretch = within-more _ _ _ (omega arith) (c.add.ensures.bound _ small.stretch);
  shrink = within-more _ _ _ (omega arith) (c.add-in-Glue.ensures.bound _ small.shrink);
}

-- A kern.
pub returns-in-FontKern-clause-width : goal.returns-in-FontKern-clause-width
returns-in-FontKern-clause-width c = omega (arith, ints, ap item_width c.in-FontKern.is)

pub returns-in-FontKern-clause-stretch : goal.returns-in-FontKern-clause-stretch
returns-in-FontKern-clause-stretch c = plus-nothing c.args.self.now.stretch (λ order. stretch_in order c.args.node.now) (λ order. ap (stretch_in order) c.in-FontKern.is)

pub returns-in-FontKern-clause-shrink : goal.returns-in-FontKern-clause-shrink
returns-in-FontKern-clause-shrink c = plus-nothing c.args.self.now.shrink (λ order. shrink_in order c.args.node.now) (λ order. ap (shrink_in order) c.in-FontKern.is)

pub returns-in-FontKern-clause-bound : goal.returns-in-FontKern-clause-bound
returns-in-FontKern-clause-bound c = λ n small. record {
  width = record { low = omega (arith, ints, small.width.low); high = omega (arith, ints, small.width.high) };
  high = small.high;
  height = small.height;
  deep = small.deep;
  depth = small.depth;
  stretch = within-more _ _ _ (omega arith) small.stretch;
  shrink = within-more _ _ _ (omega arith) small.shrink;
}

pub returns-in-Kern-clause-width : goal.returns-in-Kern-clause-width
returns-in-Kern-clause-width c = omega (arith, ints, ap item_width c.in-Kern.is)

pub returns-in-Kern-clause-stretch : goal.returns-in-Kern-clause-stretch
returns-in-Kern-clause-stretch c = plus-nothing c.args.self.now.stretch (λ order. stretch_in order c.args.node.now) (λ order. ap (stretch_in order) c.in-Kern.is)

pub returns-in-Kern-clause-shrink : goal.returns-in-Kern-clause-shrink
returns-in-Kern-clause-shrink c = plus-nothing c.args.self.now.shrink (λ order. shrink_in order c.args.node.now) (λ order. ap (shrink_in order) c.in-Kern.is)

pub returns-in-Kern-clause-bound : goal.returns-in-Kern-clause-bound
returns-in-Kern-clause-bound c = λ n small. record {
  width = record { low = omega (arith, ints, small.width.low); high = omega (arith, ints, small.width.high) };
  high = small.high;
  height = small.height;
  deep = small.deep;
  depth = small.depth;
  stretch = within-more _ _ _ (omega arith) small.stretch;
  shrink = within-more _ _ _ (omega arith) small.shrink;
}

-- Any other item that is not glue.
pub returns-in_default-clause-height : goal.returns-in_default-clause-height
returns-in_default-clause-height c = omega (arith, ints, clamps)

pub returns-in_default-clause-depth : goal.returns-in_default-clause-depth
returns-in_default-clause-depth c = omega (arith, ints, clamps)

pub returns-in_default-clause-stretch : goal.returns-in_default-clause-stretch
returns-in_default-clause-stretch c =
    plus-nothing c.args.self.now.stretch (λ order. stretch_in order c.args.node.now) (no_stretch c.args.node.now c.in_default.not-Glue)

pub returns-in_default-clause-shrink : goal.returns-in_default-clause-shrink
returns-in_default-clause-shrink c =
    plus-nothing c.args.self.now.shrink (λ order. shrink_in order c.args.node.now) (no_shrink c.args.node.now c.in_default.not-Glue)

pub returns-in_default-clause-bound : goal.returns-in_default-clause-bound
returns-in_default-clause-bound c = λ n small. record {
  width = record { low = omega (arith, ints, small.width.low); high = omega (arith, ints, small.width.high) };
  high = omega (arith, ints, clamps, small.high);
  height = record { low = omega (arith, ints, clamps, small.height.low); high = omega (arith, ints, clamps, small.height.high) };
  deep = omega (arith, ints, clamps, small.deep);
  depth = record { low = omega (arith, ints, clamps, small.depth.low); high = omega (arith, ints, clamps, small.depth.high) };
  stretch = within-more _ _ _ (omega arith) small.stretch;
  shrink = within-more _ _ _ (omega arith) small.shrink;
}
