-- The instruction that a value of the code represents, case by case (own).
use Rattle.dvi_ops.specs.Instruction.{Across, Downward, First, Second, By, Set, Again, Definition, Units, Postamble, SetChar, PutChar, SetRule}
use Rattle.dvi_ops.specs.Instruction.{PutRule, Nop, Move, FontNum, FontDef, Xxx, Instruction, Do, Push, Pop, Bop, Eop, Pre, Post, PostPost}
use Rattle.dvi_ops.specs.declared.body_op.BodyOp.{BodyOp}
use Rattle.dvi_ops.specs.declared.body_op.BodyOp.TheVariants as bodies
use Rattle.dvi_ops.specs.declared.op.FontDefinition.{FontDefinition}
use Rattle.dvi_ops.specs.declared.op.Op.{Op}
use Rattle.dvi_ops.specs.declared.op.Op.TheVariants as ops
use Rattle.dvi_ops.specs.declared.op.Postamble.{Postamble as Closing}
use Rattle.dvi_ops.specs.declared.op.Units.{Units as Measures}

-- The font definition that a value of the code represents, with its area and its name as bytes.
abbrev pub definition : FontDefinition → Definition
definition d = record {
  number = d.number;
  check_sum = d.check_sum;
  size = d.size;
  design_size = d.design_size;
  area = d.area.now;
  name = d.name.now;
}

-- The units that a value of the code represents.
abbrev pub units : Measures → Units
units u = record { num = u.num; den = u.den; mag = u.mag }

-- The operands of post that a value of the code represents.
abbrev pub view_postamble : Closing → Postamble
view_postamble p = record {
  last_bop = p.last_bop;
  units = units p.units;
  height_plus_depth = p.height_plus_depth;
  width = p.width;
  stack_depth = p.stack_depth;
  pages = p.pages;
}

-- The instruction that an op of a body represents.
abbrev pub body_view : BodyOp → Instruction
body_view (bodies.SetChar c) = Do (SetChar c)
body_view (bodies.PutChar c) = Do (PutChar c)
body_view (bodies.SetRule height width) = Do (SetRule height width)
body_view (bodies.PutRule height width) = Do (PutRule height width)
body_view bodies.Nop = Do Nop
body_view bodies.Push = Push
body_view bodies.Pop = Pop
body_view (bodies.Right n) = Do (Move Across (By n))
body_view bodies.W0 = Do (Move Across (Again First))
body_view (bodies.W n) = Do (Move Across (Set First n))
body_view bodies.X0 = Do (Move Across (Again Second))
body_view (bodies.X n) = Do (Move Across (Set Second n))
body_view (bodies.Down n) = Do (Move Downward (By n))
body_view bodies.Y0 = Do (Move Downward (Again First))
body_view (bodies.Y n) = Do (Move Downward (Set First n))
body_view bodies.Z0 = Do (Move Downward (Again Second))
body_view (bodies.Z n) = Do (Move Downward (Set Second n))
body_view (bodies.FontNum f) = Do (FontNum f)
body_view (bodies.Xxx text) = Do (Xxx text.now)

-- The instruction that an op represents.
abbrev pub view : Op → Instruction
view (ops.Body op) = body_view op
view (ops.FontDef d) = Do (FontDef (definition d))
view (ops.Bop counts pointer) = Bop counts pointer
view ops.Eop = Eop
view (ops.Pre id u comment) = Pre id (units u) comment.now
view (ops.Post p) = Post (view_postamble p)
view (ops.PostPost place id) = PostPost place id
