-- The space of a font (TFtoPL, 15).
use Rattle.node_core.specs.declared.tree.Glue.{Glue}
use Rattle.node_core.specs.declared.tree.Order.TheVariants.{Normal}
use Rattle.tfm_core.specs.declared.font.Space.{Space}

-- The glue of a space: its stretch and its shrink are of the normal order (TeX: The Program, part 46, §1042).
abbrev pub space_glue : Space → Glue
space_glue space = record {
  width = space.width;
  stretch = space.stretch;
  stretch_order = Normal;
  shrink = space.shrink;
  shrink_order = Normal;
}
