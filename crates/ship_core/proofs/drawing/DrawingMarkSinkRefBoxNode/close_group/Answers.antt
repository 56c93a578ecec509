use Rattle.std.proofs.Common.{◌∙◌, sym, ap, ap₂}
use Rattle.std.specs.Prelude.{ℤ, List, Option}
use Rattle.std.proofs.lemmas.List.{append-nil}
use Rattle.dvi_ops.specs.Runs.{instructions_of}
use Rattle.dvi_ops.specs.Instruction.{Instruction}
use Rattle.page_core.specs.declared.placing.Point.{Point}
use Rattle.ship_core.proofs.Drawings.{drawn_group}
use Rattle.ship_core.proofs.drawing.DrawingMarkSinkRefBoxNode.close_group.Goals as goal

pub returns : goal.returns
returns c = record {
  group = λ kind own outer inside inner rest opened drawn.
      let self = c.args.self.now in
      let both = drawn_group kind own outer inside self c.pop.new.self inner rest opened.ops opened.h opened.v opened.font
      (sym (ap (λ (p : List Instruction × Option ℤ). p.0) drawn ∙ append-nil (instructions_of self.ops)))
      (sym (ap (λ (p : List Instruction × Option ℤ). p.1) drawn))
      c.in_ok-pop.ensures.ops (c.in_ok-pop.ensures.h ∙ ap (λ (p : Point ℤ). p.h) opened.place) (c.in_ok-pop.ensures.v ∙ ap (λ (p : Point ℤ). p.v) opened.place) c.in_ok-pop.ensures.font in
      ap₂ (λ (is : List Instruction) (font : Option ℤ). (is, font)) both.0 both.1;
}
