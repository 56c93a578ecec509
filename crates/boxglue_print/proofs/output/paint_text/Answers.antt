-- The text of the bitmap, or the line of the refusal.
use Rattle.std.proofs.Common.{◌≡◌, rules, List, ℕ, inl, inr, subst, sym, true}
use Rattle.boxglue_print.specs.Outputs.{IsPainting, Paints}
use Rattle.boxglue_print.specs.declared.output.Painting.{Painting}
use Rattle.raster_core.specs.PlainText.{pbm}
use Rattle.boxglue_print.proofs.output.paint_text.Goals as goal

pub returns-in-Refusal-clause-ok : goal.returns-in-Refusal-clause-ok
returns-in-Refusal-clause-ok c =
    inr (subst (λ (p : Painting). IsPainting c.args.files.now c.args.dvi.now c.args.options p) c.in-Refusal.is c.in_ok-painting.ensures.ok)

pub returns-clause-ok : goal.returns-clause-ok
returns-clause-ok c =
    let text_is : c.write_pbm.new.out.items ≡ pbm c.in-Painted.bitmap = search rules in
    inl (subst (λ (text : List ℕ). Paints c.args.files.now c.args.dvi.now c.args.options text true) (sym text_is)
    (subst (λ (p : Painting). IsPainting c.args.files.now c.args.dvi.now c.args.options p) c.in-Painted.is c.in_ok-painting.ensures.ok))
