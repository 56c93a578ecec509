use Rattle.std.proofs.Common.{◌≡◌, ◌∙◌, List, refl, sym, ap, length, map}
use Rattle.std.specs.List.{list_any}
use Rattle.std.proofs.lemmas.List.{length-map}
use Rattle.dvi_ops.specs.Runs.{instructions_of}
use Rattle.dvi_ops.specs.View.{body_view}
use Rattle.dvi_ops.specs.declared.body_op.BodyOp.{BodyOp}
use Rattle.ship_core.specs.Private.Pushes.{max_pushed}
use Rattle.ship_core.proofs.PushDepth.{pushed-woven, depth-flat}
use Rattle.dvi_write.specs.FilePages.{selects}
use Rattle.dvi_write.proofs.FreshFonts.{fresh-is, selects-woven}
use Rattle.dvi_write.proofs.layout.fresh_slots.Goals as goal

pub returns-clause-slots : goal.returns-clause-slots
unfolding instructions_of
returns-clause-slots c =
    let body = c.args.body.now in
    c.in_ok-slots.ensures
    ∙ fresh-is _ _ _ _ 256 refl (λ slot within.
    c.pass_over-passed.ensures.selected slot within
    ∙ (ap (λ (ops : List BodyOp). list_any (selects slot) (map body_view ops)) c.deref.ensures.value
    ∙ sym (selects-woven slot 0 body.codes.items body.places.items (map body_view body.ops.items) (body.paired ∙ sym (length-map body.ops.items body_view)))))

pub returns-clause-deepest : goal.returns-clause-deepest
unfolding instructions_of
returns-clause-deepest c forest same =
    let body = c.args.body.now in
    c.pass_over-passed.ensures.deepest
    ∙ (ap (λ (ops : List BodyOp). max_pushed 0 (map body_view ops)) c.deref.ensures.value
    ∙ (sym (pushed-woven 0 0 body.codes.items body.places.items (map body_view body.ops.items) (body.paired ∙ sym (length-map body.ops.items body_view)))
    ∙ (ap (max_pushed 0) same ∙ depth-flat forest)))
