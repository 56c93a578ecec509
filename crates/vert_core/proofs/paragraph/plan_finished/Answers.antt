use Rattle.std.proofs.Common.{◌∙◌, List, length, refl, ap, sym, subst}
use Rattle.break_core.specs.declared.broken.LineEnd.{LineEnd}
use Rattle.break_lines.specs.Legal.{legal_places}
use Rattle.vert_core.specs.Lines.{broken_list, line_places, lines_fit}
use Rattle.vert_core.specs.Private.Measuring.{Follow}
use Rattle.vert_core.specs.Paragraphs.{unstacked_by, IsUnsetList}
use Rattle.vert_core.proofs.Rests.{handed_on}
use Rattle.vert_core.proofs.Unset.{unplanned_list}
use Rattle.vert_core.proofs.PlannedOrder.{broken_follows}
use Rattle.vert_core.proofs.paragraph.plan_finished.Goals as goal

pub returns-clause-plain : goal.returns-clause-plain
returns-clause-plain c = λ on. c.in_ok-breaks.ensures.measured.sizes.plain (sym c.is_plain-plain.ensures ∙ on)

pub plan_lines_that_fit-requires-clause-known : goal.plan_lines_that_fit-requires-clause-known
plan_lines_that_fit-requires-clause-known c =
    let list = c.args.nodes.now in
    let follows = broken_follows list c.args.params.now c.in_ok-breaks.breaks c.in_ok-breaks.ensures.broken in (
      c.in_ok-breaks.ensures.measured,
      record {
        begin = refl;
        follow = subst (λ (ends : List LineEnd). Follow list (line_places ends) 0 (length (legal_places list))) (sym c.deref.ensures.value) follows;
      },
    )

pub returns-in_err-plan-clause-refused : goal.returns-in_err-plan-clause-refused
returns-in_err-plan-clause-refused c =
    let list = c.args.nodes.now in
    let params = c.args.params.now in
    let previous = c.args.previous_depth in
    let fault = c.in_err-plan.field-0.0 in
    handed_on (IsUnsetList list params previous) c.from_residual-in_err-plan.result (unstacked_by fault)
    c.from_residual-in_err-plan.ensures.1
    (unplanned_list list params previous c.in_ok-breaks.breaks fault c.in_ok-breaks.ensures.fits c.in_ok-breaks.ensures.broken
    (λ figures. ap (λ (ends : List LineEnd). lines_fit (broken_list list ends params previous)) (sym c.deref.ensures.value)
    ∙ c.in_err-plan.ensures.fault figures))
