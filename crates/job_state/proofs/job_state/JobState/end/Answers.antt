use Rattle.std.proofs.Common.{◌∙◌, List, Some, ap, sym, refl}
use Rattle.std.specs.Option.{option_copied}
use Rattle.job_machine.specs.declared.OpenList.{OpenList}
use Rattle.job_state.specs.contracts.job_state.JobState as a_kept
use Rattle.job_machine.specs.declared.command.Command.TheVariants.{End}
use Rattle.job_machine.specs.Checks.{checks, first_refusal}
use Rattle.job_machine.specs.Effects.{state_after_command}
use Rattle.job_machine.specs.Machine.{state_by}
use Rattle.job_lists.proofs.Nests.{put_back, end_refused, on_err}
use Rattle.job_state.proofs.EndedParagraphs.{end_state}
use Rattle.job_state.specs.JobStateView.{JobStateView, before_shipping}
use Rattle.job_state.proofs.job_state.JobState.end.Goals as goal

pub returns-in-Err-clause-state : goal.returns-in-Err-clause-state
returns-in-Err-clause-state c =
    let nest = c.self.inside.nest in
    let is = sym c.innermost.ensures.value ∙ ap option_copied c.in-Some.is in
    let back = c.refill.ensures ∙ put_back nest c.pack.new.self c.in-Some-pack.packed.box_node.list c.in-Some.innermost.now is c.in-Some-pack.ensures.emptied c.in-Some-pack.ensures.list in
    let refused =
    end_refused (before_shipping (a_kept.the_view c.self.inside)) c.in-Some.innermost.now c.in-Box.opening c.in-Some-pack.packed c.pack.new.self (Some c.in-Err.refusal) refl is c.in-Box.is (sym c.pack.ensures.value ∙ c.in-Some-pack.is)
    c.in-Some-pack.ensures.emptied (sym c.in-Err.ensures.err) in
    let s = before_shipping c.args.self.now in
    let found = ap (λ (t : JobStateView). first_refusal (checks (before_shipping t) End)) (sym c.self.view_is) ∙ refused in
    ap (λ (lists : List OpenList). before_shipping (a_kept.the_view (record (c.self.inside) { nest = lists }))) back
    ∙ (ap before_shipping c.self.view_is ∙ sym (ap (λ check. state_by check s (state_after_command s End)) found))

pub returns-in_err-put_closed_box-clause-err : goal.returns-in_err-put_closed_box-clause-err
returns-in_err-put_closed_box-clause-err c =
    let nest = c.self.inside.nest in
    let is = sym c.innermost.ensures.value ∙ ap option_copied c.in-Some.is in
    let back = put_back nest c.pack.new.self c.in-Some-pack.packed.box_node.list c.in-Some.innermost.now is c.in-Some-pack.ensures.emptied c.in-Some-pack.ensures.list in
    on_err c.from_residual.result (c.in_err-put_closed_box.ensures.err ∙ rw (sym c.self.view_is, back) refl)

pub returns-in-Paragraph-clause-state : goal.returns-in-Paragraph-clause-state
returns-in-Paragraph-clause-state c =
    end_state (before_shipping (a_kept.the_view c.self.inside)) (before_shipping c.args.self.now) c.in-Some.innermost.now (ap before_shipping c.self.view_is) refl (sym c.innermost.ensures.value ∙ ap option_copied c.in-Some.is) c.in-Paragraph.is
    c.end_paragraph.result c.end_paragraph.new.self c.end_paragraph.ensures.state
