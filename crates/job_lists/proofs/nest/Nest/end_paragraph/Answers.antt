use Rattle.std.proofs.Common.{◌≡◌, ◌∙◌, Option, false, ap, sym, rules}
use Rattle.std.specs.Prelude.{is_none}
use Rattle.job_machine.specs.declared.replies.Refusal.{Refusal}
use Rattle.job_machine.specs.State.{innermost, outer, items_in}
use Rattle.job_machine.specs.Machine.{reply_by}
use Rattle.job_machine.specs.Paragraphs.{set_after, paragraph_answer}
use Rattle.job_lists.proofs.ParagraphEnds.{refused_so}
use Rattle.job_lists.proofs.nest.Nest.end_paragraph.Goals as goal

pub returns-in_ok-lines_refusal-in-Err-clause-reply : goal.returns-in_ok-lines_refusal-in-Err-clause-reply
returns-in_ok-lines_refusal-in-Err-clause-reply c =
    let around = outer c.args.self.now in
    let items = items_in (innermost c.args.self.now) in
    let some : is_none (innermost around) ≡ false = search rules in
    sym (ap (λ (refusal : Option Refusal). reply_by refusal (paragraph_answer (set_after c.args.params.now around items)))
    (refused_so c.args.params.now around items c.in-Err.unappended _ some c.in-Err.ensures.refused c.in_ok-lines_refusal-in-Err.ensures.refusal))
