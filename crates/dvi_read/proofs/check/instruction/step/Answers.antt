use Rattle.std.proofs.Common.{ℕ, min, subst}
use Rattle.std.proofs.lemmas.Result.{IfErr-weaker, on_ok_weaker}
use Rattle.dvi_scan.proofs.RefusalLemmas.{handed_on}
use Rattle.dvi_ops.specs.View.{view}
use Rattle.dvi_read.specs.Steps.{IsStepFault}
use Rattle.dvi_read.specs.declared.fault.StepFault.TheVariants.{Pass}
use Rattle.dvi_read.specs.Private.Steps.{BreaksNote, BreaksPass, Notes, PassesOn}
use Rattle.dvi_read.proofs.StepLemmas.{note_fault, pass_fault, stepped}
use Rattle.tfm_core.specs.FileWidths.{file_widths}
use Rattle.dvi_read.proofs.check.instruction.step.Goals as goal

pub execute_in_walk-requires : goal.execute_in_walk-requires
execute_in_walk-requires c = c.requires.sound.codes

pub returns-in_err-execute_in_walk-clause-bad : goal.returns-in_err-execute_in_walk-clause-bad
returns-in_err-execute_in_walk-clause-bad c =
    let files = c.args.source.now.files.now in
    let after_post = c.args.source.now.after_post.now.keys in
    let most = min 1024 c.args.source.now.ending.now.postamble.stack_depth in
    let i = view c.args.op.now in
    let fault = c.in_err-execute_in_walk.field-0.0 in
    handed_on (IsStepFault files after_post most c.args.at i c.args.walk.now) c.from_residual.result (Pass fault) c.from_residual.ensures.1
    (pass_fault files after_post most c.args.at i c.args.walk.now fault c.requires.sound c.requires.current
    (subst (λ (n : ℕ). BreaksPass n i c.args.walk.now fault) c.most_pushes.ensures c.in_err-execute_in_walk.ensures.bad))

pub returns-clause-ok : goal.returns-clause-ok
returns-clause-ok c =
    let files = c.args.source.now.files.now in
    let after_post = c.args.source.now.after_post.now.keys in
    let most = min 1024 c.args.source.now.ending.now.postamble.stack_depth in
    let i = view c.args.op.now in
    let passes = subst (λ (n : ℕ). PassesOn n i c.args.walk.now c.execute_in_walk.new.walk) c.most_pushes.ensures c.in_ok-execute_in_walk.ensures.ok in
    on_ok_weaker c.check_effect.result
    (λ (notes : Notes (file_widths files) after_post c.args.at i c.execute_in_walk.new.walk c.check_effect.new.walk).
    stepped files after_post most c.args.at i c.args.walk.now c.execute_in_walk.new.walk c.check_effect.new.walk c.requires.sound c.requires.current passes notes)
    c.check_effect.ensures.ok

pub returns-clause-bad : goal.returns-clause-bad
returns-clause-bad c =
    let files = c.args.source.now.files.now in
    let after_post = c.args.source.now.after_post.now.keys in
    let most = min 1024 c.args.source.now.ending.now.postamble.stack_depth in
    let i = view c.args.op.now in
    let passes = subst (λ (n : ℕ). PassesOn n i c.args.walk.now c.execute_in_walk.new.walk) c.most_pushes.ensures c.in_ok-execute_in_walk.ensures.ok in
    IfErr-weaker c.check_effect.result (BreaksNote files after_post c.args.at i c.execute_in_walk.new.walk)
    (IsStepFault files after_post most c.args.at i c.args.walk.now)
    (λ fault broken. note_fault files after_post most c.args.at i c.args.walk.now c.execute_in_walk.new.walk fault c.requires.sound c.requires.current passes
    broken) c.check_effect.ensures.bad
