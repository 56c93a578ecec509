-- The new job is in a box.
use Rattle.std.proofs.Common.{List, sym, ◌∙◌, subst}
use Rattle.tfm_core.specs.NamedBytes.{NamedBytes}
use Rattle.boxglue_calls.specs.Fonts.{files_of}
use Rattle.boxglue_calls.specs.Jobs.{IsNewJob, KeptState}
use Rattle.boxglue_calls.proofs.jobs.jobs.new_job.Goals as goal

pub returns-in-Ok : goal.returns-in-Ok
returns-in-Ok c =
    subst (λ (kept : KeptState). IsNewJob (files_of c.args.fonts.now) kept) (sym c.in-Ok.ensures.ok)
    (subst (λ (files : List NamedBytes). IsNewJob files c.in_ok-kept.kept) (c.deref.ensures.value ∙ c.in_ok-files.ensures.copied) c.in_ok-kept.ensures)
