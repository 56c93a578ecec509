use Rattle.std.proofs.Common.{◌≡◌, ◌∙◌, Option, Some, sym, ap}
use Rattle.std.specs.Option.{is_some}
use Rattle.tfm_core.specs.declared.record.LigKernStep.{LigKernStep}
use Rattle.tfm_core.specs.Fonts.{SizedFont}
use Rattle.tfm_core.specs.Private.FontView.{start_of}
use Rattle.tfm_core.proofs.ProgramLemmas.{matching_step-from, matching_step-without}
use Rattle.tfm_core.proofs.sized_file.SizedFile.followers.Goals as goal

pub returns-in-Some : goal.returns-in-Some
returns-in-Some c f small =
    let steps_are : c.deref.result.now ≡ c.args.self.now.steps = c.deref.ensures.value ∙ ap (λ (font : SizedFont). font.steps) c.self.view_is in
    let start_is : Some c.in-Some.start ≡ start_of c.args.self.now c.args.code = sym c.in-Some.is ∙ c.requires in
    c.followers_from.ensures f small
    ∙ rw (steps_are, c.from.ensures) (ap (λ (o : Option LigKernStep). is_some o) (matching_step-from c.args.self.now c.args.code f c.in-Some.start start_is))

pub returns-in-None : goal.returns-in-None
returns-in-None c f small =
    c.new.ensures f ∙ sym (ap (λ (o : Option LigKernStep). is_some o) (matching_step-without c.args.self.now c.args.code f (sym c.in-None.is ∙ c.requires)))
