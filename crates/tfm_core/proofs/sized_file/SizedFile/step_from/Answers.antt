use Rattle.std.proofs.Common.{◌∙◌, ap, subst}
use Rattle.tfm_core.specs.Fonts.{SizedFont}
use Rattle.tfm_core.specs.Private.Fonts.{IsWhole}
use Rattle.tfm_core.proofs.FontLemmas.{HasAction-from_matching}
use Rattle.tfm_core.proofs.ProgramLemmas.{step-from}
use Rattle.tfm_core.proofs.sized_file.SizedFile.step_from.Goals as goal

pub returns-clause-value : goal.returns-clause-value
returns-clause-value c =
    step-from c.args.self.now c.args.code c.args.following c.args.start c.from.result c.deref.result.now c.first_from.result c.requires
    (c.deref.ensures.value ∙ ap (λ (font : SizedFont). font.steps) c.self.view_is) c.from.ensures c.first_from.ensures

pub returns-clause-action : goal.returns-clause-action
returns-clause-action c =
    HasAction-from_matching c.args.self.now c.args.code c.args.following c.first_from.result (subst IsWhole c.self.view_is c.self.invariant)
    (step-from c.args.self.now c.args.code c.args.following c.args.start c.from.result c.deref.result.now c.first_from.result c.requires
    (c.deref.ensures.value ∙ ap (λ (font : SizedFont). font.steps) c.self.view_is) c.from.ensures c.first_from.ensures)
