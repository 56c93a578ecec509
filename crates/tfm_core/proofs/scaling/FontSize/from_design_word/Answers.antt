use Rattle.tfm_core.proofs.RuleLemmas.{IsFontSize-from_design_word}
use Rattle.tfm_core.proofs.scaling.FontSize.from_design_word.Goals as goal

pub invariant_of-result : goal.invariant_of-result
invariant_of-result c = IsFontSize-from_design_word c.args.word c.ranges.word c.requires
