use Rattle.dvi_scan.proofs.StrayLemmas.{all_met, later_left, stray}
use Rattle.dvi_scan.proofs.step_laws.later_places_are_left.Goals as goal

pub returns-clause-left : goal.returns-clause-left
returns-clause-left c = later_left

pub returns-clause-stray : goal.returns-clause-stray
returns-clause-stray c = stray

pub returns-clause-met : goal.returns-clause-met
returns-clause-met c = all_met
