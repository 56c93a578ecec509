use Rattle.dvi_scan.proofs.TurnLemmas.{broken_turn}
use Rattle.dvi_scan.proofs.pass_laws.broken_rules_end_the_pass.Goals as goal

pub returns : goal.returns
returns c = broken_turn
