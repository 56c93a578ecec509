use Rattle.boxglue_script.proofs.LineLemmas.{lines_joined}
use Rattle.boxglue_script.proofs.laws.lines_of_two_texts.Goals as goal

pub returns : goal.returns
returns c = lines_joined
