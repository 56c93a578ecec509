-- The known text, computed by the definitions.
use Rattle.boxglue_program.proofs.RowLaws.{text_answers_written}
use Rattle.boxglue_program.proofs.laws.text_answers.Goals as goal

pub returns : goal.returns
returns c = text_answers_written
