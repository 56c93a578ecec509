use Rattle.boxglue_script.proofs.LineContentLaws.{say_in_pieces}
use Rattle.boxglue_script.proofs.laws.reading_in_pieces.Goals as goal

pub returns : goal.returns
returns c = say_in_pieces
