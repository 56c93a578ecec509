use Rattle.boxglue_lib.proofs.EndLemmas.{not_created}
use Rattle.boxglue_lib.proofs.laws.a_file_without_bytes_is_not_created.Goals as goal

pub returns : goal.returns
returns c = λ file. not_created file.is_created file.done file.written
