use Rattle.boxglue_print.proofs.ReadBackLemmas.{read_back}
use Rattle.boxglue_print.proofs.round_trip_laws.finished_files_are_read_back.Goals as goal

pub returns : goal.returns
returns c = read_back
