use Rattle.boxglue_print.proofs.ListedLemmas.{listed_back}
use Rattle.boxglue_print.proofs.round_trip_laws.typeset_scripts_are_listed.Goals as goal

pub returns : goal.returns
returns c = listed_back c.one_file.ensures
