use Rattle.boxglue_calls.proofs.ShortNames.{missing_names, name_sizes}
use Rattle.boxglue_calls.proofs.laws.names_are_short.Goals as goal

pub returns : goal.returns
returns c = record { names = missing_names; sizes = name_sizes }
