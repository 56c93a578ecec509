use Rattle.scaled_core.proofs.PrintedTexts.{shortest-le}
use Rattle.scaled_core.proofs.laws.printed_is_shortest.Goals as goal

pub returns : goal.returns
returns c = shortest-le
