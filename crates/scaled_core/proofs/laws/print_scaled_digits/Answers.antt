use Rattle.scaled_core.proofs.PrintScaled.{print_scaled-shortest}
use Rattle.scaled_core.proofs.laws.print_scaled_digits.Goals as goal

pub returns : goal.returns
returns c = print_scaled-shortest
