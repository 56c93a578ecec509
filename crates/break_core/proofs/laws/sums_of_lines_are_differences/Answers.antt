use Rattle.break_lines.proofs.KeptSums.{kept_sums}
use Rattle.break_core.proofs.laws.sums_of_lines_are_differences.Goals as goal

pub returns : goal.returns
returns c = kept_sums
