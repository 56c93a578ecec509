use Rattle.break_lines.proofs.Bounds.{fit_most}
use Rattle.break_lines.proofs.laws.badness_is_bounded.Goals as goal

pub returns : goal.returns
returns c = fit_most
