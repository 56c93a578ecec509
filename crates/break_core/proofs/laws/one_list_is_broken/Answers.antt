use Rattle.break_core.proofs.Joined.{one_answer}
use Rattle.break_core.proofs.laws.one_list_is_broken.Goals as goal

pub returns : goal.returns
returns c = one_answer
