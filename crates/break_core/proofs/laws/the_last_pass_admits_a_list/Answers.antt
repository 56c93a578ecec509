use Rattle.break_core.proofs.Admitting.{last_admits}
use Rattle.break_core.proofs.laws.the_last_pass_admits_a_list.Goals as goal

pub returns : goal.returns
returns c = last_admits
