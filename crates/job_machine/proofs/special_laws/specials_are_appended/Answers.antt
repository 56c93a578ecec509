use Rattle.job_machine.proofs.AppendedSpecials.{special_answer, special_last}
use Rattle.job_machine.proofs.special_laws.specials_are_appended.Goals as goal

pub returns : goal.returns
returns c = record { answer = special_answer; list = special_last }
