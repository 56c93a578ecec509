use Rattle.job_machine.proofs.Refusals.{memory_for_pages, device_counted, end_unchanged}
use Rattle.job_machine.proofs.totality_laws.refusals_of_the_end.Goals as goal

pub returns : goal.returns
returns c = record { memory = memory_for_pages; device = device_counted; refused = end_unchanged }
