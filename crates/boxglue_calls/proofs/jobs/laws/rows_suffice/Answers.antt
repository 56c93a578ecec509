-- Each line of a piece gives at most one command, and so at most one row.
use Rattle.boxglue_calls.proofs.SpaceLaws.{enough_rows}
use Rattle.boxglue_calls.proofs.jobs.laws.rows_suffice.Goals as goal

pub returns : goal.returns
returns c = enough_rows
