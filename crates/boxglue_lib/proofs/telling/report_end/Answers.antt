-- The message about a file that could not be read.
use Rattle.boxglue_lib.proofs.EndLemmas.{tells_unreadable}
use Rattle.boxglue_lib.proofs.telling.report_end.Goals as goal

pub returns-in-Err-Unreadable-clause-errors : goal.returns-in-Err-Unreadable-clause-errors
returns-in-Err-Unreadable-clause-errors g c =
    let unread = rw c.in-Err-Unreadable.is at c.in-Err-Unreadable.field-0-is in
    tells_unreadable _ c.in-Err-Unreadable.field-0 c.in-Err-Unreadable.path _ _ c.in-Err-Unreadable.is unread c.tell.ensures
