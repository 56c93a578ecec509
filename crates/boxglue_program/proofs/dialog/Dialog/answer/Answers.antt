-- The line, and whether nothing was refused before.
use Rattle.boxglue_program.proofs.DialogLaws.{answered_after}
use Rattle.boxglue_program.proofs.dialog.Dialog.answer.Goals as goal

pub returns-clause-ok : goal.returns-clause-ok
returns-clause-ok g c =
    let line = c.in_ok-accepted.ensures.ok in
    rw (← c.self.view_is) (line.0, line.1, answered_after _ _ _ _ _ _ c.self.inside.accepted _ line.2)
