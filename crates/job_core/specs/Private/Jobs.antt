-- The rest of `Jobs`, which no public contract reaches (own).
use Rattle.std.specs.Prelude.{◌++◌, ℕ, List, Option}
use Rattle.job_machine.specs.declared.command.Command.{Command}
use Rattle.page_core.specs.Marks.{ShippedPage}
use Rattle.dvi_write.specs.Writing.{Writing, HasWritten}
use Rattle.job_machine.specs.State.{State}
use Rattle.job_machine.specs.Checks.{checks, first_refusal}
use Rattle.job_machine.specs.Effects.{new_pages}
use Rattle.job_machine.specs.Machine.{state_by}

-- The pages after a command.
abbrev pub pages_after : State → List ShippedPage → Command → List ShippedPage
pages_after s pages command = state_by (first_refusal (checks s command)) pages (pages ++ new_pages s command)

-- What a writer has written continues with the pages that a command adds.
abbrev pub AppendsPagesOf : State → Command → Writing → Writing → Type 0
AppendsPagesOf s command old new =
    (before : Option (List ℕ)) (pages : List ShippedPage) → HasWritten s.fonts before old pages
    → HasWritten s.fonts before new (pages_after s pages command)
