-- What the parts of the program pass to each other (own).
use Rattle.std.specs.Prelude.{◌≡◌, Bool, true, false, ℕ, List, Result, Ok, Err, codes}
use Rattle.std.specs.Borrow.{Bor}
use Rattle.boxglue_program.specs.declared.session.SessionFault.{SessionFault}
use Rattle.boxglue_program.specs.declared.session.SessionFault.TheVariants.{OutOfMemory as RefusesMemory, Unreadable as LosesInput}
use Rattle.boxglue_lib.specs.Ends.{TaskEnd}
use Rattle.boxglue_lib.specs.declared.task_fault.TaskFault.TheVariants.{Unwritten, OutOfMemory, Unreadable}

-- The end of a task whose session ended so, and whose client reads, or does not.
abbrev pub IsSessionEnd : Result Bool SessionFault → (reads : Bool) → TaskEnd → Type 0
IsSessionEnd (Ok accepted) true end = end ≡ Ok accepted
IsSessionEnd (Ok accepted) false end = end ≡ Err Unwritten
IsSessionEnd (Err RefusesMemory) true end = end ≡ Err OutOfMemory
IsSessionEnd (Err RefusesMemory) false end = end ≡ Err Unwritten
IsSessionEnd (Err LosesInput) reads end = (path : Bor (List ℕ)) × (end ≡ Err (Unreadable path)) × (path.now ≡ codes "-")
